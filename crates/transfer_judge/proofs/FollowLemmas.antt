-- What a plan comes to may follow a legal diary.
use Rattle.std.proofs.Common.{◌≡◌, ◌+◌, ◌≤◌, ◌<◌, ℕ, Bool, true, false, not, ◌||◌, ◌&&◌, cond, List, [], ◌∷◌, ◌++◌, Option, Some, None, Ok, length, refl, sym, ap, subst, ◌∙◌, inl, inr, arith, length-append}
use Rattle.std.specs.Prelude.{◌⊎◌, count_by}
use Rattle.std.proofs.lemmas.List.{append_assoc}
use Rattle.ebl_base.specs.PlatformCode.{code_eq, IsCode}
use Rattle.ebl_base.specs.Party.{IsParty}
use Rattle.ebl_base.proofs.SameLemmas.{code_eq-Decides}
use Rattle.ebl_base.proofs.FormLemmas.{IsParty-platform}
use Rattle.ebl_base.specs.declared.checksum.Checksum.{Checksum}
use Rattle.ebl_base.specs.declared.chain.ChainLink.{ChainLink}
use Rattle.ebl_base.specs.declared.entry.Entry.{Entry}
use Rattle.ebl_base.specs.declared.kind.Kind.{Kind}
use Rattle.ebl_base.specs.declared.kind.Kind.TheVariants.{Sign, Issue, Endorse, Transfer, SurrenderForDelivery, SurrenderForAmendment, SurrenderAccepted, SurrenderRefused}
use Rattle.ebl_base.specs.declared.moment.Moment.{Moment}
use Rattle.ebl_base.specs.declared.party.Party.{Party}
use Rattle.ebl_base.specs.declared.platform_code.PlatformCode.{PlatformCode}
use Rattle.ebl_base.specs.declared.signed_text.SignedText.{SignedText}
use Rattle.ebl_base.specs.declared.transaction.Transaction.{Transaction}
use Rattle.canonical_json.specs.Value.{Value}
use Rattle.chain_entry.specs.Form.{IsTransaction, IsEntry}
use Rattle.chain_entry.specs.Writing.{entry_value}
use Rattle.chain_entry.proofs.RoundTrips.{entry-reads_back}
use Rattle.document_checksum.specs.Digest.{IsChecksum, checksum_of}
use Rattle.envelope_manifest.specs.declared.manifest.Manifest.{Manifest}
use Rattle.envelope_manifest.specs.declared.piece.Piece.{Piece}
use Rattle.envelope_manifest.specs.Manifest.{IsManifest, AreDocuments, manifest_value}
use Rattle.envelope_manifest.proofs.ManifestLemmas.{manifest_of-manifest_value}
use Rattle.holder_commands.specs.Command.{CommandRecord, signs, acts, attaches}
use Rattle.holder_commands.specs.Form.{IsCommand}
use Rattle.party_roster.specs.RosterRecord.{RosterRecord, carrier, has_platform, knows}
use Rattle.party_roster.specs.RosterForm.{IsRoster}
use Rattle.signed_envelope.specs.KeyRing.{Keys}
use Rattle.transport_document.specs.DocumentRecord as bills
use Rattle.transport_document.specs.Reading.{document_of}
use Rattle.title_fold.specs.declared.title.Title.{Title}
use Rattle.title_fold.specs.declared.title.Title.TheVariants as titles
use Rattle.title_fold.specs.Title as title
use Rattle.title_fold.specs.Title.{possessor}
use Rattle.title_fold.specs.Fold.{fold}
use Rattle.title_fold.specs.Step.{step_title}
use Rattle.title_fold.specs.Movement.{moves}
use Rattle.title_fold.specs.Allowed.{Allows}
use Rattle.title_fold.proofs.StepLemmas.{step_title-allowed}
use Rattle.title_fold.proofs.FoldLemmas.{fold-push-allowed}
use Rattle.bill_chain.specs.Chain.{transactions_of, platform_with}
use Rattle.bill_chain.proofs.TitleLemmas.{transactions_of-push}
use Rattle.bill_diary.specs.declared.record.Record.{Record}
use Rattle.bill_diary.specs.declared.record.Record.TheVariants.{Signed, Acted, Attached, Parted}
use Rattle.bill_diary.specs.declared.frame.Frame.{Frame}
use Rattle.bill_diary.specs.declared.frame.Frame.TheVariants.{One}
use Rattle.bill_diary.specs.declared.bill_place.BillPlace.TheVariants.{Held}
use Rattle.bill_diary.specs.History.{bill_of, newest_first, of_bill, history}
use Rattle.bill_diary.specs.Place.{place_of, is_ended}
use Rattle.bill_diary.specs.Pieces.{pieces_of, lists}
use Rattle.bill_diary.specs.Sound.{IsSound, IsNotAgain, is_parted}
use Rattle.bill_diary.proofs.HistoryLemmas.{history_of_sound}
use Rattle.transfer_judge.specs.Legal.{FollowsLegally, FollowsDiaryLegally, IsLegal, SignsLegally, PartsLegally}
use Rattle.transfer_judge.specs.declared.planned.Planned.{Planned}
use Rattle.transfer_judge.specs.declared.planned.Planned.TheVariants.{Nothing, Add, Part}
use Rattle.transfer_judge.specs.Plan.{HasAttempts, plan_of, plan_sign, plan_act, plan_attach, transaction_by, entry_by, piece_by, missing_party, is_unknown, party_if}
use Rattle.transfer_judge.specs.PlannedTexts.{IsHandedIn, IsLinkOf, IsManifestOf, GoesTo, IsListed}
use Rattle.transfer_judge.proofs.PlanLemmas.{past_ours, past_document, past_carrier, past_absent, one_planned, Moves, Stays, IsPlanned, act_planned, Attaches, IsAttached, attach_planned}
use Rattle.transfer_judge.proofs.FormLemmas.{entry_form, documents_form, checksum_form}
use Rattle.transfer_judge.proofs.ListedLemmas.{carrier_is_listed}
use Rattle.transfer_judge.proofs.LegalLemmas.{legal_is_sound}

-- ---- one record

module _ (roster : RosterRecord) (keys : Keys) (me : PlatformCode) (diary : List Frame) where
  one_record : (r : Record) → FollowsLegally roster keys me (newest_first diary) (of_bill (bill_of r) (newest_first diary)) r
      → IsNotAgain (newest_first diary) r → FollowsDiaryLegally roster keys me diary (One r)
  one_record r follows again = record { is_frame = tt; records = (follows, again, tt) }

  -- a document that is signed
  signed_follows : (party : Party) (now : Moment) (value : Value) (r : Record) → IsHandedIn party (signs value) now
      → party.platform ≡ me → plan_sign roster (newest_first diary) party now value ≡ Ok (Add r)
      → FollowsDiaryLegally roster keys me diary (One r)
  signed_follows party now value r given ours is =
      let (document, reads, is1) = past_document (document_of value) _ (Add r) is in
      let (by_carrier, is2) = past_carrier (carrier roster document.provider document.code) party _ (Add r) is1 in
      let (absent, is3) = past_absent (place_of (of_bill (bills.bill_of document) (newest_first diary))) _ (Add r) is2 in
      let made = Signed (bills.bill_of document) document.text (transaction_by party now Sign None) in
      let adds : Add made ≡ Add r = one_planned (Add made) (Add r) (Ok (Add made)) refl is3 in
      let same : made ≡ r = cc adds in
      let signs_so : SignsLegally roster me (of_bill (bills.bill_of document) (newest_first diary))
      (bills.bill_of document) document.text (transaction_by party now Sign None) = record {
        sound = record {
          absent = absent;
          document_is = record {
            value = value;
            lawful = given.form.0;
            texts = given.form.1;
            nests = given.nests;
            document = document;
            reads = reads;
            text_is = refl;
            names = refl;
          };
          form = record { actor = given.by; recipient = tt; time = given.time };
          kind = refl;
          recipient = refl;
          actor = ours;
        };
        by_carrier = by_carrier;
      } in
      subst (λ (x : Record). FollowsDiaryLegally roster keys me diary (One x)) same (one_record made signs_so tt)

  -- a transaction that leaves possession here
  acted_follows : (party : Party) (now : Moment) (bill : Checksum) (kind : Kind) (recipient : Option Party) (r : Record)
      → IsHandedIn party (acts bill kind recipient) now
      → plan_act roster me (of_bill bill (newest_first diary)) bill (transaction_by party now kind recipient) ≡ Ok (Add r)
      → FollowsDiaryLegally roster keys me diary (One r)
  acted_follows party now bill kind recipient r given is =
      on_planned (act_planned roster me (of_bill bill (newest_first diary)) bill (transaction_by party now kind recipient) (Add r) is)
    where
      on_planned : IsPlanned roster me (of_bill bill (newest_first diary)) bill (transaction_by party now kind recipient) (Add r)
          → FollowsDiaryLegally roster keys me diary (One r)
      on_planned a = on_kind a.comes
        where
          on_kind : ((moves a.before a.after ≡ true)
              × Moves me (of_bill bill (newest_first diary)) bill (transaction_by party now kind recipient) a.known a.since a.after (Add r))
              ⊎ ((moves a.before a.after ≡ false) × Stays bill (transaction_by party now kind recipient) a.since (Add r))
              → FollowsDiaryLegally roster keys me diary (One r)
          on_kind (inl (moved, out)) = cc out.2
          on_kind (inr (stays, out)) =
              let adds = out.1 in
              let same : Acted bill (transaction_by party now kind recipient) ≡ r = cc adds in
              subst (λ (x : Record). FollowsDiaryLegally roster keys me diary (One x)) same
              (one_record (Acted bill (transaction_by party now kind recipient))
              (record {
                known = a.known;
                since = a.since;
                held = a.held;
                before = a.before;
                title = a.title;
                after = a.after;
                allowed = a.allowed;
                stays = stays;
                form = record { actor = given.by; recipient = given.form.2; time = given.time };
                room = out.0;
              }) tt)

  -- an attachment
  attached_follows : (party : Party) (now : Moment) (bill : Checksum) (name media bytes : List ℕ) (r : Record)
      → IsHandedIn party (attaches bill name media bytes) now
      → plan_attach (of_bill bill (newest_first diary)) bill party name media bytes ≡ Ok (Add r)
      → FollowsDiaryLegally roster keys me diary (One r)
  attached_follows party now bill name media bytes r given is =
      on_planned (attach_planned (of_bill bill (newest_first diary)) bill party name media bytes (Add r) is)
    where
      on_planned : IsAttached (of_bill bill (newest_first diary)) bill party name media bytes (Add r)
          → FollowsDiaryLegally roster keys me diary (One r)
      on_planned a = on_kind a.comes
        where
          on_kind : Attaches bill (of_bill bill (newest_first diary)) name media bytes (Add r)
              → FollowsDiaryLegally roster keys me diary (One r)
          on_kind (inl (listed, nothing)) = cc nothing
          on_kind (inr (new, few, room, adds)) =
              let same : Attached bill (piece_by name media bytes) bytes ≡ r = cc adds in
              let size = a.size in
              subst (λ (x : Record). FollowsDiaryLegally roster keys me diary (One x)) same
              (one_record (Attached bill (piece_by name media bytes) bytes)
              (record {
                known = a.known;
                since = a.since;
                held = a.held;
                lives = ap is_ended a.folds ∙ a.lives;
                form = record {
                  name = given.form.1.0;
                  name_utf8 = given.form.1.1;
                  media = given.form.2.0;
                  media_utf8 = given.form.2.1;
                  size = size;
                  checksum = checksum_form bytes;
                };
                fits = record { size = refl; checksum = refl };
                new = new;
                size = size;
                count = omega arith;
                together = room;
              }) tt)

  -- a record that is planned may follow
  pub record_follows : (party : Party) (command : CommandRecord) (now : Moment) (r : Record)
      → IsHandedIn party command now → plan_of roster me (newest_first diary) party command now ≡ Ok (Add r)
      → FollowsDiaryLegally roster keys me diary (One r)
  record_follows party (signs value) now r given is =
      let (ours, is1) = past_ours me party _ (Add r) is in
      signed_follows party now value r given ours is1
  record_follows party (acts bill kind recipient) now r given is =
      let (ours, is1) = past_ours me party _ (Add r) is in
      acted_follows party now bill kind recipient r given is1
  record_follows party (attaches bill name media bytes) now r given is =
      let (ours, is1) = past_ours me party _ (Add r) is in
      attached_follows party now bill name media bytes r given is1

-- ---- possession goes to a listed platform

if_unlisted : (so : Bool) (party : Party) → party_if (not so) party ≡ None → so ≡ true
if_unlisted true party none = refl
if_unlisted false party none = absurd (let no : Some party ≡ None = none in cc)

known_listed : (roster : RosterRecord) (me : PlatformCode) (to : Party) → party_if (is_unknown roster me to) to ≡ None
    → has_platform roster to.platform ≡ true
known_listed roster me to none =
    on_tests (has_platform roster to.platform) (code_eq to.platform me && not (knows roster to)) none
  where
    on_tests : (listed rest : Bool) → cond (not listed || rest) (Some to) None ≡ None → listed ≡ true
    on_tests true rest is = refl
    on_tests false rest is = absurd (let no : Some to ≡ None = is in cc)

stays_put : (p : Party) (X : Type 0) → not (code_eq p.platform p.platform) ≡ true → X
stays_put p X moved =
    let same = (code_eq-Decides p.platform p.platform).1 refl in
    let two : false ≡ true = sym (ap not same) ∙ moved in
    absurd (cc two)

-- a step that moves goes to a listed platform, where the carrier's is listed
listed_on : (roster : RosterRecord) (me : PlatformCode) (before : Title) (kind : Kind) (actor : Party)
    (recipient : Option Party) (after : Title)
    → Allows (Some before) kind actor recipient after → moves (Some before) after ≡ true
    → missing_party roster me (Some before) kind recipient ≡ None
    → has_platform roster (title.carrier before).platform ≡ true
    → has_platform roster (possessor after).platform ≡ true
listed_on roster me (titles.Signed c) Issue actor (Some to) after takes moved none carriers =
    subst (λ (x : Title). has_platform roster (possessor x).platform ≡ true) (sym takes.1) (known_listed roster me to none)
listed_on roster me (titles.Live c p h) Endorse actor (Some to) after takes moved none carriers =
    stays_put p (has_platform roster (possessor after).platform ≡ true)
    (subst (λ (x : Title). moves (Some (titles.Live c p h)) x ≡ true) takes.3 moved)
listed_on roster me (titles.Live c p h) Transfer actor (Some to) after takes moved none carriers =
    subst (λ (x : Title). has_platform roster (possessor x).platform ≡ true) (sym takes.2) (known_listed roster me to none)
listed_on roster me (titles.Live c p h) SurrenderForDelivery actor None after takes moved none carriers =
    subst (λ (x : Title). has_platform roster (possessor x).platform ≡ true) (sym takes.2) carriers
listed_on roster me (titles.Live c p h) SurrenderForAmendment actor None after takes moved none carriers =
    subst (λ (x : Title). has_platform roster (possessor x).platform ≡ true) (sym takes.2) carriers
listed_on roster me (titles.Asked asked c by) SurrenderAccepted actor None after takes moved none carriers =
    stays_put c (has_platform roster (possessor after).platform ≡ true)
    (subst (λ (x : Title). moves (Some (titles.Asked asked c by)) x ≡ true) takes.1 moved)
listed_on roster me (titles.Asked asked c by) SurrenderRefused actor None after takes moved none carriers =
    subst (λ (x : Title). has_platform roster (possessor x).platform ≡ true) (sym takes.1)
    (if_unlisted (has_platform roster by.platform) by none)
listed_on roster me before kind actor recipient after takes moved none carriers = absurd takes

step_listed : (roster : RosterRecord) (me : PlatformCode) (before : Option Title) (t : Transaction) (after : Title)
    → step_title before t ≡ Ok after → moves before after ≡ true → missing_party roster me before t.kind t.recipient ≡ None
    → ((title1 : Title) → before ≡ Some title1 → has_platform roster (title.carrier title1).platform ≡ true)
    → has_platform roster (possessor after).platform ≡ true
step_listed roster me None t after taken moved none carriers = absurd (let no : false ≡ true = moved in cc)
step_listed roster me (Some before) t after taken moved none carriers =
    listed_on roster me before t.kind t.actor t.recipient after (step_title-allowed (Some before) t after taken) moved none
    (carriers before refl)

-- ---- an entry that parts

-- a transaction that parts
pub record PlannedPart (roster : RosterRecord) (me : PlatformCode) (records : List Record) (party : Party)
    (command : CommandRecord) (now : Moment) (entry : Entry) (documents : List Piece) (to : PlatformCode) : Type 0 where
  pub bill : Checksum
  pub kind : Kind
  pub recipient : Option Party
  pub command_is : command ≡ acts bill kind recipient
  pub ours : party.platform ≡ me
  pub known : List ChainLink
  pub since : List Transaction
  pub held : place_of (of_bill bill records) ≡ Held known since
  pub before : Option Title
  pub title : fold (transactions_of known ++ since) ≡ Ok before
  pub none_missing : missing_party roster me before kind recipient ≡ None
  pub after : Title
  pub allowed : step_title before (transaction_by party now kind recipient) ≡ Ok after
  pub moved : moves before after ≡ true
  pub few : length known < 64
  pub room : length since + 1 ≤ 32
  pub entry_is : entry_by me bill (of_bill bill records) known since (transaction_by party now kind recipient) ≡ entry
  pub documents_is : pieces_of (of_bill bill records) ≡ documents
  pub to_is : (possessor after).platform ≡ to

module _ (roster : RosterRecord) (me : PlatformCode) (records : List Record) (party : Party) (now : Moment)
    (entry : Entry) (documents : List Piece) (to : PlatformCode) where
  no_record : (value : Value) → plan_sign roster records party now value ≡ Ok (Part entry documents to) → ⊥
  no_record value is =
      let (document, reads, is1) = past_document (document_of value) _ (Part entry documents to) is in
      let (by_carrier, is2) = past_carrier (carrier roster document.provider document.code) party _ (Part entry documents to) is1 in
      let (absent, is3) = past_absent (place_of (of_bill (bills.bill_of document) records)) _ (Part entry documents to) is2 in
      cc is3

  no_attachment : (h : List Record) (bill : Checksum) (name media bytes : List ℕ)
      → plan_attach h bill party name media bytes ≡ Ok (Part entry documents to) → ⊥
  no_attachment h bill name media bytes is =
      on_kind (attach_planned h bill party name media bytes (Part entry documents to) is).comes
    where
      on_kind : Attaches bill h name media bytes (Part entry documents to) → ⊥
      on_kind (inl (listed, nothing)) = cc nothing
      on_kind (inr (new, few, room, adds)) = cc adds

  of_act : (bill : Checksum) (kind : Kind) (recipient : Option Party) → party.platform ≡ me
      → IsPlanned roster me (of_bill bill records) bill (transaction_by party now kind recipient) (Part entry documents to)
      → PlannedPart roster me records party (acts bill kind recipient) now entry documents to
  of_act bill kind recipient ours a = on_kind a.comes
    where
      on_kind : ((moves a.before a.after ≡ true)
          × Moves me (of_bill bill records) bill (transaction_by party now kind recipient) a.known a.since a.after (Part entry documents to))
          ⊎ ((moves a.before a.after ≡ false)
          × Stays bill (transaction_by party now kind recipient) a.since (Part entry documents to))
          → PlannedPart roster me records party (acts bill kind recipient) now entry documents to
      on_kind (inr (stays, out)) = cc out.1
      on_kind (inl (moved, out)) = let parts = out.2 in record {
        bill = bill;
        kind = kind;
        recipient = recipient;
        command_is = refl;
        ours = ours;
        known = a.known;
        since = a.since;
        held = a.held;
        before = a.before;
        title = a.title;
        none_missing = a.none_missing;
        after = a.after;
        allowed = a.allowed;
        moved = moved;
        few = out.0;
        room = out.1;
        entry_is = cc parts;
        documents_is = cc parts;
        to_is = cc parts;
      }

  pub planned_part : (command : CommandRecord) → plan_of roster me records party command now ≡ Ok (Part entry documents to)
      → PlannedPart roster me records party command now entry documents to
  planned_part (signs value) is =
      let (ours, is1) = past_ours me party _ (Part entry documents to) is in absurd (no_record value is1)
  planned_part (acts bill kind recipient) is =
      let (ours, is1) = past_ours me party _ (Part entry documents to) is in
      of_act bill kind recipient ours
      (act_planned roster me (of_bill bill records) bill (transaction_by party now kind recipient) (Part entry documents to) is1)
  planned_part (attaches bill name media bytes) is =
      let (ours, is1) = past_ours me party _ (Part entry documents to) is in
      absurd (no_attachment (of_bill bill records) bill name media bytes is1)

bill_form : (party : Party) (command : CommandRecord) (now : Moment) (bill : Checksum) (kind : Kind) (recipient : Option Party)
    → IsHandedIn party command now → command ≡ acts bill kind recipient
    → IsChecksum bill × IsTransaction (transaction_by party now kind recipient)
bill_form party command now bill kind recipient given is =
    let form : IsCommand (acts bill kind recipient) = subst IsCommand is given.form in
    (form.0, record { actor = given.by; recipient = form.2; time = given.time })

attempts_left : (command : CommandRecord) (records : List Record) (bill : Checksum) (kind : Kind) (recipient : Option Party)
    → command ≡ acts bill kind recipient → HasAttempts command records
    → count_by is_parted (of_bill bill records) < 4294967295
attempts_left command records bill kind recipient is has =
    subst (λ (c : CommandRecord). HasAttempts c records) is has

-- the forms of what is planned
pub planned_forms : (roster : RosterRecord) (me : PlatformCode) (diary : List Frame) (party : Party) (command : CommandRecord)
    (now : Moment) (entry : Entry) (documents : List Piece) (to : PlatformCode)
    → IsSound me diary → IsHandedIn party command now → HasAttempts command (newest_first diary)
    → PlannedPart roster me (newest_first diary) party command now entry documents to
    → IsEntry entry × AreDocuments documents
planned_forms roster me diary party command now entry documents to sound given has p =
    let h = of_bill p.bill (newest_first diary) in
    let history_sound = history_of_sound me diary p.bill sound in
    let forms = bill_form party command now p.bill p.kind p.recipient given p.command_is in
    let few = attempts_left command (newest_first diary) p.bill p.kind p.recipient p.command_is has in
    let code : IsCode me = subst IsCode p.ours (IsParty-platform party given.by) in (
      subst IsEntry p.entry_is
          (entry_form me p.bill h p.known p.since (transaction_by party now p.kind p.recipient) history_sound p.held code
          forms.0 forms.1 few p.room),
      subst AreDocuments p.documents_is (documents_form me h history_sound),
    )

-- the entry that is planned, with its own text and its manifest's, may follow
pub entry_follows : (roster : RosterRecord) (keys : Keys) (me : PlatformCode) (diary : List Frame) (party : Party)
    (command : CommandRecord) (now : Moment) (entry : Entry) (documents : List Piece) (to : PlatformCode)
    (link : ChainLink) (manifest : Manifest) (text : SignedText)
    → IsRoster roster → IsLegal roster keys me diary → IsHandedIn party command now
    → HasAttempts command (newest_first diary)
    → plan_of roster me (newest_first diary) party command now ≡ Ok (Part entry documents to)
    → IsLinkOf keys me entry link → IsManifestOf keys me link documents manifest text
    → FollowsDiaryLegally roster keys me diary (One (Parted entry.bill link manifest text))
entry_follows roster keys me diary party command now entry documents to link manifest text listed legal given has is l m =
    on_part (planned_part roster me (newest_first diary) party now entry documents to command is)
  where
    sound : IsSound me diary
    sound = legal_is_sound roster keys me diary legal

    on_part : PlannedPart roster me (newest_first diary) party command now entry documents to
        → FollowsDiaryLegally roster keys me diary (One (Parted entry.bill link manifest text))
    on_part p =
        let forms = planned_forms roster me diary party command now entry documents to sound given has p in
        let made = entry_by me p.bill (of_bill p.bill (newest_first diary)) p.known p.since (transaction_by party now p.kind p.recipient) in
        let whole : link.entry ≡ made = l.has_entry ∙ sym p.entry_is in
        let bill_is : entry.bill ≡ p.bill = ap (λ (e : Entry). e.bill) (sym p.entry_is) in
        let many = length-append p.since (transaction_by party now p.kind p.recipient ∷ []) in
        let room = p.room in
        let count : length made.transactions ≤ 32 = omega arith in
        let named : IsManifest manifest = record {
          bill = subst IsChecksum (sym (m.names_bill ∙ ap (λ (e : Entry). e.bill) l.has_entry)) forms.0.bill;
          last = subst IsChecksum (sym (m.names_link ∙ l.name)) (checksum_form link.text.0);
          documents = subst AreDocuments (sym m.lists) forms.1;
        } in
        let parts : PartsLegally roster keys me (of_bill p.bill (newest_first diary)) p.bill link manifest text = record {
          sound = record {
            known = p.known;
            since = p.since;
            held = p.held;
            room = p.few;
            platform = ap (λ (e : Entry). e.platform) whole;
            bill_is = ap (λ (e : Entry). e.bill) whole;
            previous = ap (λ (e : Entry). e.previous) whole;
            attempt = ap (λ (e : Entry). e.attempt) whole;
            last = transaction_by party now p.kind p.recipient;
            transactions = ap (λ (e : Entry). e.transactions) whole;
            count = subst (λ (e : Entry). length e.transactions ≤ 32) (sym whole) count;
            before = p.before;
            title = p.title;
            after = p.after;
            allowed = p.allowed;
            moved = p.moved;
            link_is = record {
              name = l.name;
              payload = entry_value entry;
              has_payload = record { parts = l.signed.parts; compact = l.signed.compact; reads = l.signed.payload };
              reads_as = entry-reads_back entry forms.0 ∙ ap Ok (sym l.has_entry);
            };
            manifest_is = record {
              payload = manifest_value manifest;
              has_payload = record { parts = m.signed.parts; compact = m.signed.compact; reads = m.signed.payload };
              reads_as = manifest_of-manifest_value manifest named;
            };
            manifest_form = named;
            names_bill = m.names_bill ∙ ap (λ (e : Entry). e.bill) whole;
            names_last = m.names_link;
            documents = m.lists ∙ sym p.documents_is;
          };
          listed = step_listed roster me p.before (transaction_by party now p.kind p.recipient) p.after p.allowed p.moved
              p.none_missing
              (λ title1 before_is.
              carrier_is_listed roster keys me listed p.bill (newest_first diary) legal.records
              (history_of_sound me diary p.bill sound) p.known p.since title1 p.held (p.title ∙ ap Ok before_is));
          entry_signed = (entry_value entry, l.signed);
          manifest_signed = (manifest_value manifest, m.signed);
        } in
        one_record roster keys me diary (Parted entry.bill link manifest text)
        (subst (λ (b : Checksum). PartsLegally roster keys me (of_bill b (newest_first diary)) b link manifest text) (sym bill_is) parts) tt

-- ---- what else is planned

-- the attempt is the next of the entry's bill
pub attempt_is_next : (roster : RosterRecord) (me : PlatformCode) (records : List Record) (party : Party)
    (command : CommandRecord) (now : Moment) (entry : Entry) (documents : List Piece) (to : PlatformCode)
    → plan_of roster me records party command now ≡ Ok (Part entry documents to)
    → entry.attempt ≡ count_by is_parted (of_bill entry.bill records) + 1
attempt_is_next roster me records party command now entry documents to is =
    let p = planned_part roster me records party now entry documents to command is in
    ap (λ (e : Entry). e.attempt) (sym p.entry_is)
    ∙ ap (λ (b : Checksum). count_by is_parted (of_bill b records) + 1) (ap (λ (e : Entry). e.bill) p.entry_is)

-- the platform is where the chain goes with the entry
pub goes_there : (roster : RosterRecord) (me : PlatformCode) (records : List Record) (party : Party)
    (command : CommandRecord) (now : Moment) (entry : Entry) (documents : List Piece) (to : PlatformCode) (link : ChainLink)
    → plan_of roster me records party command now ≡ Ok (Part entry documents to) → link.entry ≡ entry
    → GoesTo (place_of (of_bill entry.bill records)) link to
goes_there roster me records party command now entry documents to link is link_is =
    let p = planned_part roster me records party now entry documents to command is in
    let t = transaction_by party now p.kind p.recipient in
    let bills : entry.bill ≡ p.bill = ap (λ (e : Entry). e.bill) (sym p.entry_is) in
    let made : link.entry.transactions ≡ p.since ++ t ∷ [] =
    ap (λ (e : Entry). e.transactions) (link_is ∙ sym p.entry_is) in
    let list : transactions_of (p.known ++ link ∷ []) ≡ (transactions_of p.known ++ p.since) ++ t ∷ [] =
    transactions_of-push p.known link ∙ ap (λ (ts : List Transaction). transactions_of p.known ++ ts) made
    ∙ sym (append_assoc (transactions_of p.known) p.since (t ∷ [])) in
    let folds : fold (transactions_of (p.known ++ link ∷ [])) ≡ Ok (Some p.after) =
    ap fold list ∙ fold-push-allowed (transactions_of p.known ++ p.since) t p.before p.after p.title p.allowed in
    record {
      known = p.known;
      since = p.since;
      held = ap (λ (b : Checksum). place_of (of_bill b records)) bills ∙ p.held;
      goes = ap platform_with folds ∙ ap Some p.to_is;
    }

-- nothing comes of an attachment alone, whose bytes are listed
pub nothing_is_new : (roster : RosterRecord) (me : PlatformCode) (records : List Record) (party : Party)
    (command : CommandRecord) (now : Moment) → plan_of roster me records party command now ≡ Ok Nothing
    → IsListed records command
nothing_is_new roster me records party (signs value) now is =
    let (ours, is1) = past_ours me party _ Nothing is in
    let (document, reads, is2) = past_document (document_of value) _ Nothing is1 in
    let (by_carrier, is3) = past_carrier (carrier roster document.provider document.code) party _ Nothing is2 in
    let (absent, is4) = past_absent (place_of (of_bill (bills.bill_of document) records)) _ Nothing is3 in
    cc is4
nothing_is_new roster me records party (acts bill kind recipient) now is =
    let (ours, is1) = past_ours me party _ Nothing is in
    on_act (act_planned roster me (of_bill bill records) bill (transaction_by party now kind recipient) Nothing is1)
  where
    on_act : IsPlanned roster me (of_bill bill records) bill (transaction_by party now kind recipient) Nothing → ⊥
    on_act a = on_kind a.comes
      where
        on_kind : ((moves a.before a.after ≡ true)
            × Moves me (of_bill bill records) bill (transaction_by party now kind recipient) a.known a.since a.after Nothing)
            ⊎ ((moves a.before a.after ≡ false) × Stays bill (transaction_by party now kind recipient) a.since Nothing) → ⊥
        on_kind (inl (moved, out)) = cc out.2
        on_kind (inr (stays, out)) = cc out.1
nothing_is_new roster me records party (attaches bill name media bytes) now is =
    let (ours, is1) = past_ours me party _ Nothing is in
    on_attach (attach_planned (of_bill bill records) bill party name media bytes Nothing is1).comes
  where
    on_attach : Attaches bill (of_bill bill records) name media bytes Nothing
        → lists (pieces_of (of_bill bill records)) (checksum_of bytes) ≡ true
    on_attach (inl (listed, nothing)) = listed
    on_attach (inr (new, few, room, adds)) = cc adds
