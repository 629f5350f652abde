-- The messages of a step over a legal diary are for platforms of the roster.
use Rattle.std.proofs.Common.{◌≡◌, inl, inr, ℕ, Bool, true, false, cond, List, [], ◌∷◌, ◌++◌, Option, Some, None, Ok, Err, refl, sym, ap, subst, ◌∙◌}
use Rattle.std.specs.Prelude.{option_map}
use Rattle.std.specs.List.{flat_map}
use Rattle.std.specs.Option.{option_to_list}
use Rattle.std.specs.Set.{is_member}
use Rattle.std.proofs.lemmas.List.{append_assoc, append-nil}
use Rattle.std.proofs.lemmas.List.Elements.{All-append, All-cons, All-nil}
use Rattle.ebl_base.specs.Checksum.{checksum_eq}
use Rattle.ebl_base.specs.declared.checksum.Checksum.{Checksum}
use Rattle.ebl_base.specs.declared.chain.ChainLink.{ChainLink}
use Rattle.ebl_base.specs.declared.entry.Entry.{Entry}
use Rattle.ebl_base.specs.declared.moment.Moment.{Moment}
use Rattle.ebl_base.specs.declared.party.Party.{Party}
use Rattle.ebl_base.specs.declared.platform_code.PlatformCode.{PlatformCode}
use Rattle.ebl_base.specs.declared.reference.Reference.{Reference}
use Rattle.ebl_base.specs.declared.signed_text.SignedText.{SignedText}
use Rattle.ebl_base.specs.declared.transaction.Transaction.{Transaction}
use Rattle.ebl_base.proofs.ChecksumLemmas.{checksum_eq-Decides}
use Rattle.envelope_manifest.specs.declared.manifest.Manifest.{Manifest}
use Rattle.envelope_manifest.specs.declared.piece.Piece.{Piece}
use Rattle.holder_commands.specs.Command.{CommandRecord, signs, acts, attaches}
use Rattle.party_roster.specs.RosterRecord.{RosterRecord, has_platform}
use Rattle.signed_envelope.specs.KeyRing.{Keys}
use Rattle.title_fold.specs.Title.{possessor}
use Rattle.title_fold.specs.Fold.{fold}
use Rattle.title_fold.proofs.FoldLemmas.{fold-push-allowed}
use Rattle.bill_chain.specs.Chain.{destination, platform_with, transactions_of}
use Rattle.platform_requests.specs.Request.{RequestRecord, commands, starts, puts, finishes, start_replies, finish_replies, resends, asks}
use Rattle.platform_requests.specs.declared.message.Message.{Message}
use Rattle.platform_requests.specs.declared.message.Message.TheVariants as messages
use Rattle.bill_diary.specs.declared.record.Record.{Record}
use Rattle.bill_diary.specs.declared.record.Record.TheVariants.{Signed, Acted, Attached, Parted, Settled, Regained, Begun, Stored, Taken, Declined}
use Rattle.bill_diary.specs.declared.frame.Frame.{Frame}
use Rattle.bill_diary.specs.declared.frame.Frame.TheVariants.{One}
use Rattle.bill_diary.specs.declared.bill_place.BillPlace.TheVariants.{Held, Parting}
use Rattle.bill_diary.specs.History.{bill_of, history, newest_first, of_bill}
use Rattle.bill_diary.specs.Known.{known, settled_chain}
use Rattle.bill_diary.specs.Place.{place_of}
use Rattle.bill_diary.specs.Searches.{first_bytes}
use Rattle.bill_diary.specs.Sound.{MayPart}
use Rattle.bill_diary.proofs.HistoryLemmas.{history_of_sound, one_frame}
use Rattle.bill_diary.proofs.KnownLemmas.{tells_known}
use Rattle.bill_diary.proofs.PlaceLemmas.{stands, WhereParting}
use Rattle.transfer_judge.specs.Legal.{AreLegal, FollowsLegally, IsLegal, PartsLegally}
use Rattle.transfer_judge.specs.Plan.{Plan, plan_of}
use Rattle.transfer_judge.specs.declared.planned.Planned.TheVariants.{Nothing, Add, Part}
use Rattle.transfer_judge.proofs.FollowLemmas.{goes_there}
use Rattle.transfer_judge.proofs.LegalLemmas.{legal_is_sound}
use Rattle.bill_chain.proofs.TitleLemmas.{transactions_of-push}
use Rattle.platform_machine.specs.declared.step.Step.{Step}
use Rattle.platform_machine.specs.Commanding.{FollowsPlan, IsParted, IsThere, manifest_for}
use Rattle.platform_machine.specs.Hearing.{StepsAtAnswer, StepsAtRequest, StepsAtStartReply}
use Rattle.platform_machine.specs.Machine.{Steps, StepsAtResend}
use Rattle.platform_machine.specs.Receiving.{StepsAtFinish, StepsAtPut, StepsAtStart}
use Rattle.platform_machine.specs.Step.{with_frame}
use Rattle.platform_machine.specs.Transfer.{IsUnderWay, SendsStart, TransferRecord, put_of, reference_at, uploads_of}
use Rattle.platform_world.specs.Machine.{AreForListed, receiver_of}

-- ---- where an entry goes that parts

-- a chain goes to a platform of the roster, if it goes anywhere
abbrev GoesToListed : RosterRecord → List ChainLink → Type 0
GoesToListed roster chain = (to : PlatformCode) → destination chain ≡ Some to → has_platform roster to ≡ true

goes_of_link : (me : PlatformCode) (h : List Record) (bill : Checksum) (link : ChainLink) (manifest : Manifest)
    (text : SignedText) (may : MayPart me h bill link manifest text)
    → destination (may.known ++ link ∷ []) ≡ Some (possessor may.after).platform
goes_of_link me h bill link manifest text may =
    ap platform_with
    (ap fold (transactions_of-push may.known link
    ∙ ap (λ (ts : List Transaction). transactions_of may.known ++ ts) may.transactions
    ∙ sym (append_assoc (transactions_of may.known) may.since (may.last ∷ [])))
    ∙ fold-push-allowed (transactions_of may.known ++ may.since) may.last may.before may.after may.title may.allowed)

parts_to_listed : (roster : RosterRecord) (keys : Keys) (me : PlatformCode) (h : List Record) (bill : Checksum)
    (link : ChainLink) (manifest : Manifest) (text : SignedText)
    → PartsLegally roster keys me h bill link manifest text
    → (K : List ChainLink) → known h ≡ Some K → GoesToListed roster (K ++ link ∷ [])
parts_to_listed roster keys me h bill link manifest text legal K k to goes =
    let may = legal.sound in
    let there = stands h (Held may.known may.since) may.held in
    let chains = sym there.known_is ∙ k in
    let same : may.known ≡ K = cc chains in
    let one = sym (goes_of_link me h bill link manifest text may)
    ∙ ap (λ (c : List ChainLink). destination (c ++ link ∷ [])) same ∙ goes in
    let platforms : (possessor may.after).platform ≡ to = cc one in
    subst (λ (p : PlatformCode). has_platform roster p ≡ true) platforms legal.listed

-- ---- where a bill goes that is parting

abbrev IfGoesToListed : RosterRecord → Option (List ChainLink) → Type 0
IfGoesToListed roster None = Unit {0}
IfGoesToListed roster (Some chain) = GoesToListed roster chain

parted_to_listed : (roster : RosterRecord) (keys : Keys) (me : PlatformCode) (h : List Record) (bill : Checksum)
    (link : ChainLink) (manifest : Manifest) (text : SignedText)
    → PartsLegally roster keys me h bill link manifest text → (o : Option (List ChainLink)) → known h ≡ o
    → IfGoesToListed roster (option_map (λ (k : List ChainLink). k ++ link ∷ []) o)
parted_to_listed roster keys me h bill link manifest text legal None is = tt
parted_to_listed roster keys me h bill link manifest text legal (Some K) is =
    parts_to_listed roster keys me h bill link manifest text legal K is

-- what a Settled of an entry would tell goes to a platform of the roster
settled_to_listed : (roster : RosterRecord) (keys : Keys) (me : PlatformCode) (bill entry : Checksum)
    (records : List Record) → AreLegal roster keys me records
    → IfGoesToListed roster (settled_chain entry (of_bill bill records))
settled_to_listed roster keys me bill entry [] legal = tt
settled_to_listed roster keys me bill entry (r ∷ records) legal =
    on_test (checksum_eq (bill_of r) bill) refl (settled_to_listed roster keys me bill entry records legal.2)
  where
    Further : Type 0
    Further = IfGoesToListed roster (settled_chain entry (of_bill bill records))

    on_record : (s : Record) → s ≡ r → bill_of s ≡ bill → Further
        → IfGoesToListed roster (settled_chain entry (s ∷ of_bill bill records))
    on_record (Parted b l m t) is bills further = on_entry (checksum_eq l.name entry) further
      where
        follows : PartsLegally roster keys me (of_bill bill records) b l m t
        follows = subst (λ (x : Checksum). PartsLegally roster keys me (of_bill x records) b l m t) bills
            (subst (λ (x : Record). FollowsLegally roster keys me records (of_bill (bill_of x) records) x) (sym is)
            legal.0)

        on_entry : (test : Bool) → Further
            → IfGoesToListed roster
            (cond test (option_map (λ (k : List ChainLink). k ++ l ∷ []) (known (of_bill bill records)))
            (settled_chain entry (of_bill bill records)))
        on_entry true more =
            parted_to_listed roster keys me (of_bill bill records) b l m t follows (known (of_bill bill records)) refl
        on_entry false more = more
    on_record (Signed b d t) is bills further = further
    on_record (Acted b t) is bills further = further
    on_record (Attached b q t) is bills further = further
    on_record (Settled b n) is bills further = further
    on_record (Regained b n) is bills further = further
    on_record (Begun b c m t) is bills further = further
    on_record (Stored b n c t) is bills further = further
    on_record (Taken b n) is bills further = further
    on_record (Declined b n c q v) is bills further = further

    on_test : (test : Bool) → checksum_eq (bill_of r) bill ≡ test → Further
        → IfGoesToListed roster (settled_chain entry (cond test (r ∷ of_bill bill records) (of_bill bill records)))
    on_test true is further = on_record r refl ((checksum_eq-Decides (bill_of r) bill).0 is) further
    on_test false is further = further

-- in a legal diary a bill that is parting goes to a platform of the roster
parting_to_listed : (roster : RosterRecord) (keys : Keys) (me : PlatformCode) (diary : List Frame) (bill : Checksum)
    (K : List ChainLink) (entry : ChainLink) → IsLegal roster keys me diary
    → place_of (history bill diary) ≡ Parting K entry → GoesToListed roster (K ++ entry ∷ [])
parting_to_listed roster keys me diary bill K entry legal is =
    let h = history bill diary in
    let where1 : WhereParting h K entry = stands h (Parting K entry) is in
    let sound = history_of_sound me diary bill (legal_is_sound roster keys me diary legal) in
    let tells : settled_chain entry.name h ≡ Some (K ++ entry ∷ []) =
    (tells_known me h sound).at_parting entry where1.parting_is
    ∙ ap (option_map (λ (k : List ChainLink). k ++ entry ∷ [])) where1.known_is in
    subst (IfGoesToListed roster) tells
    (settled_to_listed roster keys me bill entry.name (newest_first diary) legal.records)

under_way_to_listed : (roster : RosterRecord) (keys : Keys) (me : PlatformCode) (diary : List Frame) (bill : Checksum)
    (t : TransferRecord) → IsLegal roster keys me diary → IsUnderWay bill (history bill diary) t
    → has_platform roster t.to ≡ true
under_way_to_listed roster keys me diary bill t legal under =
    parting_to_listed roster keys me diary bill under.known t.entry legal under.parting t.to
    (ap destination (sym under.chain_is) ∙ under.goes)

-- ---- messages

abbrev IsForListed : RosterRecord → Message → Type 0
IsForListed roster m = has_platform roster (receiver_of m) ≡ true

pub none_listed : (roster : RosterRecord) (sent : List Message) → sent ≡ [] → AreForListed roster sent
none_listed roster sent none = subst (AreForListed roster) (sym none) (All-nil (IsForListed roster))

one_listed : (roster : RosterRecord) (m : Message) → IsForListed roster m → AreForListed roster (m ∷ [])
one_listed roster m is = All-cons (IsForListed roster) m [] is (All-nil (IsForListed roster))

start_listed : (roster : RosterRecord) (bill : Checksum) (h : List Record) (chain : List ChainLink) (text : SignedText)
    (to : PlatformCode) (sent : List Message) → has_platform roster to ≡ true
    → SendsStart bill h chain text to sent → AreForListed roster sent
start_listed roster bill h chain text to sent is sends =
    subst (AreForListed roster) (sym sends.sent_is) (one_listed roster (messages.Start to bill sends.body) is)

put_listed : (roster : RosterRecord) (bill : Checksum) (t : TransferRecord) (piece : Piece)
    → has_platform roster t.to ≡ true → (asked_for : Bool) (found : Option (List ℕ))
    → AreForListed roster (option_to_list (cond asked_for
    (option_map (λ (bytes : List ℕ). messages.Put t.to bill (reference_at bill t) piece.checksum bytes) found) None))
put_listed roster bill t piece is true None = none_listed roster [] refl
put_listed roster bill t piece is true (Some bytes) =
    one_listed roster (messages.Put t.to bill (reference_at bill t) piece.checksum bytes) is
put_listed roster bill t piece is false found = none_listed roster [] refl

puts_listed : (roster : RosterRecord) (bill : Checksum) (h : List Record) (t : TransferRecord)
    (missing : List Checksum) → has_platform roster t.to ≡ true → (pieces : List Piece)
    → AreForListed roster (flat_map (λ (piece : Piece). option_to_list (put_of bill h t missing piece)) pieces)
puts_listed roster bill h t missing is [] = none_listed roster [] refl
puts_listed roster bill h t missing is (piece ∷ pieces) =
    All-append (IsForListed roster) (option_to_list (put_of bill h t missing piece))
    (flat_map (λ (p : Piece). option_to_list (put_of bill h t missing p)) pieces)
    (put_listed roster bill t piece is (is_member checksum_eq missing piece.checksum) (first_bytes piece.checksum h))
    (puts_listed roster bill h t missing is pieces)

uploads_listed : (roster : RosterRecord) (bill : Checksum) (h : List Record) (t : TransferRecord)
    (missing : List Checksum) → has_platform roster t.to ≡ true → AreForListed roster (uploads_of bill h t missing)
uploads_listed roster bill h t missing is =
    All-append (IsForListed roster)
    (flat_map (λ (p : Piece). option_to_list (put_of bill h t missing p)) t.manifest.documents)
    (messages.Finish t.to bill (reference_at bill t) ∷ [])
    (puts_listed roster bill h t missing is t.manifest.documents)
    (one_listed roster (messages.Finish t.to bill (reference_at bill t)) is)

-- ---- each kind of step

module _ (roster : RosterRecord) (keys : Keys) (me : PlatformCode) (diary : List Frame) (step : Step)
    (legal : IsLegal roster keys me (with_frame diary step.frame)) where
  -- where nothing is written, the diary itself is legal
  as_before : step.frame ≡ None → IsLegal roster keys me diary
  as_before none =
      subst (IsLegal roster keys me) (append-nil diary)
      (subst (λ (f : Option Frame). IsLegal roster keys me (with_frame diary f)) none legal)

  part_listed : (party : Party) (command : CommandRecord) (now : Moment) (entry : Entry) (documents : List Piece)
      (to : PlatformCode) → plan_of roster me (newest_first diary) party command now ≡ Ok (Part entry documents to)
      → IsParted keys me diary entry documents to step → AreForListed roster step.messages
  part_listed party command now entry documents to plan parted =
      let h = history entry.bill diary in
      let manifest = manifest_for entry.bill parted.link.name documents in
      let written : Record = Parted entry.bill parted.link manifest parted.manifest_text in
      let after : IsLegal roster keys me (diary ++ One written ∷ []) =
      subst (λ (f : Option Frame). IsLegal roster keys me (with_frame diary f)) parted.parts.done.frame_is legal in
      let records : AreLegal roster keys me (written ∷ newest_first diary) =
      subst (AreLegal roster keys me) (one_frame diary (One written)) after.records in
      let goes = goes_there roster me (newest_first diary) party command now entry documents to parted.link plan
      parted.entry_signed.entry_is in
      let there = stands h (Held goes.known goes.since) goes.held in
      let listed : has_platform roster to ≡ true =
      parts_to_listed roster keys me h entry.bill parted.link manifest parted.manifest_text records.0 goes.known
      there.known_is to goes.goes in
      subst (AreForListed roster) (sym parted.parts.done.messages_are)
      (start_listed roster entry.bill h (parted.parts.sends.known ++ parted.link ∷ []) parted.manifest_text to
      parted.parts.sent listed parted.parts.sends.sends)

  there_listed : (command : CommandRecord) → IsThere diary command step → AreForListed roster step.messages
  there_listed (signs document) there = absurd there
  there_listed (acts bill kind recipient) there = absurd there
  there_listed (attaches bill name media bytes) there = none_listed roster step.messages there.messages_are

  command_listed : (party : Party) (command : CommandRecord) (now : Moment) (plan : Plan)
      → plan_of roster me (newest_first diary) party command now ≡ plan → FollowsPlan keys me diary command plan step
      → AreForListed roster step.messages
  command_listed party command now (Err refusal) is only = none_listed roster step.messages only.nothing_sent
  command_listed party command now (Ok Nothing) is there = there_listed command there
  command_listed party command now (Ok (Add r)) is done = none_listed roster step.messages done.messages_are
  command_listed party command now (Ok (Part entry documents to)) is parted =
      part_listed party command now entry documents to is parted

  received_listed : (body : List ℕ) → StepsAtStart roster keys me diary body step → AreForListed roster step.messages
  received_listed body (inl (refusal, refused, answers)) = none_listed roster step.messages answers.nothing_sent
  received_listed body (inr (s, shows, judged)) = none_listed roster step.messages judged.nothing_sent

  put_steps_listed : (reference : Reference) (checksum : Checksum) (bytes : List ℕ)
      → StepsAtPut keys me diary reference checksum bytes step → AreForListed roster step.messages
  put_steps_listed reference checksum bytes (inl (unknown, only)) = none_listed roster step.messages only.nothing_sent
  put_steps_listed reference checksum bytes (inr (b, is, inl (unlisted, answers))) =
      none_listed roster step.messages answers.nothing_sent
  put_steps_listed reference checksum bytes (inr (b, is, inr (piece, listed, inl (misfits, answers)))) =
      none_listed roster step.messages answers.nothing_sent
  put_steps_listed reference checksum bytes (inr (b, is, inr (piece, listed, inr (fits, stored)))) =
      none_listed roster step.messages stored.nothing_sent

  finish_listed : (reference : Reference) → StepsAtFinish roster keys me diary reference step
      → AreForListed roster step.messages
  finish_listed reference (inl (unknown, only)) = none_listed roster step.messages only.nothing_sent
  finish_listed reference (inr (b, is, answers)) = none_listed roster step.messages answers.nothing_sent

  answer_listed : (bill : Checksum) (bytes : List ℕ) → StepsAtAnswer keys diary bill bytes step
      → AreForListed roster step.messages
  answer_listed bill bytes (inl (reason, ignored, only)) = none_listed roster step.messages only.nothing_sent
  answer_listed bill bytes (inr (written, ended, done)) = none_listed roster step.messages done.messages_are

  request_listed : (bill : Checksum) (bytes : List ℕ) → StepsAtRequest diary bill bytes step
      → AreForListed roster step.messages
  request_listed bill bytes (inl (reason, ignored, only)) = none_listed roster step.messages only.nothing_sent
  request_listed bill bytes (inr (sent, (t, started, under, reads, reference, sent_is), done)) =
      subst (AreForListed roster) (sym (done.messages_are ∙ sent_is))
      (uploads_listed roster bill (history bill diary) t started.missing
      (under_way_to_listed roster keys me diary bill t (as_before done.frame_is) under))

  start_reply_listed : (bill : Checksum) (bytes : List ℕ) → StepsAtStartReply keys diary bill bytes step
      → AreForListed roster step.messages
  start_reply_listed bill bytes (inl (begins, request)) = request_listed bill bytes request
  start_reply_listed bill bytes (inr (begins, answer)) = answer_listed bill bytes answer

  resend_listed : (bill : Checksum) → StepsAtResend diary bill step → AreForListed roster step.messages
  resend_listed bill (inl (nothing, only)) = none_listed roster step.messages only.nothing_sent
  resend_listed bill (inr (sent, (t, under, sends), done)) =
      subst (AreForListed roster) (sym done.messages_are)
      (start_listed roster bill (history bill diary) t.chain t.manifest_text t.to sent
      (under_way_to_listed roster keys me diary bill t (as_before done.frame_is) under) sends)

  -- ---- all requests

  pub steps_listed : (now : Moment) (request : RequestRecord) → Steps roster keys me diary now request step
      → AreForListed roster step.messages
  steps_listed now (commands party command) steps =
      command_listed party command now (plan_of roster me (newest_first diary) party command now) refl steps
  steps_listed now (starts body) steps = received_listed body steps
  steps_listed now (puts reference checksum bytes) steps = put_steps_listed reference checksum bytes steps
  steps_listed now (finishes reference) steps = finish_listed reference steps
  steps_listed now (start_replies bill bytes) steps = start_reply_listed bill bytes steps
  steps_listed now (finish_replies bill bytes) steps = answer_listed bill bytes steps
  steps_listed now (resends bill) steps = resend_listed bill steps
  steps_listed now (asks bill) steps = none_listed roster step.messages steps.messages_are
