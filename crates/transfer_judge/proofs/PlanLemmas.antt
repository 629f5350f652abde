-- What a plan that isn't refused has passed.
use Rattle.std.proofs.Common.{◌≡◌, ◌+◌, ◌≤◌, ◌<◌, ℕ, Bool, true, false, cond, List, [], ◌∷◌, ◌++◌, Option, Some, None, Result, Ok, Err, length, refl, sym, ap, ◌∙◌, inl, inr}
use Rattle.std.specs.Prelude.{◌⊎◌, nat_lt, nat_le}
use Rattle.std.proofs.lemmas.Bool.{leb-true, ltb-true}
use Rattle.ebl_base.specs.PlatformCode.{code_eq}
use Rattle.ebl_base.specs.Party.{party_eq}
use Rattle.ebl_base.proofs.SameLemmas.{code_eq-Decides, party_eq-Decides}
use Rattle.ebl_base.specs.declared.checksum.Checksum.{Checksum}
use Rattle.ebl_base.specs.declared.chain.ChainLink.{ChainLink}
use Rattle.ebl_base.specs.declared.limit_kind.LimitKind.{LimitKind}
use Rattle.ebl_base.specs.declared.limit_kind.LimitKind.TheVariants.{Entries, Transactions, DocumentSize, Documents, DocumentBytes}
use Rattle.ebl_base.specs.declared.party.Party.{Party}
use Rattle.ebl_base.specs.declared.platform_code.PlatformCode.{PlatformCode}
use Rattle.ebl_base.specs.declared.transaction.Transaction.{Transaction}
use Rattle.document_checksum.specs.Digest.{checksum_of}
use Rattle.envelope_manifest.specs.Manifest.{total_size}
use Rattle.party_roster.specs.RosterRecord.{RosterRecord}
use Rattle.transport_document.specs.DocumentRecord.{DocumentRecord}
use Rattle.transport_document.specs.declared.fault.DocumentFault.{DocumentFault}
use Rattle.title_fold.specs.declared.title.Title.{Title}
use Rattle.title_fold.specs.declared.refusal.FoldRefusal.{FoldRefusal}
use Rattle.title_fold.specs.declared.refusal.FoldRefusal.TheVariants.{F3, F7}
use Rattle.title_fold.specs.Title.{possessor}
use Rattle.title_fold.specs.Table.{ended, stands_at}
use Rattle.title_fold.specs.Rules.{has_part}
use Rattle.title_fold.specs.Fold.{Folded, fold}
use Rattle.title_fold.specs.Step.{step_title}
use Rattle.title_fold.specs.Movement.{moves}
use Rattle.bill_chain.specs.Chain.{transactions_of, without_place}
use Rattle.bill_diary.specs.declared.record.Record.{Record}
use Rattle.bill_diary.specs.declared.record.Record.TheVariants.{Acted, Attached}
use Rattle.bill_diary.specs.declared.bill_place.BillPlace.{BillPlace}
use Rattle.bill_diary.specs.declared.bill_place.BillPlace.TheVariants.{Absent, Held, Parting, Gone}
use Rattle.bill_diary.specs.Place.{place_of}
use Rattle.bill_diary.specs.Pieces.{lists, pieces_of}
use Rattle.bill_diary.specs.Sound.{most_with}
use Rattle.transfer_judge.specs.declared.planned.Planned.{Planned}
use Rattle.transfer_judge.specs.declared.planned.Planned.TheVariants.{Nothing, Add, Part}
use Rattle.transfer_judge.specs.declared.planned.PlanRefusal.{PlanRefusal}
use Rattle.transfer_judge.specs.declared.planned.PlanRefusal.TheVariants.{NotOurs, NotCarrier, Limit}
use Rattle.transfer_judge.specs.Plan.{Plan, on_ours, on_document, on_carrier, on_absent, on_held, on_title, on_party, on_step, on_rule, on_room, missing_party, title_by, entry_by, plan_move, plan_stay, plan_held, plan_act, attach_refusal, piece_by, plan_bytes, plan_attachment, plan_attach}

-- ---- past each test

past_test : (test : Bool) (rest : Plan) (refusal : PlanRefusal) (x : Planned)
    → cond test rest (Err refusal) ≡ Ok x → (test ≡ true) × (rest ≡ Ok x)
past_test true rest refusal x is = (refl, is)
past_test false rest refusal x is = absurd (let no : Err refusal ≡ Ok x = is in cc)

pub past_ours : (me : PlatformCode) (party : Party) (rest : Plan) (x : Planned) → on_ours me party rest ≡ Ok x
    → (party.platform ≡ me) × (rest ≡ Ok x)
past_ours me party rest x is =
    let (same, further) = past_test (code_eq party.platform me) rest NotOurs x is in
    ((code_eq-Decides party.platform me).0 same, further)

pub past_document : (read : Result DocumentRecord DocumentFault) (rest : DocumentRecord → Plan) (x : Planned)
    → on_document read rest ≡ Ok x → (document : DocumentRecord) × (read ≡ Ok document) × (rest document ≡ Ok x)
past_document (Err fault) rest x is = absurd (let no : Err (PlanRefusal.Document fault) ≡ Ok x = is in cc)
past_document (Ok document) rest x is = (document, refl, is)

pub past_carrier : (o : Option Party) (party : Party) (rest : Plan) (x : Planned) → on_carrier o party rest ≡ Ok x
    → (o ≡ Some party) × (rest ≡ Ok x)
past_carrier None party rest x is = absurd (let no : Err NotCarrier ≡ Ok x = is in cc)
past_carrier (Some c) party rest x is =
    let (same, further) = past_test (party_eq c party) rest NotCarrier x is in
    (ap Some ((party_eq-Decides c party).0 same), further)

pub past_absent : (place : BillPlace) (rest : Plan) (x : Planned) → on_absent place rest ≡ Ok x
    → (place ≡ Absent) × (rest ≡ Ok x)
past_absent Absent rest x is = (refl, is)
past_absent (Held known since) rest x is = absurd (let no : Err PlanRefusal.KnownBill ≡ Ok x = is in cc)
past_absent (Parting known entry) rest x is = absurd (let no : Err PlanRefusal.KnownBill ≡ Ok x = is in cc)
past_absent (Gone known) rest x is = absurd (let no : Err PlanRefusal.KnownBill ≡ Ok x = is in cc)

pub past_held : (place : BillPlace) (rest : List ChainLink → List Transaction → Plan) (x : Planned)
    → on_held place rest ≡ Ok x
    → (known : List ChainLink) × (since : List Transaction) × (place ≡ Held known since) × (rest known since ≡ Ok x)
past_held Absent rest x is = cc is
past_held (Held known since) rest x is = (known, since, refl, is)
past_held (Parting known entry) rest x is = cc is
past_held (Gone known) rest x is = cc is

folded : (f : Folded) (title : Option Title) → without_place f ≡ Ok title → f ≡ Ok title
folded (Ok other) title is = let same : other ≡ title = cc is in ap Ok same
folded (Err at) title is = cc is

pub past_title : (r : Result (Option Title) FoldRefusal) (rest : Option Title → Plan) (x : Planned)
    → on_title r rest ≡ Ok x → (title : Option Title) × (r ≡ Ok title) × (rest title ≡ Ok x)
past_title (Err rule) rest x is = cc is
past_title (Ok title) rest x is = (title, refl, is)

pub past_party : (o : Option Party) (rest : Plan) (x : Planned) → on_party o rest ≡ Ok x → (o ≡ None) × (rest ≡ Ok x)
past_party None rest x is = (refl, is)
past_party (Some party) rest x is = cc is

pub past_step : (r : Result Title FoldRefusal) (rest : Title → Plan) (x : Planned) → on_step r rest ≡ Ok x
    → (after : Title) × (r ≡ Ok after) × (rest after ≡ Ok x)
past_step (Err rule) rest x is = cc is
past_step (Ok after) rest x is = (after, refl, is)

pub past_rule : (o : Option FoldRefusal) (rest : Plan) (x : Planned) → on_rule o rest ≡ Ok x
    → (o ≡ None) × (rest ≡ Ok x)
past_rule None rest x is = (refl, is)
past_rule (Some rule) rest x is = cc is

pub past_room : (room : Bool) (limit : LimitKind) (rest : Plan) (x : Planned) → on_room room limit rest ≡ Ok x
    → (room ≡ true) × (rest ≡ Ok x)
past_room room limit rest x is = past_test room rest (Limit limit) x is

-- a plan that isn't refused
abbrev IsOk : Plan → Planned → Type 0
IsOk plan x = plan ≡ Ok x

-- what is planned is one thing
pub one_planned : (a x : Planned) (plan : Plan) → plan ≡ Ok a → plan ≡ Ok x → a ≡ x
one_planned a x plan one two = let both : Ok a ≡ Ok x = sym one ∙ two in cc both

-- ---- a transaction

-- what comes of a transaction that isn't refused: an entry that moves the bill; or an Acted
abbrev pub Moves : PlatformCode → List Record → Checksum → Transaction → List ChainLink → List Transaction → Title → Planned
    → Type 0
Moves me h bill t known since after x =
    (length known < 64) × (length since + 1 ≤ 32)
    × (Part (entry_by me bill h known since t) (pieces_of h) (possessor after).platform ≡ x)

abbrev pub Stays : Checksum → Transaction → List Transaction → Planned → Type 0
Stays bill t since x = (length since + 1 ≤ most_with t.kind) × (Add (Acted bill t) ≡ x)

-- a transaction that isn't refused
pub record IsPlanned (roster : RosterRecord) (me : PlatformCode) (h : List Record) (bill : Checksum) (t : Transaction)
    (x : Planned) : Type 0 where
  pub known : List ChainLink
  pub since : List Transaction
  pub held : place_of h ≡ Held known since
  pub before : Option Title
  pub title : fold (transactions_of known ++ since) ≡ Ok before
  pub none_missing : missing_party roster me before t.kind t.recipient ≡ None
  pub after : Title
  pub allowed : step_title before t ≡ Ok after
  pub comes : ((moves before after ≡ true) × Moves me h bill t known since after x)
      ⊎ ((moves before after ≡ false) × Stays bill t since x)

moving : (me : PlatformCode) (h : List Record) (bill : Checksum) (t : Transaction) (known : List ChainLink)
    (since : List Transaction) (after : Title) (x : Planned)
    → plan_move me bill h known since t after ≡ Ok x → Moves me h bill t known since after x
moving me h bill t known since after x is =
    let made = Part (entry_by me bill h known since t) (pieces_of h) (possessor after).platform in
    let (few, is1) = past_room (nat_lt (length known) 64) Entries _ x is in
    let (room, is2) = past_room (nat_le (length since + 1) 32) Transactions _ x is1 in
    (ltb-true (length known) 64 few, leb-true (length since + 1) 32 room, one_planned made x (Ok made) refl is2)

staying : (bill : Checksum) (t : Transaction) (since : List Transaction) (x : Planned)
    → plan_stay bill since t ≡ Ok x → Stays bill t since x
staying bill t since x is =
    let made = Add (Acted bill t) in
    let (room, is1) = past_room (nat_le (length since + 1) (most_with t.kind)) Transactions _ x is in
    (leb-true (length since + 1) (most_with t.kind) room, one_planned made x (Ok made) refl is1)

either : (test : Bool) (one two : Plan) (x : Planned) → cond test one two ≡ Ok x
    → ((test ≡ true) × (one ≡ Ok x)) ⊎ ((test ≡ false) × (two ≡ Ok x))
either true one two x is = inl (refl, is)
either false one two x is = inr (refl, is)

pub act_planned : (roster : RosterRecord) (me : PlatformCode) (h : List Record) (bill : Checksum) (t : Transaction)
    (x : Planned) → plan_act roster me h bill t ≡ Ok x → IsPlanned roster me h bill t x
act_planned roster me h bill t x is =
    let (known, since, held, is1) = past_held (place_of h) (plan_held roster me h bill t) x is in
    let (before, title, is2) = past_title (title_by known since) _ x is1 in
    let (none, is3) = past_party (missing_party roster me before t.kind t.recipient) _ x is2 in
    let (after, taken, is4) = past_step (step_title before t) _ x is3 in
    record {
      known = known;
      since = since;
      held = held;
      before = before;
      title = folded (fold (transactions_of known ++ since)) before title;
      none_missing = none;
      after = after;
      allowed = taken;
      comes = comes known since before after (either (moves before after) _ _ x is4);
    }
  where
    comes : (known : List ChainLink) (since : List Transaction) (before : Option Title) (after : Title)
        → ((moves before after ≡ true) × (plan_move me bill h known since t after ≡ Ok x))
        ⊎ ((moves before after ≡ false) × (plan_stay bill since t ≡ Ok x))
        → ((moves before after ≡ true) × Moves me h bill t known since after x)
        ⊎ ((moves before after ≡ false) × Stays bill t since x)
    comes known since before after (inl (moved, rest)) = inl (moved, moving me h bill t known since after x rest)
    comes known since before after (inr (stays, rest)) = inr (stays, staying bill t since x rest)

-- ---- an attachment

-- what comes of it: nothing, where its bytes are listed; or an Attached
abbrev pub Attaches : Checksum → List Record → List ℕ → List ℕ → List ℕ → Planned → Type 0
Attaches bill h name media bytes x =
    ((lists (pieces_of h) (checksum_of bytes) ≡ true) × (Nothing ≡ x))
    ⊎ ((lists (pieces_of h) (checksum_of bytes) ≡ false) × (length (pieces_of h) < 16)
    × (total_size (pieces_of h) + length bytes ≤ 4194304) × (Add (Attached bill (piece_by name media bytes) bytes) ≡ x))

-- an attachment that isn't refused
pub record IsAttached (h : List Record) (bill : Checksum) (party : Party) (name media bytes : List ℕ) (x : Planned)
    : Type 0 where
  pub known : List ChainLink
  pub since : List Transaction
  pub held : place_of h ≡ Held known since
  pub title : Option Title
  pub folds : fold (transactions_of known ++ since) ≡ Ok title
  pub lives : stands_at ended title ≡ false
  pub size : length bytes ≤ 2097152
  pub comes : Attaches bill h name media bytes x

not_ended : (is_ended has : Bool) → cond is_ended (Some F3) (cond has None (Some F7)) ≡ None → is_ended ≡ false
not_ended true has is = absurd (let no : Some F3 ≡ None = is in cc)
not_ended false has is = refl

attaching : (h : List Record) (bill : Checksum) (name media bytes : List ℕ) (x : Planned)
    → plan_bytes bill (pieces_of h) name media bytes ≡ Ok x → Attaches bill h name media bytes x
attaching h bill name media bytes x is =
    on_listed (either (lists (pieces_of h) (checksum_of bytes)) (Ok Nothing) rest x is)
  where
    made : Planned
    made = Add (Attached bill (piece_by name media bytes) bytes)

    rest : Plan
    rest = on_room (nat_lt (length (pieces_of h)) 16) Documents
        (on_room (nat_le (total_size (pieces_of h) + length bytes) 4194304) DocumentBytes
        (Ok (Add (Attached bill (piece_by name media bytes) bytes))))

    on_listed : ((lists (pieces_of h) (checksum_of bytes) ≡ true) × IsOk (Ok Nothing) x)
        ⊎ ((lists (pieces_of h) (checksum_of bytes) ≡ false) × IsOk rest x)
        → Attaches bill h name media bytes x
    on_listed (inl (listed, further)) = inl (listed, one_planned Nothing x (Ok Nothing) refl further)
    on_listed (inr (new, further)) =
        let (few, is1) = past_room (nat_lt (length (pieces_of h)) 16) Documents
        (on_room (nat_le (total_size (pieces_of h) + length bytes) 4194304) DocumentBytes
        (Ok (Add (Attached bill (piece_by name media bytes) bytes)))) x further in
        let (room, is2) = past_room (nat_le (total_size (pieces_of h) + length bytes) 4194304) DocumentBytes
        (Ok (Add (Attached bill (piece_by name media bytes) bytes))) x is1 in
        inr (new, ltb-true (length (pieces_of h)) 16 few, leb-true (total_size (pieces_of h) + length bytes) 4194304 room, one_planned made x (Ok made) refl is2)

pub attach_planned : (h : List Record) (bill : Checksum) (party : Party) (name media bytes : List ℕ) (x : Planned)
    → plan_attach h bill party name media bytes ≡ Ok x → IsAttached h bill party name media bytes x
attach_planned h bill party name media bytes x is =
    let (known, since, held, is1) = past_held (place_of h) (plan_attachment h bill party name media bytes) x is in
    let (title, folds, is2) = past_title (title_by known since) _ x is1 in
    let (allowed, is3) = past_rule (attach_refusal title party) _ x is2 in
    let (size, is4) = past_room (nat_le (length bytes) 2097152) DocumentSize _ x is3 in
    record {
      known = known;
      since = since;
      held = held;
      title = title;
      folds = folded (fold (transactions_of known ++ since)) title folds;
      lives = not_ended (stands_at ended title) (has_part possessor title party) allowed;
      size = leb-true (length bytes) 2097152 size;
      comes = attaching h bill name media bytes x is4;
    }
