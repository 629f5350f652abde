-- What a platform makes of a party's command: the first refusal that applies; or one record, or an entry that moves the
-- bill to another platform, or nothing.
use Rattle.std.specs.Prelude.{◌≡◌, ◌<◌, ℕ, ◌+◌, Bool, not, ◌||◌, ◌&&◌, List, [], ◌∷◌, ◌++◌, Option, Some, None, Result, Ok, Err, length, count_by, nat_lt, nat_le, if◌then◌else◌}
use Rattle.ebl_base.specs.declared.limits.TheConstants.{MAX_CHAIN_ENTRIES, MAX_DOCUMENT_SIZE, MAX_DOCUMENTS, MAX_DOCUMENTS_SIZE, MAX_ENTRY_TRANSACTIONS}
use Rattle.canonical_json.specs.Value.{Value}
use Rattle.document_checksum.specs.Digest.{checksum_of}
use Rattle.ebl_base.specs.PlatformCode.{code_eq}
use Rattle.ebl_base.specs.Party.{party_eq}
use Rattle.ebl_base.specs.declared.chain.ChainLink.{ChainLink}
use Rattle.ebl_base.specs.declared.checksum.Checksum.{Checksum}
use Rattle.ebl_base.specs.declared.entry.Entry.{Entry}
use Rattle.ebl_base.specs.declared.kind.Kind.{Kind}
use Rattle.ebl_base.specs.declared.kind.Kind.TheVariants.{Sign, SurrenderRefused}
use Rattle.ebl_base.specs.declared.limit_kind.LimitKind.{LimitKind}
use Rattle.ebl_base.specs.declared.limit_kind.LimitKind.TheVariants.{Entries, Transactions, DocumentSize, Documents, DocumentBytes}
use Rattle.ebl_base.specs.declared.moment.Moment.{Moment}
use Rattle.ebl_base.specs.declared.party.Party.{Party}
use Rattle.ebl_base.specs.declared.platform_code.PlatformCode.{PlatformCode}
use Rattle.ebl_base.specs.declared.transaction.Transaction.{Transaction}
use Rattle.envelope_manifest.specs.declared.piece.Piece.{Piece}
use Rattle.envelope_manifest.specs.Manifest.{total_size}
use Rattle.party_roster.specs.RosterRecord.{RosterRecord, carrier, has_platform, knows}
use Rattle.transport_document.specs.DocumentRecord.{DocumentRecord, bill_of}
use Rattle.transport_document.specs.declared.fault.DocumentFault.{DocumentFault}
use Rattle.transport_document.specs.Reading.{document_of}
use Rattle.title_fold.specs.declared.title.Title.{Title}
use Rattle.title_fold.specs.declared.title.Title.TheVariants.{Asked}
use Rattle.title_fold.specs.declared.refusal.FoldRefusal.{FoldRefusal}
use Rattle.title_fold.specs.declared.refusal.FoldRefusal.TheVariants.{F3, F7}
use Rattle.title_fold.specs.Title.{possessor}
use Rattle.title_fold.specs.Table.{ended, stands_at}
use Rattle.title_fold.specs.Rules.{has_part}
use Rattle.title_fold.specs.Fold.{fold}
use Rattle.title_fold.specs.Step.{step_title}
use Rattle.title_fold.specs.Movement.{moves}
use Rattle.bill_chain.specs.Chain.{last_name, transactions_of, without_place}
use Rattle.bill_diary.specs.declared.record.Record.{Record}
use Rattle.bill_diary.specs.declared.record.Record.TheVariants.{Signed, Acted, Attached}
use Rattle.bill_diary.specs.declared.bill_place.BillPlace.{BillPlace}
use Rattle.bill_diary.specs.declared.bill_place.BillPlace.TheVariants.{Absent, Held}
use Rattle.bill_diary.specs.History.{of_bill}
use Rattle.bill_diary.specs.Place.{place_of, tag_of}
use Rattle.bill_diary.specs.Pieces.{lists, pieces_of}
use Rattle.bill_diary.specs.Sound.{is_parted, most_with}
use Rattle.holder_commands.specs.Command.{CommandRecord, signs, acts, attaches}
use Rattle.transfer_judge.specs.declared.planned.Planned.{Planned}
use Rattle.transfer_judge.specs.declared.planned.Planned.TheVariants.{Nothing, Add, Part}
use Rattle.transfer_judge.specs.declared.planned.PlanRefusal.{PlanRefusal}
use Rattle.transfer_judge.specs.declared.planned.PlanRefusal.TheVariants.{NotOurs, Document, NotCarrier, KnownBill, NotHere, NoParty, NotAllowed, Limit, NoMemory}

-- what a command comes to
abbrev pub Plan : Type 0
Plan = Result Planned PlanRefusal

-- ---- the tests in their order, each with what follows it

-- 1: the party is one of this platform's
abbrev pub on_ours : PlatformCode → Party → Plan → Plan
on_ours me party rest = if code_eq party.platform me then rest else Err NotOurs

-- 2, of a SIGN: the value is a document of a bill
abbrev pub on_document : Result DocumentRecord DocumentFault → (DocumentRecord → Plan) → Plan
on_document (Err fault) rest = Err (Document fault)
on_document (Ok document) rest = rest document

-- the party is the roster's carrier of the document
abbrev pub on_carrier : Option Party → Party → Plan → Plan
on_carrier None party rest = Err NotCarrier
on_carrier (Some carrier) party rest = if party_eq carrier party then rest else Err NotCarrier

-- nothing is known of the bill here
abbrev pub on_absent : BillPlace → Plan → Plan
on_absent Absent rest = rest
on_absent place rest = Err KnownBill

-- 2, of any other command: the bill is held here, with this known chain and these transactions since
abbrev pub on_held : BillPlace → (List ChainLink → List Transaction → Plan) → Plan
on_held (Held known since) rest = rest known since
on_held place rest = Err (NotHere (tag_of place))

-- a title stands by the transactions before; where one of these is refused, which no sound diary has, so is the command
abbrev pub on_title : Result (Option Title) FoldRefusal → (Option Title → Plan) → Plan
on_title (Err rule) rest = Err (NotAllowed rule)
on_title (Ok title) rest = rest title

-- 3: no party is missing
abbrev pub on_party : Option Party → Plan → Plan
on_party None rest = rest
on_party (Some party) rest = Err (NoParty party)

-- 4, of a transaction: no rule refuses it
abbrev pub on_step : Result Title FoldRefusal → (Title → Plan) → Plan
on_step (Err rule) rest = Err (NotAllowed rule)
on_step (Ok after) rest = rest after

-- 4, of an attachment
abbrev pub on_rule : Option FoldRefusal → Plan → Plan
on_rule None rest = rest
on_rule (Some rule) rest = Err (NotAllowed rule)

-- 5: there is room
abbrev pub on_room : Bool → LimitKind → Plan → Plan
on_room room limit rest = if room then rest else Err (Limit limit)

-- ---- parties that are missing

-- a party to which nothing can go: its platform isn't listed, or is this one and the roster doesn't know the party
abbrev pub is_unknown : RosterRecord → PlatformCode → Party → Bool
is_unknown roster me party =
    not (has_platform roster party.platform) || (code_eq party.platform me && not (knows roster party))

-- the party, where this is so
abbrev pub party_if : Bool → Party → Option Party
party_if so party = if so then Some party else None

-- the recipient, where it is unknown; where there is none and a surrender that was asked for is refused, the asker, to
-- whom possession would go back, where its platform isn't listed
abbrev pub missing_party : RosterRecord → PlatformCode → Option Title → Kind → Option Party → Option Party
missing_party roster me title kind (Some recipient) = party_if (is_unknown roster me recipient) recipient
missing_party roster me (Some (Asked asked carrier by)) SurrenderRefused None =
    party_if (not (has_platform roster by.platform)) by
missing_party roster me title kind None = None

-- the title by a known chain and the transactions since, which are folded from the first one on
abbrev pub title_by : List ChainLink → List Transaction → Result (Option Title) FoldRefusal
title_by known since = without_place (fold (transactions_of known ++ since))

-- ---- signing a document

-- a transaction of the party at this moment
abbrev pub transaction_by : Party → Moment → Kind → Option Party → Transaction
transaction_by party now kind recipient = record { kind = kind; actor = party; recipient = recipient; time = now }

-- a document is signed by its carrier, where its bill is absent
abbrev pub plan_sign : RosterRecord → List Record → Party → Moment → Value → Plan
plan_sign roster records party now value =
    on_document (document_of value) (λ document.
    on_carrier (carrier roster document.provider document.code) party (
    on_absent (place_of (of_bill (bill_of document) records)) (
    Ok (Add (Signed (bill_of document) document.text (transaction_by party now Sign None))))))

-- ---- a transaction

-- the entry that moves a bill: this platform's next attempt, with the transactions made since and the one that moves
abbrev pub entry_by : PlatformCode → Checksum → List Record → List ChainLink → List Transaction → Transaction → Entry
entry_by me bill h known since t = record {
  platform = me;
  bill = bill;
  previous = last_name known;
  attempt = count_by is_parted h + 1;
  transactions = since ++ t ∷ [];
}

-- a transaction that moves possession to another platform ends an entry: one of at most 64 in a chain, with at most 32
-- transactions
abbrev pub plan_move : PlatformCode → Checksum → List Record → List ChainLink → List Transaction → Transaction → Title
    → Plan
plan_move me bill h known since t after =
    on_room (nat_lt (length known) MAX_CHAIN_ENTRIES) Entries (
    on_room (nat_le (length since + 1) MAX_ENTRY_TRANSACTIONS) Transactions (
    Ok (Part (entry_by me bill h known since t) (pieces_of h) (possessor after).platform)))

-- any other leaves room for what has to follow
abbrev pub plan_stay : Checksum → List Transaction → Transaction → Plan
plan_stay bill since t =
    on_room (nat_le (length since + 1) (most_with t.kind)) Transactions (
    Ok (Add (Acted bill t)))

-- a transaction on a bill that is held
abbrev pub plan_held : RosterRecord → PlatformCode → List Record → Checksum → Transaction → List ChainLink
    → List Transaction → Plan
plan_held roster me h bill t known since =
    on_title (title_by known since) (λ before.
    on_party (missing_party roster me before t.kind t.recipient) (
    on_step (step_title before t) (λ after.
    if moves before after then plan_move me bill h known since t after else plan_stay bill since t)))

-- a transaction on a bill, by the bill's records
abbrev pub plan_act : RosterRecord → PlatformCode → List Record → Checksum → Transaction → Plan
plan_act roster me h bill t = on_held (place_of h) (plan_held roster me h bill t)

-- ---- an attachment

-- the rule that refuses: the title is ended; or the party isn't the possessor
abbrev pub attach_refusal : Option Title → Party → Option FoldRefusal
attach_refusal title party =
    if stands_at ended title then Some F3 else if has_part possessor title party then None else Some F7

-- the document that is listed for these bytes
abbrev pub piece_by : List ℕ → List ℕ → List ℕ → Piece
piece_by name media bytes = record { name = name; media = media; size = length bytes; checksum = checksum_of bytes }

-- bytes that are listed already add nothing; others are one document more, of at most 16, within 4,194,304 bytes
-- together
abbrev pub plan_bytes : Checksum → List Piece → List ℕ → List ℕ → List ℕ → Plan
plan_bytes bill pieces name media bytes =
    if lists pieces (checksum_of bytes) then Ok Nothing else (
    on_room (nat_lt (length pieces) MAX_DOCUMENTS) Documents (
    on_room (nat_le (total_size pieces + length bytes) MAX_DOCUMENTS_SIZE) DocumentBytes (
    Ok (Add (Attached bill (piece_by name media bytes) bytes)))))

-- an attachment by the possessor, of at most 2,097,152 bytes, to a bill that is held
abbrev pub plan_attachment : List Record → Checksum → Party → List ℕ → List ℕ → List ℕ → List ChainLink
    → List Transaction → Plan
plan_attachment h bill party name media bytes known since =
    on_title (title_by known since) (λ title.
    on_rule (attach_refusal title party) (
    on_room (nat_le (length bytes) MAX_DOCUMENT_SIZE) DocumentSize (
    plan_bytes bill (pieces_of h) name media bytes)))

-- an attachment to a bill, by the bill's records
abbrev pub plan_attach : List Record → Checksum → Party → List ℕ → List ℕ → List ℕ → Plan
plan_attach h bill party name media bytes = on_held (place_of h) (plan_attachment h bill party name media bytes)

-- ---- the plan

-- of a command of one of this platform's parties
abbrev pub plan_ours : RosterRecord → PlatformCode → List Record → Party → CommandRecord → Moment → Plan
plan_ours roster me records party (signs value) now = plan_sign roster records party now value
plan_ours roster me records party (acts bill kind recipient) now =
    plan_act roster me (of_bill bill records) bill (transaction_by party now kind recipient)
plan_ours roster me records party (attaches bill name media bytes) now =
    plan_attach (of_bill bill records) bill party name media bytes

-- what a party's command comes to at a moment, by all records of a diary, newest first
abbrev pub plan_of : RosterRecord → PlatformCode → List Record → Party → CommandRecord → Moment → Plan
plan_of roster me records party command now = on_ours me party (plan_ours roster me records party command now)

-- the refusal is the first that applies, or memory ran out
abbrev pub IsRefusal : Plan → PlanRefusal → Type 0
IsRefusal plan NoMemory = Unit {0}
IsRefusal plan refusal = plan ≡ Err refusal

-- one attempt more can be counted, where the command may make one
abbrev pub HasAttempts : CommandRecord → List Record → Type 0
HasAttempts (acts bill kind recipient) records = count_by is_parted (of_bill bill records) < 4294967295
HasAttempts command records = Unit {0}
