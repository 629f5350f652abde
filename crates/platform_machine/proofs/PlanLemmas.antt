-- No plan is refused because memory ran out.
use Rattle.std.proofs.Common.{◌≡◌, Bool, true, false, cond, ℕ, List, Option, Some, None, Result, Ok, Err, ◌+◌, length, subst}
use Rattle.std.specs.Prelude.{nat_lt, nat_le}
use Rattle.canonical_json.specs.Value.{Value}
use Rattle.document_checksum.specs.Digest.{checksum_of}
use Rattle.ebl_base.specs.PlatformCode.{code_eq}
use Rattle.ebl_base.specs.Party.{party_eq}
use Rattle.ebl_base.specs.declared.chain.ChainLink.{ChainLink}
use Rattle.ebl_base.specs.declared.checksum.Checksum.{Checksum}
use Rattle.ebl_base.specs.declared.limit_kind.LimitKind.{LimitKind}
use Rattle.ebl_base.specs.declared.limit_kind.LimitKind.TheVariants.{Entries, Transactions, DocumentSize, Documents, DocumentBytes}
use Rattle.ebl_base.specs.declared.moment.Moment.{Moment}
use Rattle.ebl_base.specs.declared.party.Party.{Party}
use Rattle.ebl_base.specs.declared.platform_code.PlatformCode.{PlatformCode}
use Rattle.ebl_base.specs.declared.transaction.Transaction.{Transaction}
use Rattle.envelope_manifest.specs.Manifest.{total_size}
use Rattle.envelope_manifest.specs.declared.piece.Piece.{Piece}
use Rattle.holder_commands.specs.Command.{CommandRecord, signs, acts, attaches}
use Rattle.party_roster.specs.RosterRecord.{RosterRecord, carrier}
use Rattle.transport_document.specs.DocumentRecord as bills
use Rattle.transport_document.specs.DocumentRecord.{DocumentRecord}
use Rattle.transport_document.specs.Reading.{document_of}
use Rattle.transport_document.specs.declared.fault.DocumentFault.{DocumentFault}
use Rattle.title_fold.specs.declared.title.Title.{Title}
use Rattle.title_fold.specs.declared.refusal.FoldRefusal.{FoldRefusal}
use Rattle.title_fold.specs.Movement.{moves}
use Rattle.title_fold.specs.Step.{step_title}
use Rattle.bill_diary.specs.declared.record.Record.{Record}
use Rattle.bill_diary.specs.declared.bill_place.BillPlace.{BillPlace}
use Rattle.bill_diary.specs.declared.bill_place.BillPlace.TheVariants.{Absent, Held, Parting, Gone}
use Rattle.bill_diary.specs.History.{of_bill}
use Rattle.bill_diary.specs.Pieces.{lists, pieces_of}
use Rattle.bill_diary.specs.Place.{place_of}
use Rattle.bill_diary.specs.Sound.{most_with}
use Rattle.transfer_judge.specs.Plan.{Plan, attach_refusal, missing_party, on_absent, on_carrier, on_document, on_held, on_party, on_room, on_rule, on_step, on_title, plan_act, plan_attach, plan_attachment, plan_bytes, plan_held, plan_move, plan_of, plan_sign, plan_stay, title_by, transaction_by}
use Rattle.transfer_judge.specs.declared.planned.PlanRefusal.{PlanRefusal}
use Rattle.transfer_judge.specs.declared.planned.PlanRefusal.TheVariants as refusals

-- the refusal isn't that memory ran out
abbrev pub IsReason : PlanRefusal → Type 0
IsReason refusals.NoMemory = ⊥
IsReason refusal = Unit {0}

-- nor is that of a plan, if it is refused
abbrev pub HasReason : Plan → Type 0
HasReason (Ok planned) = Unit {0}
HasReason (Err refusal) = IsReason refusal

-- ---- each test

on_test : (test : Bool) (rest : Plan) (refusal : PlanRefusal) → IsReason refusal → HasReason rest
    → HasReason (cond test rest (Err refusal))
on_test true rest refusal reason fine = fine
on_test false rest refusal reason fine = reason

at_document : (read : Result DocumentRecord DocumentFault) (rest : DocumentRecord → Plan)
    → ((document : DocumentRecord) → HasReason (rest document)) → HasReason (on_document read rest)
at_document (Err fault) rest fine = tt
at_document (Ok document) rest fine = fine document

at_carrier : (o : Option Party) (party : Party) (rest : Plan) → HasReason rest → HasReason (on_carrier o party rest)
at_carrier None party rest fine = tt
at_carrier (Some c) party rest fine = on_test (party_eq c party) rest refusals.NotCarrier tt fine

at_absent : (place : BillPlace) (rest : Plan) → HasReason rest → HasReason (on_absent place rest)
at_absent Absent rest fine = fine
at_absent (Held known since) rest fine = tt
at_absent (Parting known entry) rest fine = tt
at_absent (Gone known) rest fine = tt

at_held : (place : BillPlace) (rest : List ChainLink → List Transaction → Plan)
    → ((known : List ChainLink) (since : List Transaction) → HasReason (rest known since))
    → HasReason (on_held place rest)
at_held Absent rest fine = tt
at_held (Held known since) rest fine = fine known since
at_held (Parting known entry) rest fine = tt
at_held (Gone known) rest fine = tt

at_title : (r : Result (Option Title) FoldRefusal) (rest : Option Title → Plan)
    → ((title : Option Title) → HasReason (rest title)) → HasReason (on_title r rest)
at_title (Err rule) rest fine = tt
at_title (Ok title) rest fine = fine title

at_party : (o : Option Party) (rest : Plan) → HasReason rest → HasReason (on_party o rest)
at_party None rest fine = fine
at_party (Some party) rest fine = tt

at_step : (r : Result Title FoldRefusal) (rest : Title → Plan) → ((after : Title) → HasReason (rest after))
    → HasReason (on_step r rest)
at_step (Err rule) rest fine = tt
at_step (Ok after) rest fine = fine after

at_rule : (o : Option FoldRefusal) (rest : Plan) → HasReason rest → HasReason (on_rule o rest)
at_rule None rest fine = fine
at_rule (Some rule) rest fine = tt

at_room : (room : Bool) (limit : LimitKind) (rest : Plan) → HasReason rest → HasReason (on_room room limit rest)
at_room room limit rest fine = on_test room rest (refusals.Limit limit) tt fine

either : (test : Bool) (one two : Plan) → HasReason one → HasReason two → HasReason (cond test one two)
either true one two fine1 fine2 = fine1
either false one two fine1 fine2 = fine2

-- ---- each command

sign_has_reason : (roster : RosterRecord) (records : List Record) (party : Party) (now : Moment) (value : Value)
    → HasReason (plan_sign roster records party now value)
sign_has_reason roster records party now value =
    at_document (document_of value) _ (λ document.
    at_carrier (carrier roster document.provider document.code) party _ (
    at_absent (place_of (of_bill (bills.bill_of document) records)) _ tt))

move_has_reason : (me : PlatformCode) (bill : Checksum) (h : List Record) (known : List ChainLink)
    (since : List Transaction) (t : Transaction) (after : Title) → HasReason (plan_move me bill h known since t after)
move_has_reason me bill h known since t after =
    at_room (nat_lt (length known) 64) Entries _ (at_room (nat_le (length since + 1) 32) Transactions _ tt)

stay_has_reason : (bill : Checksum) (since : List Transaction) (t : Transaction) → HasReason (plan_stay bill since t)
stay_has_reason bill since t = at_room (nat_le (length since + 1) (most_with t.kind)) Transactions _ tt

act_has_reason : (roster : RosterRecord) (me : PlatformCode) (h : List Record) (bill : Checksum) (t : Transaction)
    → HasReason (plan_act roster me h bill t)
act_has_reason roster me h bill t =
    at_held (place_of h) (plan_held roster me h bill t) (λ known since.
    at_title (title_by known since) _ (λ before.
    at_party (missing_party roster me before t.kind t.recipient) _ (
    at_step (step_title before t) _ (λ after.
    either (moves before after) _ _ (move_has_reason me bill h known since t after) (stay_has_reason bill since t)))))

bytes_have_reason : (bill : Checksum) (pieces : List Piece) (name media bytes : List ℕ)
    → HasReason (plan_bytes bill pieces name media bytes)
bytes_have_reason bill pieces name media bytes =
    either (lists pieces (checksum_of bytes)) _ _ tt
    (at_room (nat_lt (length pieces) 16) Documents _
    (at_room (nat_le (total_size pieces + length bytes) 4194304) DocumentBytes _ tt))

attach_has_reason : (h : List Record) (bill : Checksum) (party : Party) (name media bytes : List ℕ)
    → HasReason (plan_attach h bill party name media bytes)
attach_has_reason h bill party name media bytes =
    at_held (place_of h) (plan_attachment h bill party name media bytes) (λ known since.
    at_title (title_by known since) _ (λ title.
    at_rule (attach_refusal title party) _ (
    at_room (nat_le (length bytes) 2097152) DocumentSize _ (bytes_have_reason bill (pieces_of h) name media bytes))))

-- ---- the plan

plan_has_reason : (roster : RosterRecord) (me : PlatformCode) (records : List Record) (party : Party)
    (command : CommandRecord) (now : Moment) → HasReason (plan_of roster me records party command now)
plan_has_reason roster me records party (signs value) now =
    on_test (code_eq party.platform me) _ refusals.NotOurs tt (sign_has_reason roster records party now value)
plan_has_reason roster me records party (acts bill kind recipient) now =
    on_test (code_eq party.platform me) _ refusals.NotOurs tt
    (act_has_reason roster me (of_bill bill records) bill (transaction_by party now kind recipient))
plan_has_reason roster me records party (attaches bill name media bytes) now =
    on_test (code_eq party.platform me) _ refusals.NotOurs tt
    (attach_has_reason (of_bill bill records) bill party name media bytes)

-- a plan that is refused has a reason
pub refusal_has_reason : (roster : RosterRecord) (me : PlatformCode) (records : List Record) (party : Party)
    (command : CommandRecord) (now : Moment) (refusal : PlanRefusal)
    → plan_of roster me records party command now ≡ Err refusal → IsReason refusal
refusal_has_reason roster me records party command now refusal is =
    subst HasReason is (plan_has_reason roster me records party command now)
