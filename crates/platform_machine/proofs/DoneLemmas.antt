-- A command that isn't refused is done.
use Rattle.std.proofs.Common.{◌≡◌, ◌⊎◌, inl, inr, true, false, ℕ, List, Option, Some, None, Ok, Err, refl, ap, sym, ◌∙◌}
use Rattle.ebl_base.specs.declared.checksum.Checksum.{Checksum}
use Rattle.ebl_base.specs.declared.entry.Entry.{Entry}
use Rattle.ebl_base.specs.declared.kind.Kind.{Kind}
use Rattle.ebl_base.specs.declared.kind.Kind.TheVariants.{Sign}
use Rattle.ebl_base.specs.declared.moment.Moment.{Moment}
use Rattle.ebl_base.specs.declared.party.Party.{Party}
use Rattle.ebl_base.specs.declared.platform_code.PlatformCode.{PlatformCode}
use Rattle.canonical_json.specs.Value.{Value}
use Rattle.envelope_manifest.specs.declared.piece.Piece.{Piece}
use Rattle.holder_commands.specs.Command.{CommandRecord, signs, acts, attaches}
use Rattle.party_roster.specs.RosterRecord.{RosterRecord, carrier}
use Rattle.platform_requests.specs.declared.message.Message.{Message}
use Rattle.platform_requests.specs.declared.reply.Reply.TheVariants as replies
use Rattle.signed_envelope.specs.KeyRing.{Keys}
use Rattle.transport_document.specs.DocumentRecord as bills
use Rattle.transport_document.specs.Reading.{document_of}
use Rattle.title_fold.specs.Movement.{moves}
use Rattle.bill_diary.specs.declared.record.Record.{Record}
use Rattle.bill_diary.specs.declared.record.Record.TheVariants.{Signed, Acted, Attached}
use Rattle.bill_diary.specs.declared.frame.Frame.{Frame}
use Rattle.bill_diary.specs.History.{bill_of, newest_first, of_bill}
use Rattle.bill_diary.specs.Place.{place_of}
use Rattle.transfer_judge.specs.Plan.{Plan, piece_by, plan_act, plan_attach, plan_of, plan_sign, transaction_by}
use Rattle.transfer_judge.specs.declared.planned.Planned.TheVariants.{Nothing, Add, Part}
use Rattle.transfer_judge.proofs.FollowLemmas.{planned_part}
use Rattle.transfer_judge.proofs.PlanLemmas.{Attaches, IsPlanned, Moves, Stays, act_planned, attach_planned, one_planned, past_absent, past_carrier, past_document, past_ours}
use Rattle.platform_machine.specs.declared.step.Step.{Step}
use Rattle.platform_machine.specs.Commanding.{FollowsPlan, IsThere, StepsAtCommand}
use Rattle.platform_machine.specs.Complete.{IsFulfilled, IsNotRefused, command_bill, document_bill}
use Rattle.platform_machine.specs.Step.{IsDone, view_of, with_frame}

-- ---- the bill of what is planned

-- a record that is planned is of the command's bill
abbrev IsOf : CommandRecord → Checksum → Type 0
IsOf command bill = command_bill command ≡ Some bill

signed_bill : (roster : RosterRecord) (records : List Record) (party : Party) (now : Moment) (value : Value)
    (r : Record) → plan_sign roster records party now value ≡ Ok (Add r) → IsOf (signs value) (bill_of r)
signed_bill roster records party now value r is =
    let (document, reads, is1) = past_document (document_of value) _ (Add r) is in
    let (by_carrier, is2) = past_carrier (carrier roster document.provider document.code) party _ (Add r) is1 in
    let (absent, is3) = past_absent (place_of (of_bill (bills.bill_of document) records)) _ (Add r) is2 in
    let made = Signed (bills.bill_of document) document.text (transaction_by party now Sign None) in
    let adds : Add made ≡ Add r = one_planned (Add made) (Add r) (Ok (Add made)) refl is3 in
    let same : made ≡ r = cc adds in
    ap document_bill reads ∙ ap (λ (x : Record). Some (bill_of x)) same

acted_bill : (roster : RosterRecord) (me : PlatformCode) (records : List Record) (party : Party) (now : Moment)
    (bill : Checksum) (kind : Kind) (recipient : Option Party) (r : Record)
    → plan_act roster me (of_bill bill records) bill (transaction_by party now kind recipient) ≡ Ok (Add r)
    → IsOf (acts bill kind recipient) (bill_of r)
acted_bill roster me records party now bill kind recipient r is =
    on_planned (act_planned roster me (of_bill bill records) bill (transaction_by party now kind recipient) (Add r) is)
  where
    on_planned : IsPlanned roster me (of_bill bill records) bill (transaction_by party now kind recipient) (Add r)
        → IsOf (acts bill kind recipient) (bill_of r)
    on_planned a = on_kind a.comes
      where
        on_kind : ((moves a.before a.after ≡ true)
            × Moves me (of_bill bill records) bill (transaction_by party now kind recipient) a.known a.since a.after (Add r))
            ⊎ ((moves a.before a.after ≡ false) × Stays bill (transaction_by party now kind recipient) a.since (Add r))
            → IsOf (acts bill kind recipient) (bill_of r)
        on_kind (inl (moved, out)) = cc out.2
        on_kind (inr (stays, out)) =
            let adds = out.1 in
            let same : Acted bill (transaction_by party now kind recipient) ≡ r = cc adds in
            ap (λ (x : Record). Some (bill_of x)) same

attached_bill : (h : List Record) (bill : Checksum) (party : Party) (name media bytes : List ℕ) (r : Record)
    → plan_attach h bill party name media bytes ≡ Ok (Add r) → IsOf (attaches bill name media bytes) (bill_of r)
attached_bill h bill party name media bytes r is =
    on_kind (attach_planned h bill party name media bytes (Add r) is).comes
  where
    on_kind : Attaches bill h name media bytes (Add r) → IsOf (attaches bill name media bytes) (bill_of r)
    on_kind (inl (listed, nothing)) = cc nothing
    on_kind (inr (new, few, room, adds)) =
        let same : Attached bill (piece_by name media bytes) bytes ≡ r = cc adds in
        ap (λ (x : Record). Some (bill_of x)) same

record_bill : (roster : RosterRecord) (me : PlatformCode) (records : List Record) (party : Party)
    (command : CommandRecord) (now : Moment) (r : Record)
    → plan_of roster me records party command now ≡ Ok (Add r) → IsOf command (bill_of r)
record_bill roster me records party (signs value) now r is =
    let (ours, is1) = past_ours me party _ (Add r) is in signed_bill roster records party now value r is1
record_bill roster me records party (acts bill kind recipient) now r is =
    let (ours, is1) = past_ours me party _ (Add r) is in
    acted_bill roster me records party now bill kind recipient r is1
record_bill roster me records party (attaches bill name media bytes) now r is =
    let (ours, is1) = past_ours me party _ (Add r) is in
    attached_bill (of_bill bill records) bill party name media bytes r is1

entry_bill : (roster : RosterRecord) (me : PlatformCode) (records : List Record) (party : Party)
    (command : CommandRecord) (now : Moment) (entry : Entry) (documents : List Piece) (to : PlatformCode)
    → plan_of roster me records party command now ≡ Ok (Part entry documents to) → IsOf command entry.bill
entry_bill roster me records party command now entry documents to is =
    let p = planned_part roster me records party now entry documents to command is in
    ap command_bill p.command_is ∙ ap (λ (e : Entry). Some e.bill) p.entry_is

-- ---- what is done

carried_out : (diary : List Frame) (command : CommandRecord) (bill : Checksum) (frame : Option Frame)
    (sent : List Message) (step : Step) → IsOf command bill → IsDone bill diary frame sent step
    → IsFulfilled diary command step
carried_out diary command bill frame sent step is done = record {
  bill = bill;
  bill_is = is;
  reply_is = done.reply_is ∙ ap (λ (f : Option Frame). replies.Done (view_of bill (with_frame diary f))) (sym done.frame_is);
}

there_carried_out : (diary : List Frame) (command : CommandRecord) (step : Step) → IsThere diary command step
    → IsFulfilled diary command step
there_carried_out diary (signs document) step there = absurd there
there_carried_out diary (acts bill kind recipient) step there = absurd there
there_carried_out diary (attaches bill name media bytes) step there =
    carried_out diary (attaches bill name media bytes) bill None _ step refl there

pub command_carried_out : (roster : RosterRecord) (keys : Keys) (me : PlatformCode) (diary : List Frame) (now : Moment)
    (party : Party) (command : CommandRecord) (step : Step)
    → IsNotRefused (plan_of roster me (newest_first diary) party command now)
    → StepsAtCommand roster keys me diary now party command step → IsFulfilled diary command step
command_carried_out roster keys me diary now party command step free steps =
    on_plan (plan_of roster me (newest_first diary) party command now) refl steps
  where
    on_plan : (plan : Plan) → plan_of roster me (newest_first diary) party command now ≡ plan
        → FollowsPlan keys me diary command plan step → IsFulfilled diary command step
    on_plan (Err refusal) is only = absurd (free refusal is)
    on_plan (Ok Nothing) is there = there_carried_out diary command step there
    on_plan (Ok (Add r)) is done =
        carried_out diary command (bill_of r) _ _ step
        (record_bill roster me (newest_first diary) party command now r is) done
    on_plan (Ok (Part entry documents to)) is parted =
        carried_out diary command entry.bill _ _ step
        (entry_bill roster me (newest_first diary) party command now entry documents to is) parted.parts.done
