-- What becomes of a diary, by the step that was decided and by how it was carried out.
use Rattle.std.proofs.Common.{◌≡◌, true, false, List, inl, inr, ap, sym, subst, ◌∙◌}
use Rattle.ebl_base.specs.declared.moment.Moment.{Moment}
use Rattle.ebl_base.specs.declared.platform_code.PlatformCode.{PlatformCode}
use Rattle.signed_envelope.specs.KeyRing.{Keys}
use Rattle.party_roster.specs.RosterRecord.{RosterRecord}
use Rattle.platform_requests.specs.Request.{RequestRecord}
use Rattle.platform_requests.specs.declared.outcome.Outcome.{Outcome}
use Rattle.bill_diary.specs.declared.frame.Frame.{Frame}
use Rattle.platform_machine.specs.declared.step.Step.{Step}
use Rattle.platform_machine.specs.Complete.{is_failure}
use Rattle.platform_machine.specs.Machine.{Steps}
use Rattle.transfer_core.specs.Shard.{IsCarriedOut, IsStepped}

-- a step that is carried out is the machine's; the only failure is that memory runs out
pub taken_step : (roster : RosterRecord) (keys : Keys) (me : PlatformCode) (before : List Frame) (now : Moment)
    (request : RequestRecord) (step : Step) (out : Outcome) (after : List Frame)
    → Steps roster keys me before now request step → IsCarriedOut before step out after
    → is_failure out.reply ≡ false → IsStepped roster keys me before now request out after
taken_step roster keys me before now request step out after steps (inl (after_is, reply_is, messages_is)) not =
    let same : step ≡ record { frame = step.frame; reply = out.reply; messages = out.messages }
    = λ i. record { frame = step.frame; reply = sym reply_is i; messages = sym messages_is i } in
    (step.frame, subst (Steps roster keys me before now request) same steps, after_is)
taken_step roster keys me before now request step out after steps (inr (reply_is, unchanged)) not =
    let both : true ≡ false = sym (ap is_failure reply_is) ∙ not in
    absurd (cc both)
