use Rattle.std.proofs.Common.{List, Some, inl, inr, subst}
use Rattle.platform_requests.specs.declared.message.Message.{Message}
use Rattle.bill_diary.specs.declared.frame.Frame.TheVariants.{One}
use Rattle.platform_machine.specs.Step.{IsDone}
use Rattle.transfer_core.specs.Decision.{step_by}
use Rattle.transfer_core.proofs.hearing.answer.Goals as goal

pub returns-in-Ok : goal.returns-in-Ok
returns-in-Ok g c =
    let diary = c.args.register.now.diary in
    inr (
      c.in-Ok.written,
      rw c.in-Ok.is at c.in_ok-written.ensures.ended,
      subst (λ (sent : List Message). IsDone c.args.bill diary (Some (One c.in-Ok.written)) sent
          (step_by diary c.done_with.result)) c.new.ensures (c.done_with.ensures diary),
    )

pub returns-in-Err : goal.returns-in-Err
returns-in-Err g c =
    inl (
      c.in-Err.reason,
      rw c.in-Err.is at c.in_ok-written.ensures.ignored,
      c.only_reply.ensures c.args.register.now.diary,
    )
