use Rattle.std.proofs.Common.{inl, inr}
use Rattle.transfer_core.proofs.hearing.request.Goals as goal

pub returns-in-Ok : goal.returns-in-Ok
returns-in-Ok c =
    inr (
      c.in-Ok.messages,
      rw c.in-Ok.is at c.in_ok-messages.ensures.sent,
      c.done.ensures c.args.register.now.diary,
    )

pub returns-in-Err : goal.returns-in-Err
returns-in-Err c =
    inl (
      c.in-Err.reason,
      rw c.in-Err.is at c.in_ok-messages.ensures.ignored,
      c.only_reply.ensures c.args.register.now.diary,
    )
