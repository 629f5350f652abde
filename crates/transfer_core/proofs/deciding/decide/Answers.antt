use Rattle.std.proofs.Common.{ℕ, List, subst}
use Rattle.std.specs.Prelude.{IfOk}
use Rattle.platform_machine.specs.Hearing.{StepsAtFinishReply, StepsAtStartReply}
use Rattle.platform_machine.specs.Receiving.{StepsAtStart}
use Rattle.transfer_core.specs.Decision.{step_by}
use Rattle.transfer_core.proofs.deciding.decide.Goals as goal

pub returns-in-Start-clause-ok : goal.returns-in-Start-clause-ok
returns-in-Start-clause-ok g c =
    rw c.in-Start.is (subst (λ (b : List ℕ). IfOk c.start.result (λ d.
    StepsAtStart c.args.roster.now (g.G.KeyRing.keys c.args.ring.now) c.args.me c.args.register.now.diary b
    (step_by c.args.register.now.diary d))) c.as_slice.ensures c.start.ensures.ok)

pub returns-in_ok-start_reply-in-StartReply-clause-ok :
    goal.returns-in_ok-start_reply-in-StartReply-clause-ok
returns-in_ok-start_reply-in-StartReply-clause-ok g c =
    rw c.in-StartReply.is (subst (λ (b : List ℕ).
    StepsAtStartReply (g.G.KeyRing.keys c.args.ring.now) c.args.register.now.diary c.in-StartReply.bill b
    (step_by c.args.register.now.diary c.in_ok-start_reply-in-StartReply.field-0)) c.as_slice-in-StartReply.ensures
    c.in_ok-start_reply-in-StartReply.ensures)

pub returns-in_ok-finish_reply-in-FinishReply-clause-ok :
    goal.returns-in_ok-finish_reply-in-FinishReply-clause-ok
returns-in_ok-finish_reply-in-FinishReply-clause-ok g c =
    rw c.in-FinishReply.is (subst (λ (b : List ℕ).
    StepsAtFinishReply (g.G.KeyRing.keys c.args.ring.now) c.args.register.now.diary c.in-FinishReply.bill b
    (step_by c.args.register.now.diary c.in_ok-finish_reply-in-FinishReply.field-0))
    c.as_slice-in-FinishReply.ensures c.in_ok-finish_reply-in-FinishReply.ensures)
