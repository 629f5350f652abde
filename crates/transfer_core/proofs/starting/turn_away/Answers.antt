use Rattle.std.proofs.Common.{List, None, subst}
use Rattle.std.specs.Prelude.{IfOk}
use Rattle.pint_responses.specs.declared.response.Response.{Response}
use Rattle.bill_diary.specs.declared.frame.Frame.{Frame}
use Rattle.platform_machine.specs.Step.{Answers}
use Rattle.transfer_core.specs.Decision.{step_by}
use Rattle.transfer_core.proofs.starting.turn_away.Goals as goal

pub returns-clause-ok : goal.returns-clause-ok
returns-clause-ok g c =
    subst (λ (r : Response). IfOk c.answer_with.result (λ d. (diary : List Frame)
    → Answers (g.G.KeyRing.keys c.args.ring.now) c.args.me None r (step_by diary d))) c.refusal_response.ensures
    c.answer_with.ensures.ok
