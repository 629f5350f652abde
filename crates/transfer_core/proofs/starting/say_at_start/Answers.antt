use Rattle.std.proofs.Common.{subst}
use Rattle.std.specs.Prelude.{IfOk}
use Rattle.pint_responses.specs.declared.response.Response.{Response}
use Rattle.platform_machine.specs.Answer.{IsAnswer}
use Rattle.transfer_core.proofs.StartLemmas.{says}
use Rattle.transfer_core.proofs.starting.say_at_start.Goals as goal

pub returns-in_default-clause-ok : goal.returns-in_default-clause-ok
returns-in_default-clause-ok g c =
    says (g.G.KeyRing.keys c.args.ring.now) c.args.me c.args.subject c.args.judgement c.in_default.not-Missing
    c.answer.result
    (subst (λ (r : Response). IfOk c.answer.result (IsAnswer (g.G.KeyRing.keys c.args.ring.now) c.args.me r))
    c.response_for.ensures c.answer.ensures.ok)
