use Rattle.std.proofs.Common.{◌∙◌}
use Rattle.http_heads.specs.Plan.{none}
use Rattle.http_heads.proofs.PlanLemmas.{plan_by}
use Rattle.http_heads.proofs.head.Plans.plan_of.Goals as goal

pub returns-in-Some-clause-plan : goal.returns-in-Some-clause-plan
returns-in-Some-clause-plan c =
    let some = c.in-Some.ensures.some in
    let at = some.2 in
    plan_by c.args.piece.now _ _ _ _ some.0 _ some.1 (c.of.ensures ∙ at.method) (c.of-in-Some.ensures ∙ at.path) at.version at.fields c.plan.ensures.plan

pub returns-in-None-clause-plan : goal.returns-in-None-clause-plan
returns-in-None-clause-plan c = none c.in-None.ensures.none
