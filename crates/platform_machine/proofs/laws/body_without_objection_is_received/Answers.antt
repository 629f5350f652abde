use Rattle.platform_machine.proofs.OutcomeLemmas.{finish_of_welcome, start_of_welcome}
use Rattle.platform_machine.proofs.laws.body_without_objection_is_received.Goals as goal

pub returns-clause-start : goal.returns-clause-start
returns-clause-start c =
    λ roster keys me diary body s step shows free steps.
    start_of_welcome roster keys me diary body s step
    (c.body_has_at_most_one_reading_or_refusal.ensures.shown roster keys body)
    (c.body_has_at_most_one_reading_or_refusal.ensures.never_both roster keys body) shows free steps

pub returns-clause-finish : goal.returns-clause-finish
returns-clause-finish c = finish_of_welcome
