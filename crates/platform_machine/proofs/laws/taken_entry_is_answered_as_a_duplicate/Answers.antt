use Rattle.platform_machine.proofs.OutcomeLemmas.{finish_of_taken, start_of_taken}
use Rattle.platform_machine.proofs.laws.taken_entry_is_answered_as_a_duplicate.Goals as goal

pub returns-clause-start : goal.returns-clause-start
returns-clause-start c =
    λ roster keys me diary body s step shows goes taken steps.
    start_of_taken roster keys me diary body s step
    (c.body_has_at_most_one_reading_or_refusal.ensures.shown roster keys body)
    (c.body_has_at_most_one_reading_or_refusal.ensures.never_both roster keys body) shows goes taken steps

pub returns-clause-finish : goal.returns-clause-finish
returns-clause-finish c = finish_of_taken
