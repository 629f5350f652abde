use Rattle.platform_machine.proofs.SealLemmas.{sealable_at_finish, sealable_at_start}
use Rattle.platform_machine.proofs.laws.judgements_have_answers_that_can_be_sealed.Goals as goal

pub returns-clause-start : goal.returns-clause-start
returns-clause-start c = sealable_at_start

pub returns-clause-finish : goal.returns-clause-finish
returns-clause-finish c = sealable_at_finish
