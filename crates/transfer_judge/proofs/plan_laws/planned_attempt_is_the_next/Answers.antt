use Rattle.transfer_judge.proofs.FollowLemmas.{attempt_is_next}
use Rattle.transfer_judge.proofs.plan_laws.planned_attempt_is_the_next.Goals as goal

pub returns : goal.returns
returns c = λ roster me diary party command now entry documents to is.
    attempt_is_next roster me _ party command now entry documents to is
