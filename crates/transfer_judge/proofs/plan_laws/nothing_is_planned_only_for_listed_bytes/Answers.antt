use Rattle.transfer_judge.proofs.FollowLemmas.{nothing_is_new}
use Rattle.transfer_judge.proofs.plan_laws.nothing_is_planned_only_for_listed_bytes.Goals as goal

pub returns : goal.returns
returns c = λ roster me diary party command now is. nothing_is_new roster me _ party command now is
