use Rattle.transfer_judge.proofs.FollowLemmas.{goes_there}
use Rattle.transfer_judge.proofs.plan_laws.planned_platform_is_the_destination.Goals as goal

pub returns : goal.returns
returns c = λ roster me diary party command now entry documents to link is link_is.
    goes_there roster me _ party command now entry documents to link is link_is
