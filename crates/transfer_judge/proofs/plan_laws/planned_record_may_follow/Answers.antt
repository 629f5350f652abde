use Rattle.transfer_judge.proofs.FollowLemmas.{record_follows}
use Rattle.transfer_judge.proofs.plan_laws.planned_record_may_follow.Goals as goal

pub returns : goal.returns
returns c = λ roster keys me diary party command now r given is.
    record_follows roster keys me diary party command now r given is
