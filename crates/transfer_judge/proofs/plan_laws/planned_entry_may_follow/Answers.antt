use Rattle.transfer_judge.proofs.FollowLemmas.{entry_follows}
use Rattle.transfer_judge.proofs.plan_laws.planned_entry_may_follow.Goals as goal

pub returns : goal.returns
returns c = entry_follows
