use Rattle.transfer_judge.proofs.FrameLemmas.{one_more_is_legal}
use Rattle.transfer_judge.proofs.laws.frame_that_may_follow_keeps_a_diary_legal.Goals as goal

pub returns : goal.returns
returns c = one_more_is_legal
