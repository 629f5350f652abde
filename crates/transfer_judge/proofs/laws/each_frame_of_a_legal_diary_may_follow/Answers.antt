use Rattle.transfer_judge.proofs.FrameLemmas.{each_follows}
use Rattle.transfer_judge.proofs.laws.each_frame_of_a_legal_diary_may_follow.Goals as goal

pub returns : goal.returns
returns c = each_follows
