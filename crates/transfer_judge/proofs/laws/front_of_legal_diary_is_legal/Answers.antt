use Rattle.transfer_judge.proofs.FrameLemmas.{front_is_legal}
use Rattle.transfer_judge.proofs.laws.front_of_legal_diary_is_legal.Goals as goal

pub returns : goal.returns
returns c = front_is_legal
