use Rattle.transfer_judge.proofs.LegalLemmas.{legal_frame_is_sound}
use Rattle.transfer_judge.proofs.laws.frame_that_follows_legally_follows_soundly.Goals as goal

pub returns : goal.returns
returns c = legal_frame_is_sound
