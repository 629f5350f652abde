use Rattle.transfer_judge.proofs.LegalLemmas.{legal_is_sound}
use Rattle.transfer_judge.proofs.laws.legal_diary_is_sound.Goals as goal

pub returns : goal.returns
returns c = legal_is_sound
