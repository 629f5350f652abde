use Rattle.record_bytes.proofs.LengthLemmas.{length-spelling}
use Rattle.record_bytes.proofs.laws.frame_spelling_has_this_length.Goals as goal

pub returns : goal.returns
returns c = length-spelling
