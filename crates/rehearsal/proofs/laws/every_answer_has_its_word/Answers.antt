use Rattle.rehearsal.proofs.Words.{answer_counts}
use Rattle.rehearsal.proofs.laws.every_answer_has_its_word.Goals as goal

pub returns : goal.returns
returns c = answer_counts
