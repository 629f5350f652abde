use Rattle.bill_journal.proofs.StageLemmas.{reads_either}
use Rattle.bill_journal.proofs.laws.a_loose_content_is_there_or_not.Goals as goal

pub returns : goal.returns
returns c = reads_either
