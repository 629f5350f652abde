use Rattle.bill_journal.proofs.FrameLemmas.{stands_once}
use Rattle.bill_journal.proofs.laws.bytes_stand_for_one_list.Goals as goal

pub returns : goal.returns
returns c = stands_once
