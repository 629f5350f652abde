use Rattle.bill_journal.proofs.FrameLemmas.{stands_at}
use Rattle.bill_journal.proofs.laws.content_stands_at_its_place.Goals as goal

pub returns : goal.returns
returns c = stands_at
