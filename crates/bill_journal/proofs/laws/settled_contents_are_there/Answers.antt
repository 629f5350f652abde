use Rattle.bill_journal.proofs.StageLemmas.{settled_may_have}
use Rattle.bill_journal.proofs.laws.settled_contents_are_there.Goals as goal

pub returns : goal.returns
returns g c disk end h x settled = settled_may_have _ _ end h x settled
