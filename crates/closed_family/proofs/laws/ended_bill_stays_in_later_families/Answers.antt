use Rattle.closed_family.proofs.Ended.{ended_later}
use Rattle.closed_family.proofs.laws.ended_bill_stays_in_later_families.Goals as goal

pub returns : goal.returns
returns c = ended_later
