use Rattle.closed_family.proofs.Growth.{ended_stays}
use Rattle.closed_family.proofs.laws.ended_bill_stays.Goals as goal

pub returns : goal.returns
returns c = ended_stays
