use Rattle.closed_family.proofs.Growth.{earlier_was_regained}
use Rattle.closed_family.proofs.laws.earlier_parted_entry_was_regained.Goals as goal

pub returns : goal.returns
returns c = earlier_was_regained
