use Rattle.closed_family.proofs.Growth.{parted_was_accepted}
use Rattle.closed_family.proofs.laws.parted_chain_was_accepted_before.Goals as goal

pub returns : goal.returns
returns c = parted_was_accepted
