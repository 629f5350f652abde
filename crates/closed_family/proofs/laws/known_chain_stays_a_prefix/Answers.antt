use Rattle.closed_family.proofs.Growth.{known_grows}
use Rattle.closed_family.proofs.laws.known_chain_stays_a_prefix.Goals as goal

pub returns : goal.returns
returns c = known_grows
