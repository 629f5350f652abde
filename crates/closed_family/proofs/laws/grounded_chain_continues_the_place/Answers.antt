use Rattle.closed_family.proofs.Grounded.{chain_continues}
use Rattle.closed_family.proofs.laws.grounded_chain_continues_the_place.Goals as goal

pub returns : goal.returns
returns c = chain_continues
