use Rattle.transfer_chain.proofs.NameLemmas.{last_name-determines}
use Rattle.transfer_chain.proofs.laws.last_name_determines_the_chain.Goals as goal

pub returns : goal.returns
returns c = last_name-determines
