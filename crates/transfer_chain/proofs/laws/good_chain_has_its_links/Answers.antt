use Rattle.transfer_chain.proofs.KnownLemmas.{good-own}
use Rattle.transfer_chain.proofs.laws.good_chain_has_its_links.Goals as goal

pub returns : goal.returns
returns c = good-own
