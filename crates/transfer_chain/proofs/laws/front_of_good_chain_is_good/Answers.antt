use Rattle.transfer_chain.proofs.GoodChainLemmas.{good-front}
use Rattle.transfer_chain.proofs.laws.front_of_good_chain_is_good.Goals as goal

pub returns : goal.returns
returns c = good-front
