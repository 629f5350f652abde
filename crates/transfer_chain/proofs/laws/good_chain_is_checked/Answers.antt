use Rattle.transfer_chain.proofs.GoodChainLemmas.{good-checked}
use Rattle.transfer_chain.proofs.laws.good_chain_is_checked.Goals as goal

pub returns : goal.returns
returns c = good-checked
