use Rattle.transfer_chain.proofs.KnownLemmas.{good-goes_on, good-behind}
use Rattle.transfer_chain.proofs.laws.good_chain_goes_on.Goals as goal

pub returns-clause-good : goal.returns-clause-good
returns-clause-good c = good-goes_on

pub returns-clause-behind : goal.returns-clause-behind
returns-clause-behind c = good-behind
