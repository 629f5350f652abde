use Rattle.bill_chain.proofs.ChainLemmas.{goes_beyond-has}
use Rattle.bill_chain.proofs.laws.chain_beyond_has_every_entry.Goals as goal

pub returns : goal.returns
returns c = goes_beyond-has
