use Rattle.bill_chain.proofs.ChainLemmas.{has_entry-behind}
use Rattle.bill_chain.proofs.laws.entry_behind_a_front_is_there.Goals as goal

pub returns : goal.returns
returns c = has_entry-behind
