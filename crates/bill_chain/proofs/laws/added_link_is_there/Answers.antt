use Rattle.bill_chain.proofs.ChainLemmas.{has_entry-last}
use Rattle.bill_chain.proofs.laws.added_link_is_there.Goals as goal

pub returns : goal.returns
returns c = has_entry-last
