use Rattle.bill_chain.proofs.ChainLemmas.{last_of-push}
use Rattle.bill_chain.proofs.laws.added_link_is_the_last.Goals as goal

pub returns : goal.returns
returns c = last_of-push
