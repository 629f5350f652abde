use Rattle.transfer_chain.proofs.ExclusionLemmas.{refused-not_good}
use Rattle.transfer_chain.proofs.GoodChainLemmas.{same_links}
use Rattle.transfer_chain.proofs.laws.refused_texts_are_no_good_chain.Goals as goal

pub returns-clause-refused : goal.returns-clause-refused
returns-clause-refused c = refused-not_good

pub returns-clause-one : goal.returns-clause-one
returns-clause-one c roster keys document texts a b first second = same_links keys texts a b first.links second.links
