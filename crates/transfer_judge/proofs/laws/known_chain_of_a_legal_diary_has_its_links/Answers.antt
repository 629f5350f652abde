use Rattle.transfer_judge.proofs.OwnLinkLemmas.{known-own}
use Rattle.transfer_judge.proofs.laws.known_chain_of_a_legal_diary_has_its_links.Goals as goal

pub returns : goal.returns
returns c = known-own
