use Rattle.transfer_chain.proofs.NameLemmas.{meet-texts}
use Rattle.transfer_chain.proofs.laws.chains_meet_as_their_texts_do.Goals as goal

pub returns : goal.returns
returns c = meet-texts
