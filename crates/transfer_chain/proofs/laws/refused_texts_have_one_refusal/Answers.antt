use Rattle.transfer_chain.proofs.OneRefusal.{one_chain_refusal}
use Rattle.transfer_chain.proofs.laws.refused_texts_have_one_refusal.Goals as goal

pub returns : goal.returns
returns c = one_chain_refusal
