use Rattle.pint_responses.proofs.SealedLemmas.{one_sealed}
use Rattle.pint_responses.proofs.laws.sealed_text_is_one_response.Goals as goal

pub returns : goal.returns
returns c = one_sealed
