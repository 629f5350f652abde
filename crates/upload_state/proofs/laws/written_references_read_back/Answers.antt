use Rattle.upload_state.proofs.ReferenceLemmas.{reference_in-reference_text, IsReference-reference_in}
use Rattle.upload_state.proofs.laws.written_references_read_back.Goals as goal

pub returns : goal.returns
returns c = record { again = reference_in-reference_text; form = IsReference-reference_in }
