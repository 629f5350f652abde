use Rattle.envelope_manifest.proofs.DepthLemmas.{document_nests}
use Rattle.envelope_manifest.proofs.laws.documents_nest_in_their_bodies.Goals as goal

pub returns : goal.returns
returns c = document_nests
