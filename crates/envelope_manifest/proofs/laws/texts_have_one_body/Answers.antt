use Rattle.envelope_manifest.proofs.WholeBodies.{body_once}
use Rattle.envelope_manifest.proofs.laws.texts_have_one_body.Goals as goal

pub returns : goal.returns
returns c = body_once
