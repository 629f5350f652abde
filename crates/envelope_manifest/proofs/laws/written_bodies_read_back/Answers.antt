use Rattle.envelope_manifest.specs.Body.{body_value}
use Rattle.envelope_manifest.proofs.WholeBodies.{body_of-body_value, IsLawful-body, HasTexts-body, depth-body}
use Rattle.envelope_manifest.proofs.laws.written_bodies_read_back.Goals as goal

pub returns : goal.returns
returns c body h deep = (
  body_value body,
  c.canonical_reads.ensures (body_value body) (IsLawful-body body h.lawful) (HasTexts-body body h)
      (depth-body body deep),
  body_of-body_value body h.object,
)
