use Rattle.envelope_manifest.specs.Body.{body_value}
use Rattle.envelope_manifest.proofs.WholeBodies.{one_body, IsLawful-body}
use Rattle.envelope_manifest.proofs.laws.bodies_with_one_text_are_one.Goals as goal

pub returns : goal.returns
returns c a b first second same =
    one_body a b first second
    (c.equal_texts_have_equal_values.ensures (body_value a) (body_value b) (IsLawful-body a first.lawful)
    (IsLawful-body b second.lawful) same)
