use Rattle.envelope_manifest.specs.Manifest.{manifest_value}
use Rattle.envelope_manifest.proofs.ManifestLemmas.{one_manifest, IsLawful-manifest}
use Rattle.envelope_manifest.proofs.laws.manifests_with_one_text_are_one.Goals as goal

pub returns : goal.returns
returns c a b first second same =
    one_manifest a b first second
    (c.equal_texts_have_equal_values.ensures (manifest_value a) (manifest_value b) (IsLawful-manifest a first)
    (IsLawful-manifest b second) same)
