use Rattle.end_manifest.proofs.ManifestLemmas.{same_reason}
use Rattle.end_manifest.proofs.laws.refused_manifest_has_one_reason.Goals as goal

pub returns : goal.returns
returns c = same_reason
