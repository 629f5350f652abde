use Rattle.std.proofs.Common.{arith}
use Rattle.envelope_manifest.specs.Manifest.{manifest_value}
use Rattle.envelope_manifest.proofs.ManifestLemmas.{manifest_of-manifest_value, IsLawful-manifest, HasTexts-manifest, depth-manifest}
use Rattle.envelope_manifest.proofs.laws.written_manifests_read_back.Goals as goal

pub returns-clause-again : goal.returns-clause-again
returns-clause-again c = manifest_of-manifest_value

pub returns-clause-lawful : goal.returns-clause-lawful
returns-clause-lawful c = IsLawful-manifest

pub returns-clause-texts : goal.returns-clause-texts
returns-clause-texts c = HasTexts-manifest

pub returns-clause-depth : goal.returns-clause-depth
returns-clause-depth c = depth-manifest

pub returns-clause-reads : goal.returns-clause-reads
returns-clause-reads c manifest h =
    let few = depth-manifest manifest in
    c.canonical_reads.ensures (manifest_value manifest) (IsLawful-manifest manifest h)
    (HasTexts-manifest manifest h) (omega arith)
