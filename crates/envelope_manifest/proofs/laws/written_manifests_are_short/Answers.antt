use Rattle.envelope_manifest.proofs.LengthLemmas.{manifest_length, piece_length}
use Rattle.envelope_manifest.proofs.laws.written_manifests_are_short.Goals as goal

pub returns-clause-manifest : goal.returns-clause-manifest
returns-clause-manifest c = manifest_length

pub returns-clause-piece : goal.returns-clause-piece
returns-clause-piece c = piece_length
