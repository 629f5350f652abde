use Rattle.canonical_json.specs.View.{view}
use Rattle.transfer_core.proofs.PartLemmas.{manifest_fits}
use Rattle.transfer_core.proofs.commanding.signed_manifest.Goals as goal

pub signed-requires-clause-short : goal.signed-requires-clause-short
signed-requires-clause-short g c =
    manifest_fits (view c.in_ok-payload.payload) c.args.manifest.now c.in_ok-payload.ensures.value c.requires
