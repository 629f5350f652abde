use Rattle.canonical_json.specs.View.{view}
use Rattle.transfer_core.proofs.PartLemmas.{entry_fits}
use Rattle.transfer_core.proofs.commanding.signed_entry.Goals as goal

pub signed-requires-clause-short : goal.signed-requires-clause-short
signed-requires-clause-short g c =
    entry_fits (view c.in_ok-payload.payload) c.args.entry c.in_ok-payload.ensures.value c.requires
