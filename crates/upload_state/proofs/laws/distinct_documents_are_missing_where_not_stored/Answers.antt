use Rattle.std.proofs.Common.{ap}
use Rattle.std.specs.Prelude.{filter}
use Rattle.envelope_manifest.specs.Manifest.{checksums_of}
use Rattle.upload_state.specs.Piece.{is_absent}
use Rattle.upload_state.proofs.WantedLemmas.{each_once-distinct}
use Rattle.upload_state.proofs.laws.distinct_documents_are_missing_where_not_stored.Goals as goal

pub returns : goal.returns
returns c manifest stored distinct =
    ap (filter (is_absent stored)) (each_once-distinct (checksums_of manifest.documents) distinct)
