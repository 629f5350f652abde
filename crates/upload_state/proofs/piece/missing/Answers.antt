use Rattle.std.proofs.Common.{◌≡◌, IfOk, ap, ◌∙◌, subst}
use Rattle.std.specs.Prelude.{filter}
use Rattle.envelope_manifest.specs.Manifest.{checksums_of}
use Rattle.upload_state.specs.Piece.{each_once, is_absent}
use Rattle.upload_state.proofs.WantedLemmas.{wanted-absent}
use Rattle.upload_state.proofs.piece.missing.Goals as goal

pub returns : goal.returns
returns c =
    let pieces = c.as_slice-pieces.result.now in
    let stored = c.as_slice.result.now in
    let wanted = wanted-absent c.in_ok-wanted.wanted c.remove_all.new.set (checksums_of pieces) stored
    c.in_ok-wanted.ensures c.remove_all.ensures in
    let named = ap (λ ps. filter (is_absent stored) (each_once (checksums_of ps))) c.as_slice-pieces.ensures
    ∙ ap (λ cs. filter (is_absent cs) (each_once (checksums_of c.args.manifest.now.documents))) c.as_slice.ensures in
    subst (λ list. IfOk c.in_order.result (λ missing. missing ≡ list)) (wanted ∙ named) c.in_order.ensures
