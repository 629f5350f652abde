use Rattle.std.proofs.Common.{◌||◌, ◌+◌, drop, sym, ap, ◌∙◌}
use Rattle.std.specs.Set.{is_member}
use Rattle.ebl_base.specs.Checksum.{checksum_eq}
use Rattle.envelope_manifest.specs.Manifest.{checksums_of}
use Rattle.upload_state.specs.Piece.{has}
use Rattle.upload_state.proofs.WantedLemmas.{has-inserted, checksums_of-drop}
use Rattle.upload_state.proofs.piece.checksums_of.Goals as goal

pub loop-piece-preserved : goal.loop-piece-preserved
loop-piece-preserved c = λ q.
    let pieces = c.args.pieces.now in
    let i = c.loop-piece.piece-index in
    let front = checksums_of-drop pieces i c.piece-item.result c.loop-piece-test.true c.piece-item.is in
    has-inserted c.loop-piece.set c.insert.new.self c.piece-item.result.checksum q
    (is_member checksum_eq (checksums_of (drop (i + 1) pieces)) q) c.in_ok-insert.ensures.updates.0
    ∙ ap (λ cs. has c.loop-piece.set q || is_member checksum_eq cs q) (sym front) ∙ c.loop-piece.invariant q
