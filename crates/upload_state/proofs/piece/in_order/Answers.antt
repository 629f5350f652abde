use Rattle.std.proofs.Common.{◌++◌, ◌+◌, drop, sym, ap, ◌∙◌}
use Rattle.std.specs.Prelude.{filter}
use Rattle.envelope_manifest.specs.Manifest.{checksums_of}
use Rattle.upload_state.specs.Piece.{each_once, has}
use Rattle.upload_state.proofs.WantedLemmas.{listed-wanted, listed-other, checksums_of-drop}
use Rattle.upload_state.proofs.piece.in_order.Goals as goal
use Rattle.upload_state.proofs.piece.in_order.Goals.{then-remove+in_ok-push, else-remove}

pub loop-piece-preserved : goal.loop-piece-preserved
loop-piece-preserved c =
    let pieces = c.args.pieces.now in
    let i = c.loop-piece.piece-index in
    let rest = checksums_of (drop (i + 1) pieces) in
    let front = checksums_of-drop pieces i c.piece-item.result c.loop-piece-test.true c.piece-item.is in
    let whole = ap (λ cs. c.loop-piece.list ++ filter (has c.loop-piece.set) (each_once cs)) (sym front)
    ∙ c.loop-piece.invariant in
    elim c.if-remove.branch [
      | then-remove+in_ok-push w ↦
          listed-wanted c.loop-piece.set c.remove.new.self c.piece-item.result.checksum c.loop-piece.list
          c.if-remove.list rest
          c.remove.ensures.updates.0 (sym c.remove.ensures.test ∙ w.if-remove.true) (w.list-is
          ∙ w.in_ok-push.ensures.ok) ∙ whole
      | else-remove w ↦
          listed-other c.loop-piece.set c.remove.new.self c.piece-item.result.checksum c.loop-piece.list
          c.if-remove.list rest
          c.remove.ensures.updates.0 (sym c.remove.ensures.test ∙ w.if-remove.false) w.list-is ∙ whole
    ]
