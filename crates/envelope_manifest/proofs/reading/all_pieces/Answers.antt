use Rattle.std.proofs.Common.{sym, ap, ◌∙◌, ◌+◌, drop, subst}
use Rattle.canonical_json.specs.View.{view, items_view}
use Rattle.json_forms.specs.Reading.{all_of}
use Rattle.json_forms.proofs.ListLemmas.{gathered, gathered-item}
use Rattle.envelope_manifest.specs.Piece.{piece_in}
use Rattle.envelope_manifest.specs.Manifest.{ArePieces}
use Rattle.envelope_manifest.proofs.PieceLemmas.{ArePieces-push, piece_in-piece_of}
use Rattle.envelope_manifest.proofs.reading.all_pieces.Goals as goal

pub loop-item-preserved : goal.loop-item-preserved
loop-item-preserved c =
    let items = c.args.items.now in
    let i = c.loop-item.item-index in
    record {
      read = ap (λ pieces. gathered pieces (all_of piece_in (items_view (drop (i + 1) items)))) c.in_ok-push.ensures.ok
          ∙ gathered-item piece_in items i c.item-item.result c.loop-item.pieces c.in_ok-piece.piece
          c.loop-item-test.true
          c.item-item.is (sym (piece_in-piece_of (view c.item-item.result) c.in_ok-piece.piece
          c.in_ok-piece.ensures.ok))
          ∙ c.loop-item.invariant.read;
      form = subst ArePieces (sym c.in_ok-push.ensures.ok)
          (ArePieces-push c.loop-item.pieces c.in_ok-piece.piece c.loop-item.invariant.form c.in_ok-piece.ensures.form);
    }
