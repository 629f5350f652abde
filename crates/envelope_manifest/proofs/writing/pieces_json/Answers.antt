use Rattle.std.proofs.Common.{IsTrue, map, sym, ap, ◌∙◌, subst}
use Rattle.canonical_json.specs.View.{view, items_view}
use Rattle.canonical_json.specs.Lawful.{are_lawful}
use Rattle.envelope_manifest.proofs.PieceLemmas.{written-push, are_lawful-push}
use Rattle.envelope_manifest.proofs.writing.pieces_json.Goals as goal

pub loop-piece-preserved : goal.loop-piece-preserved
loop-piece-preserved c = record {
  written = ap (map view) c.in_ok-push.ensures.items
      ∙ written-push c.loop-piece.items.items c.in_ok-encode_piece.field-0 c.args.pieces.now
      c.loop-piece.piece-index c.piece-item.result
      c.loop-piece.invariant.written c.in_ok-encode_piece.ensures.value c.loop-piece-test.true c.piece-item.is;
  lawful = subst (λ items. IsTrue (are_lawful (items_view items))) (sym c.in_ok-push.ensures.items)
      (are_lawful-push c.loop-piece.items.items c.in_ok-encode_piece.field-0 c.loop-piece.invariant.lawful
      c.in_ok-encode_piece.ensures.lawful);
}
