use Rattle.std.proofs.Common.{◌≡◌, IsTrue, map, take}
use Rattle.canonical_json.specs.View.{view, items_view}
use Rattle.canonical_json.specs.Lawful.{are_lawful}
use Rattle.envelope_manifest.specs.Piece.{piece_value}
use Rattle.envelope_manifest.proofs.writing.pieces_json.Given as goal

abbrev pub invariant-loop-piece : goal.invariant-loop-piece
invariant-loop-piece l = record {
  written : map view l.items.items ≡ map piece_value (take l.piece-index l.pieces);
  lawful : IsTrue (are_lawful (items_view l.items.items));
}
