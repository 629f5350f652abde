use Rattle.std.proofs.Common.{◌≡◌, drop}
use Rattle.canonical_json.specs.View.{items_view}
use Rattle.json_forms.specs.Reading.{all_of}
use Rattle.json_forms.proofs.ListLemmas.{gathered}
use Rattle.envelope_manifest.specs.Piece.{piece_in}
use Rattle.envelope_manifest.specs.Manifest.{ArePieces}
use Rattle.envelope_manifest.proofs.reading.all_pieces.Given as goal

abbrev pub invariant-loop-item : goal.invariant-loop-item
invariant-loop-item l = record {
  read : gathered l.pieces (all_of piece_in (items_view (drop l.item-index l.items))) ≡ all_of piece_in
      (items_view l.items);
  form : ArePieces l.pieces;
}
