use Rattle.envelope_manifest.specs.Piece.{piece_value}
use Rattle.envelope_manifest.proofs.ManifestLemmas.{one_piece, IsLawful-piece}
use Rattle.envelope_manifest.proofs.laws.pieces_with_one_text_are_one.Goals as goal

pub returns : goal.returns
returns c a b first second same =
    one_piece a b first second
    (c.equal_texts_have_equal_values.ensures (piece_value a) (piece_value b) (IsLawful-piece a first)
    (IsLawful-piece b second) same)
