use Rattle.std.proofs.Common.{◌∙◌}
use Rattle.canonical_json.specs.View.{view}
use Rattle.record_bytes.proofs.FindLemmas.{found_is, isnt, not_found}
use Rattle.record_bytes.proofs.TextLemmas.{no_piece_said, piece_differs}
use Rattle.record_bytes.proofs.texts.piece_in.Goals as goal

pub returns-in_default : goal.returns-in_default
returns-in_default c =
    no_piece_said c.args.text.now (view c.args.json.now) c.requires
    (not_found _ c.in_ok-piece.field-0 c.in_default.not-Some c.in_ok-piece.ensures.said)

pub returns-else-are_same : goal.returns-else-are_same
returns-else-are_same c =
    piece_differs c.args.text.now (view c.args.json.now) c.in-Some.piece c.requires
    (found_is _ c.in_ok-piece.field-0 c.in-Some.piece c.in-Some.is c.in_ok-piece.ensures.said)
    (λ same. isnt c.are_same.result _ c.if-are_same.false c.are_same.ensures.1
    (c.as_slice.ensures ∙ c.in_ok-written.ensures ∙ same))
