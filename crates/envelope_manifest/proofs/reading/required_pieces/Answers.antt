use Rattle.std.proofs.Common.{◌≤◌, codes, sym, ap, ◌∙◌, subst}
use Rattle.canonical_json.specs.Field.{list_of}
use Rattle.canonical_json.specs.View.{view, items_view}
use Rattle.json_forms.proofs.RoundTrips.{count_of-all_of}
use Rattle.envelope_manifest.specs.Piece.{piece_in}
use Rattle.envelope_manifest.specs.Manifest.{go_together}
use Rattle.envelope_manifest.proofs.PieceLemmas.{count_of-read}
use Rattle.envelope_manifest.proofs.reading.required_pieces.Goals as goal

pub returns-clause-form : goal.returns-clause-form
returns-clause-form c =
    let values = items_view c.in-Some.items.now in
    record {
      count = subst (λ n. n ≤ 16) (count_of-all_of piece_in values c.in_ok-pieces.pieces c.in_ok-pieces.ensures.ok)
          (count_of-read 16 (list_of (codes "documents") (view c.args.json.now)) values (sym c.in-Some.ensures));
      each = c.in_ok-pieces.ensures.form;
      together = ap go_together (sym c.as_slice.ensures) ∙ sym c.go_together.ensures ∙ c.if-not-go_together.false;
    }
