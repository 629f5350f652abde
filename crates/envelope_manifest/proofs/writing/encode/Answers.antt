use Rattle.std.proofs.Common.{◌≡◌, IsTrue, rules, sym, ap, ◌∙◌, subst}
use Rattle.canonical_json.specs.View.{view}
use Rattle.canonical_json.specs.Lawful.{IsLawful, are_lawful}
use Rattle.json_forms.specs.Writing.{each_written}
use Rattle.envelope_manifest.specs.Piece.{piece_value}
use Rattle.envelope_manifest.specs.Manifest.{manifest_value}
use Rattle.envelope_manifest.proofs.PieceLemmas.{IsLawful-manifest_value}
use Rattle.envelope_manifest.proofs.writing.encode.Goals as goal

pub returns-clause-lawful : goal.returns-clause-lawful
returns-clause-lawful c =
    let value : view c.object_json.result ≡ manifest_value c.args.manifest.now = search rules in
    let pieces : IsTrue (are_lawful (each_written piece_value c.args.manifest.now.documents)) =
    ap (λ ps. are_lawful (each_written piece_value ps)) (sym c.as_slice.ensures)
    ∙ ap are_lawful (sym c.in_ok-pieces.ensures.value) ∙ c.in_ok-pieces.ensures.lawful in
    subst IsLawful (sym value) (IsLawful-manifest_value c.args.manifest.now pieces)
