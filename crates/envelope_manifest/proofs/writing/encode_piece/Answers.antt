use Rattle.std.proofs.Common.{◌≡◌, rules, sym, subst, arith}
use Rattle.canonical_json.specs.View.{view}
use Rattle.canonical_json.specs.Lawful.{IsLawful}
use Rattle.envelope_manifest.specs.Piece.{piece_value}
use Rattle.envelope_manifest.proofs.PieceLemmas.{IsLawful-piece_value}
use Rattle.envelope_manifest.proofs.writing.encode_piece.Goals as goal

pub returns-clause-lawful : goal.returns-clause-lawful
returns-clause-lawful c =
    let value : view c.object_json.result ≡ piece_value c.args.piece.now = search rules in
    subst IsLawful (sym value) (IsLawful-piece_value c.args.piece.now (omega arith))
