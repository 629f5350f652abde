use Rattle.std.proofs.Common.{arith}
use Rattle.envelope_manifest.specs.Piece.{piece_value}
use Rattle.envelope_manifest.proofs.ManifestLemmas.{piece_of-piece_value, IsLawful-piece, HasTexts-piece}
use Rattle.envelope_manifest.proofs.laws.written_pieces_read_back.Goals as goal

pub returns-clause-again : goal.returns-clause-again
returns-clause-again c = piece_of-piece_value

pub returns-clause-lawful : goal.returns-clause-lawful
returns-clause-lawful c = IsLawful-piece

pub returns-clause-texts : goal.returns-clause-texts
returns-clause-texts c = HasTexts-piece

pub returns-clause-reads : goal.returns-clause-reads
returns-clause-reads c piece h =
    c.canonical_reads.ensures (piece_value piece) (IsLawful-piece piece h) (HasTexts-piece piece h) (omega arith)
