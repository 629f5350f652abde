use Rattle.std.proofs.Common.{◌≡◌, ◌||◌, drop}
use Rattle.std.specs.Set.{is_member}
use Rattle.ebl_base.specs.Checksum.{checksum_eq}
use Rattle.ebl_base.specs.declared.checksum.Checksum.{Checksum}
use Rattle.envelope_manifest.specs.Manifest.{checksums_of}
use Rattle.upload_state.specs.Piece.{has}
use Rattle.upload_state.proofs.piece.checksums_of.Given as goal

abbrev pub invariant-loop-piece : goal.invariant-loop-piece
invariant-loop-piece l =
    (c : Checksum) → (has l.set c || is_member checksum_eq (checksums_of (drop l.piece-index l.pieces)) c)
    ≡ is_member checksum_eq (checksums_of l.pieces) c
