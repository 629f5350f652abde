use Rattle.std.proofs.Common.{◌≡◌, drop}
use Rattle.std.specs.Set.{is_member}
use Rattle.ebl_base.specs.Checksum.{checksum_eq}
use Rattle.envelope_manifest.specs.Manifest.{checksums_of}
use Rattle.envelope_manifest.proofs.reading.has_checksum.Given as goal

abbrev pub invariant-loop-piece : goal.invariant-loop-piece
invariant-loop-piece l =
    is_member checksum_eq (checksums_of (drop l.piece-index l.pieces)) l.checksum
    ≡ is_member checksum_eq (checksums_of l.pieces) l.checksum
