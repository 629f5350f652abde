use Rattle.std.proofs.Common.{◌≡◌, ◌&&◌, drop}
use Rattle.ebl_base.specs.declared.checksum.Checksum.{Checksum}
use Rattle.upload_state.specs.Piece.{has, is_absent}
use Rattle.upload_state.proofs.piece.remove_all.Given as goal

abbrev pub invariant-loop-checksum : goal.invariant-loop-checksum
invariant-loop-checksum l =
    (c : Checksum) → (has l.set c && is_absent (drop l.checksum-index l.checksums) c)
    ≡ (has l.fn.set c && is_absent l.checksums c)
