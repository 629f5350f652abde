use Rattle.std.proofs.Common.{◌≡◌, ◌++◌, drop}
use Rattle.std.specs.Prelude.{filter}
use Rattle.envelope_manifest.specs.Manifest.{checksums_of}
use Rattle.upload_state.specs.Piece.{each_once, has}
use Rattle.upload_state.proofs.piece.in_order.Given as goal

abbrev pub invariant-loop-piece : goal.invariant-loop-piece
invariant-loop-piece l =
    l.list ++ filter (has l.set) (each_once (checksums_of (drop l.piece-index l.pieces)))
    ≡ filter (has l.fn.set) (each_once (checksums_of l.pieces))
