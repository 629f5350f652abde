use Rattle.std.proofs.Common.{◌≡◌, ◌+◌, ◌≤◌, drop}
use Rattle.envelope_manifest.specs.Manifest.{total_size}
use Rattle.envelope_manifest.proofs.reading.fit_together.Given as goal

abbrev pub invariant-loop-piece : goal.invariant-loop-piece
invariant-loop-piece l =
    (l.room ≤ 4194304) × (total_size l.pieces + l.room ≡ 4194304 + total_size (drop l.piece-index l.pieces))
