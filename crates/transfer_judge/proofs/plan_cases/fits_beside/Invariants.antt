-- The room that is left is what the documents so far and this one leave of 4,194,304 bytes.
use Rattle.std.proofs.Common.{◌≡◌, ◌+◌, ◌≤◌, drop}
use Rattle.envelope_manifest.specs.Manifest.{total_size}
use Rattle.transfer_judge.proofs.plan_cases.fits_beside.Given as goal

abbrev pub invariant-loop-piece : goal.invariant-loop-piece
invariant-loop-piece l =
    (l.room ≤ 4194304)
    × ((total_size l.pieces + l.size) + l.room ≡ 4194304 + total_size (drop l.piece-index l.pieces))
