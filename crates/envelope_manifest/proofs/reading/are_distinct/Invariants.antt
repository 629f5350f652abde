use Rattle.std.proofs.Common.{◌≡◌, drop}
use Rattle.envelope_manifest.specs.Manifest.{are_distinct, checksums_of}
use Rattle.envelope_manifest.proofs.reading.are_distinct.Given as goal

abbrev pub invariant-loop-i : goal.invariant-loop-i
invariant-loop-i l = are_distinct (checksums_of (drop l.i l.pieces)) ≡ are_distinct (checksums_of l.pieces)
