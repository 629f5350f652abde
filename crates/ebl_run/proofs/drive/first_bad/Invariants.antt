-- The first bad line is among those that are left, and has its number there.
use Rattle.std.proofs.Common.{◌≡◌, ◌≤◌, length}
use Rattle.ebl_base.specs.Segments.{segments_of}
use Rattle.ebl_run.specs.Drive.{first_bad}
use Rattle.ebl_run.proofs.drive.first_bad.Given as goal

abbrev pub invariant-loop-line : goal.invariant-loop-line
invariant-loop-line l = record {
  left : first_bad l.fn.roster l.n (segments_of 10 l.rest) ≡ first_bad l.fn.roster 1 (segments_of 10 l.fn.lines);
  numbered : l.n ≤ 100000;
}

abbrev pub decreases-loop-line : goal.decreases-loop-line
decreases-loop-line l = length l.rest
