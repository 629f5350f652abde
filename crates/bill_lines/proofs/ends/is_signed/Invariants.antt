-- A Signed is among all where one is left.
use Rattle.std.proofs.Common.{◌≡◌, length}
use Rattle.closed_family.specs.Histories.{is_signed}
use Rattle.bill_lines.proofs.ends.is_signed.Given as goal

abbrev pub invariant-loop-record : goal.invariant-loop-record
invariant-loop-record l = is_signed l.fn.h ≡ is_signed l.h

abbrev pub decreases-loop-record : goal.decreases-loop-record
decreases-loop-record l = length l.h
