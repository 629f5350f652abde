-- The chains so far, followed by those of the records that are left, are all.
use Rattle.std.proofs.Common.{◌≡◌, ◌++◌, length, map}
use Rattle.bill_diary.specs.Place.{taken_chains}
use Rattle.bill_lines.proofs.accepted.taken_chains.Given as goal

abbrev pub invariant-loop-record : goal.invariant-loop-record
invariant-loop-record l = map (λ c. c.now) l.chains.items ++ taken_chains l.h ≡ taken_chains l.fn.h

abbrev pub decreases-loop-record : goal.decreases-loop-record
decreases-loop-record l = length l.h
