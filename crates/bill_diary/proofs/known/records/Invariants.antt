-- The records so far, followed by those that are left, are all.
use Rattle.std.proofs.Common.{◌≡◌, ◌++◌, length, map}
use Rattle.bill_diary.specs.History.{record_at}
use Rattle.bill_diary.proofs.known.records.Given as goal

abbrev pub invariant-loop-record : goal.invariant-loop-record
invariant-loop-record l = map record_at l.records.items ++ l.h ≡ l.fn.h

abbrev pub decreases-loop-record : goal.decreases-loop-record
decreases-loop-record l = length l.h
