-- What is left gives what the whole gives.
use Rattle.std.proofs.Common.{◌≡◌, length}
use Rattle.bill_diary.specs.Known.{last_begun}
use Rattle.title_register.proofs.past.last_begun.Given as goal

abbrev pub invariant-loop-record : goal.invariant-loop-record
invariant-loop-record l = last_begun l.entry l.fn.h ≡ last_begun l.entry l.h

abbrev pub decreases-loop-record : goal.decreases-loop-record
decreases-loop-record l = length l.h
