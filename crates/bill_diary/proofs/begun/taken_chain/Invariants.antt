-- What is left gives what the whole gives.
use Rattle.std.proofs.Common.{◌≡◌, length}
use Rattle.bill_diary.specs.Known.{taken_chain}
use Rattle.bill_diary.proofs.begun.taken_chain.Given as goal

abbrev pub invariant-loop-record : goal.invariant-loop-record
invariant-loop-record l = taken_chain l.entry l.fn.before ≡ taken_chain l.entry l.before

abbrev pub decreases-loop-record : goal.decreases-loop-record
decreases-loop-record l = length l.before
