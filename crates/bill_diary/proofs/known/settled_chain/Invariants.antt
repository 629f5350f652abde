-- What is left tells of the entry what all records before tell.
use Rattle.std.proofs.Common.{◌≡◌, length}
use Rattle.bill_diary.specs.Known.{settled_chain}
use Rattle.bill_diary.proofs.known.settled_chain.Given as goal

abbrev pub invariant-loop-record : goal.invariant-loop-record
invariant-loop-record l = settled_chain l.fn.entry l.fn.before ≡ settled_chain l.fn.entry l.before

abbrev pub decreases-loop-record : goal.decreases-loop-record
decreases-loop-record l = length l.before
