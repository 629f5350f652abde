-- What is left has the bytes where the whole has.
use Rattle.std.proofs.Common.{◌≡◌, length}
use Rattle.bill_diary.specs.History.{history}
use Rattle.bill_diary.specs.Pieces.{are_there}
use Rattle.title_register.proofs.lookups.are_among.Given as goal

abbrev pub invariant-loop-record : goal.invariant-loop-record
invariant-loop-record l = are_there (history l.fn.bill l.frames) l.bytes ≡ are_there l.left l.bytes

abbrev pub decreases-loop-record : goal.decreases-loop-record
decreases-loop-record l = length l.left
