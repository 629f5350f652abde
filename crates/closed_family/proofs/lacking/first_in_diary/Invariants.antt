-- No frame that was gone over lacks anything.
use Rattle.std.proofs.Common.{◌≡◌, [], take}
use Rattle.bill_diary.specs.History.{newest_first}
use Rattle.closed_family.specs.Lacking.{lacking_in}
use Rattle.closed_family.proofs.lacking.first_in_diary.Given as goal

abbrev pub invariant-loop-i : goal.invariant-loop-i
invariant-loop-i l = lacking_in l.fn.family (newest_first (take l.i l.frames)) ≡ []
