-- The list has those of the platforms so far.
use Rattle.std.proofs.Common.{◌≡◌, take}
use Rattle.bill_lines.specs.Bills.{acting}
use Rattle.bill_lines.specs.Diaries.{histories_in}
use Rattle.bill_lines.proofs.ends.acting.Given as goal

abbrev pub invariant-loop-p : goal.invariant-loop-p
invariant-loop-p l = l.list.items ≡ acting (histories_in l.bill l.diaries) (take l.p-index l.platforms)
