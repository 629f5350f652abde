-- The records that are left of the bill are those of the bill in the frames that are left.
use Rattle.std.proofs.Common.{◌≡◌, None, length}
use Rattle.bill_diary.specs.History.{history}
use Rattle.bill_diary.specs.Linked.{AreLinked}
use Rattle.bill_diary.proofs.walk.History.next.Given as goal

abbrev pub invariant-loop-frame : goal.invariant-loop-frame
invariant-loop-frame l =
    (l.fn.self ≡ history l.self-inside.bill l.self-inside.frames.now)
    × (l.self-inside.begun ≡ None)
    × AreLinked l.self-inside.frames.now l.self-inside.links.now

abbrev pub decreases-loop-frame : goal.decreases-loop-frame
decreases-loop-frame l = length l.self-inside.frames.now
