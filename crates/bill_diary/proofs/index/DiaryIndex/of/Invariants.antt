-- What was gone over is linked, and each bill has its end in it.
use Rattle.std.proofs.Common.{◌≡◌, length, take}
use Rattle.bill_diary.specs.Linked.{AreLinked, AreEnds}
use Rattle.bill_diary.proofs.index.DiaryIndex.of.Given as goal

abbrev pub invariant-loop-i : goal.invariant-loop-i
invariant-loop-i l =
    (length l.links.items ≡ l.i) × AreLinked l.frames l.links.items × AreEnds (take l.i l.frames) l.ends
