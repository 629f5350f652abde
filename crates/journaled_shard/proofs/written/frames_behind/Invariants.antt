-- The whole is the diary and more if and only if what is left is what is left of the diary and more.
use Rattle.std.proofs.Common.{◌≡◌, ◌↔◌, ◌++◌, ℕ, List, drop}
use Rattle.bill_journal.specs.Places.{contents_of}
use Rattle.journaled_diary.specs.Contents.{contents_in}
use Rattle.journaled_shard.proofs.written.frames_behind.Given as goal

abbrev pub invariant-loop-frame : goal.invariant-loop-frame
invariant-loop-frame l =
    (more : List (List ℕ))
    → (contents_of l.fn.frames ≡ contents_in l.fn.diary ++ more)
    ↔ (contents_of l.rest ≡ contents_in (drop l.frame-index l.fn.diary) ++ more)
