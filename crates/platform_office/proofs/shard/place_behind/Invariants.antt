-- The place is that of the gate behind the frames so far.
use Rattle.std.proofs.Common.{◌≡◌, length, take}
use Rattle.bill_journal.specs.Frames.{front_of}
use Rattle.journaled_diary.specs.Contents.{contents_in}
use Rattle.platform_office.proofs.shard.place_behind.Given as goal

abbrev pub invariant-loop-frame : goal.invariant-loop-frame
invariant-loop-frame l = l.place ≡ length (front_of (contents_in (take l.frame-index l.frames)))
