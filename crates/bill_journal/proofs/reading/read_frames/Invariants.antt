use Rattle.std.proofs.Common.{◌≡◌, ◌++◌, ◌-◌, ◌≤◌, length, drop}
use Rattle.bill_journal.specs.Frames.{front_of, AreShort}
use Rattle.bill_journal.specs.Places.{contents_of, frames_from}
use Rattle.bill_journal.proofs.reading.read_frames.Given as goal

abbrev pub invariant-loop-frames : goal.invariant-loop-frames
invariant-loop-frames l = record {
  split : l.bytes ≡ front_of (contents_of l.frames) ++ drop l.place l.bytes;
  here : l.place ≡ length (front_of (contents_of l.frames));
  inside : l.place ≤ length l.bytes;
  places : l.frames ≡ frames_from 1 (contents_of l.frames);
  short : AreShort (contents_of l.frames);
}

abbrev pub decreases-loop-frames : goal.decreases-loop-frames
decreases-loop-frames l = length l.bytes - l.place
