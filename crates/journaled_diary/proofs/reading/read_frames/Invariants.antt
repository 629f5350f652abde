-- The frames so far are the diary so far, and so many bytes are used.
use Rattle.std.proofs.Common.{◌≡◌, ◌≤◌, None, take}
use Rattle.bill_journal.specs.Places.{contents_of}
use Rattle.journal_room.specs.Room.{journal_length}
use Rattle.journaled_diary.specs.Reading.{IsDiaryOf}
use Rattle.journaled_diary.proofs.reading.read_frames.Given as goal

abbrev pub invariant-loop-at : goal.invariant-loop-at
invariant-loop-at g l = record {
  diary_is : IsDiaryOf l.roster (g.G.KeyRing.keys l.ring) l.me (contents_of (take l.at-index l.frames)) l.register.diary;
  used_is : l.used ≡ journal_length l.register.diary;
  short : l.used ≤ 16777216;
  no_room : l.register.room ≡ None;
}
