-- Which frames have room on a journal, behind those before them.
use Rattle.std.specs.Prelude.{◌≡◌, ℕ, ◌+◌, ◌<◌, ◌≤◌, Bool, true, false, List, [], ◌∷◌, ◌++◌, length}
use Rattle.bill_diary.specs.declared.record.Record.TheVariants.{Settled, Regained}
use Rattle.bill_diary.specs.declared.frame.Frame.{Frame}
use Rattle.bill_diary.specs.declared.frame.Frame.TheVariants.{One}
use Rattle.bill_journal.specs.Frames.{front_of}
use Rattle.bill_journal.specs.Journal.{room_for}
use Rattle.journal_room.specs.Contents.{contents_in}

-- whether a frame settles a bill that is parting: for these a journal has the larger room
abbrev pub is_settling : Frame → Bool
is_settling (One (Settled bill entry)) = true
is_settling (One (Regained bill entry)) = true
is_settling frame = false

-- how many bytes the journal of a diary has
abbrev pub journal_length : List Frame → ℕ
journal_length diary = length (front_of (contents_in diary)) + 1

-- the journal has room for the frame behind the diary
abbrev pub Fits : List Frame → Frame → Type 0
Fits diary frame = journal_length (diary ++ frame ∷ []) ≤ room_for (is_settling frame)

-- it has none
abbrev pub IsTooLong : List Frame → Frame → Type 0
IsTooLong diary frame = room_for (is_settling frame) < journal_length (diary ++ frame ∷ [])

-- each frame of the diary fits behind those before it
pub record HasRoom (diary : List Frame) : Type 0 where
  pub each : (before behind : List Frame) (frame : Frame) → diary ≡ before ++ frame ∷ behind → Fits before frame
