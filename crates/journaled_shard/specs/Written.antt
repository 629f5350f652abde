-- What a shard wrote down on its journal: a diary, and the frame that a failed append left open.
use Rattle.std.specs.Prelude.{◌≡◌, ◌⊎◌, ℕ, Bool, true, false, List, [], ◌∷◌, ◌++◌, Option, Some, None, Result, Ok, Err, length}
use Rattle.bill_diary.specs.declared.frame.Frame.{Frame}
use Rattle.bill_journal.specs.Frames.{front_of}
use Rattle.bill_journal.specs.Journal.{HasContents, JournalRecord}
use Rattle.record_bytes.specs.Forms.{HasNames}
use Rattle.record_bytes.specs.Grammar.{kept}
use Rattle.journaled_shard.specs.declared.unwritten.Unwritten.{Unwritten}
use Rattle.journaled_shard.specs.declared.unwritten.Unwritten.TheVariants as why
use Rattle.journaled_diary.specs.Contents.{IsJournalOf, contents_in}
pub use Rattle.journal_room.specs.Room.{Fits, IsTooLong, is_settling, journal_length}

-- the diary, the frame of an append that failed, whether the journal has to be read again, and the journal
pub record WrittenRecord (D : Type 0) : Type 0 where
  pub diary : List Frame
  pub loose : Option Frame
  pub unread : Bool
  pub journal : JournalRecord D

-- ---- the journal

-- the diary, with its loose frame kept or dropped
abbrev pub IsKeptOrDropped : List Frame → Option Frame → List Frame → Type 0
IsKeptOrDropped diary None found = found ≡ diary
IsKeptOrDropped diary (Some frame) found = (found ≡ diary) ⊎ (found ≡ diary ++ frame ∷ [])

-- the bytes are the journal of the diary, with its loose frame or without it
abbrev pub HasDiary : List Frame → Option Frame → List ℕ → Type 0
HasDiary diary loose file = (found : List Frame) × IsKeptOrDropped diary loose found × IsJournalOf file found

-- a disk has what was written down, and so has whatever a crash leaves; where the journal was read, all of it is
-- durable
pub record IsOnDisk {D : Type 0} (seen : D → List ℕ) (may_leave : D → List ℕ → Type 0) (w : WrittenRecord D)
    : Type 0 where
  pub now : HasDiary w.diary w.loose (seen w.journal.disk)
  pub crash : (c : List ℕ) → may_leave w.journal.disk c → HasDiary w.diary w.loose c
  pub settled : w.unread ≡ false → HasContents seen may_leave w.journal (contents_in w.diary)

-- nothing is loose, and the journal ends behind the diary's frames
pub record IsRead {D : Type 0} (w : WrittenRecord D) : Type 0 where
  pub read : w.unread ≡ false
  pub nothing_loose : w.loose ≡ None
  pub journal_read : w.journal.loose ≡ false
  pub end : w.journal.end ≡ length (front_of (contents_in w.diary))

-- it has to be read again, and nothing else changed
pub record IsStill {D : Type 0} (before after : WrittenRecord D) : Type 0 where
  pub diary : after.diary ≡ before.diary
  pub loose : after.loose ≡ before.loose
  pub unread : after.unread ≡ true

-- what a crash at any moment of a call leaves: what was written down before it or after it
abbrev pub IsLeft : {D : Type 0} → WrittenRecord D → WrittenRecord D → List ℕ → Type 0
IsLeft before after c = HasDiary before.diary before.loose c ⊎ HasDiary after.diary after.loose c

-- the names in each frame have 32 bytes, as all that code holds do
abbrev pub AreNamed : List Frame → Type 0
AreNamed [] = Unit {0}
AreNamed (frame ∷ frames) = HasNames (kept frame) × AreNamed frames

abbrev pub IsNamedIfAny : Option Frame → Type 0
IsNamedIfAny None = Unit {0}
IsNamedIfAny (Some frame) = HasNames (kept frame)

-- and so are those of all that was written down
abbrev pub HasNamesOf : {D : Type 0} → WrittenRecord D → Type 0
HasNamesOf w = AreNamed w.diary × IsNamedIfAny w.loose

-- ---- a frame more

-- the frame stands behind the diary
pub record IsAdded {D : Type 0} (before : WrittenRecord D) (frame : Frame) (after : WrittenRecord D) : Type 0 where
  pub diary : after.diary ≡ before.diary ++ frame ∷ []
  pub fits : Fits before.diary frame
  pub read : IsRead after

-- the frame is loose, the diary as before
pub record IsLeftOpen {D : Type 0} (before : WrittenRecord D) (frame : Frame) (after : WrittenRecord D) : Type 0 where
  pub diary : after.diary ≡ before.diary
  pub fits : Fits before.diary frame
  pub loose : after.loose ≡ Some frame
  pub unread : after.unread ≡ true

-- the diary and the journal are as before, and nothing is loose
pub record IsAsBefore {D : Type 0} (before after : WrittenRecord D) : Type 0 where
  pub diary : after.diary ≡ before.diary
  pub journal : after.journal ≡ before.journal
  pub read : IsRead after

-- what becomes of a frame that is to be written
abbrev pub IsWritten : {D : Type 0} → WrittenRecord D → Frame → WrittenRecord D → Result (Unit {0}) Unwritten → Type 0
IsWritten before frame after (Ok done) = IsAdded before frame after
IsWritten before frame after (Err why.Full) = IsAsBefore before after × IsTooLong before.diary frame
IsWritten before frame after (Err why.Disk) = IsLeftOpen before frame after
IsWritten before frame after (Err why.NoMemory) = IsAsBefore before after
