-- A diary's frames as the contents of a journal.
use Rattle.std.specs.Prelude.{ℕ, List, [], ◌∷◌}
use Rattle.bill_journal.specs.Frames.{StandsFor}
use Rattle.bill_diary.specs.declared.frame.Frame.{Frame}
use Rattle.record_bytes.specs.Forms.{HasSpelling}
use Rattle.record_bytes.specs.Grammar.{kept}
pub use Rattle.journal_room.specs.Contents.{contents_in}

-- each frame has a spelling
abbrev pub AreSpelled : List Frame → Type 0
AreSpelled [] = Unit {0}
AreSpelled (frame ∷ frames) = HasSpelling (kept frame) × AreSpelled frames

-- the bytes are the journal of a diary
abbrev pub IsJournalOf : List ℕ → List Frame → Type 0
IsJournalOf file diary = StandsFor file (contents_in diary)
