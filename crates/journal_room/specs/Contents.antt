-- A diary's frames as the contents of a journal.
use Rattle.std.specs.Prelude.{ℕ, List, map}
use Rattle.bill_diary.specs.declared.frame.Frame.{Frame}
use Rattle.record_bytes.specs.Grammar.{frame_bytes}

-- the contents of a diary's frames
abbrev pub contents_in : List Frame → List (List ℕ)
contents_in diary = map frame_bytes diary
