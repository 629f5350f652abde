-- A diary whose frames are linked by their bills.
use Rattle.std.specs.Prelude.{◌≡◌, ℕ, ◌≤◌, List, Some, length, slice_get, take, unwrap_or}
use Rattle.std.specs.BTreeMap.{BTreeMap, get}
use Rattle.ebl_base.specs.Checksum.{checksum_cmp}
use Rattle.ebl_base.specs.declared.checksum.Checksum.{Checksum}
use Rattle.bill_diary.specs.declared.frame.Frame.{Frame}
use Rattle.bill_diary.specs.History.{bill_of, history}
use Rattle.bill_diary.specs.Searches.{kept_in}

-- the bill of a frame's records
abbrev pub bill_in : Frame → Checksum
bill_in frame = bill_of (kept_in frame)

-- the link of a frame is a number of frames before it, up to which its bill has all its records before the frame
abbrev pub AreLinked : List Frame → List ℕ → Type 0
AreLinked frames links =
    (i link : ℕ) (frame : Frame) → slice_get links i ≡ Some link → slice_get frames i ≡ Some frame
    → (link ≤ i) × (history (bill_in frame) (take link frames) ≡ history (bill_in frame) (take i frames))

-- the end of a bill: a number of frames
abbrev pub end_in : BTreeMap Checksum ℕ → Checksum → ℕ
end_in ends bill = unwrap_or (get checksum_cmp ends bill) 0

-- up to its end, each bill has all its records
abbrev pub AreEnds : List Frame → BTreeMap Checksum ℕ → Type 0
AreEnds frames ends =
    (bill : Checksum) → (end_in ends bill ≤ length frames)
    × (history bill (take (end_in ends bill) frames) ≡ history bill frames)

-- the links of a diary's frames, and the ends of its bills
pub record IsIndexed (frames : List Frame) (links : List ℕ) (ends : BTreeMap Checksum ℕ) : Type 0 where
  pub linked : AreLinked frames links
  pub ended : AreEnds frames ends
