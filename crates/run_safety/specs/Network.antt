-- All platforms together: their diaries, the frames of which nobody knows yet whether they stand, and what was sent.
use Rattle.std.specs.Prelude.{ℕ, zero, suc, List, [], ◌∷◌, ◌++◌, Option, Some, None, map, slice_get, if◌then◌else◌}
use Rattle.ebl_base.specs.PlatformCode.{code_eq}
use Rattle.ebl_base.specs.declared.platform_code.PlatformCode.{PlatformCode}
use Rattle.party_roster.specs.RosterRecord.{RosterRecord}
use Rattle.bill_diary.specs.declared.frame.Frame.{Frame}
use Rattle.closed_family.specs.declared.family.Member.{Member}

-- what a platform has sent: the body of a start, and the text of a reply to a start, a document or a finish
pub data Sent : Type 0 where
  sent_start : PlatformCode → List ℕ → Sent
  sent_reply : PlatformCode → List ℕ → Sent

-- the diaries; the frame that a platform's shard failed to write, where one may stand all the same; and what was sent
pub record Network : Type 0 where
  pub family : List Member
  pub loose : PlatformCode → ℕ → Option Frame
  pub sent : List Sent

-- ---- the diaries

-- the diary of a platform's shard, if there is one
abbrev pub diary_of : List Member → PlatformCode → ℕ → Option (List Frame)
diary_of [] p i = None
diary_of (m ∷ ms) p i = if code_eq m.platform p then slice_get m.diaries i else diary_of ms p i

-- diaries of which the one at this place has one frame more
abbrev pub longer_at : ℕ → Frame → List (List Frame) → List (List Frame)
longer_at i frame [] = []
longer_at zero frame (d ∷ ds) = (d ++ frame ∷ []) ∷ ds
longer_at (suc i) frame (d ∷ ds) = d ∷ longer_at i frame ds

-- a member whose diary has one frame more, if it is this platform
abbrev pub longer_member : PlatformCode → ℕ → Frame → Member → Member
longer_member p i frame m = record {
  platform = m.platform;
  diaries = if code_eq m.platform p then longer_at i frame m.diaries else m.diaries;
}

-- the family in which the diary of a platform's shard has one frame more
abbrev pub longer_family : PlatformCode → ℕ → Frame → List Member → List Member
longer_family p i frame family = map (longer_member p i frame) family

-- the same, if there is a frame
abbrev pub written : PlatformCode → ℕ → Option Frame → List Member → List Member
written p i None family = family
written p i (Some frame) family = longer_family p i frame family

-- ---- the opening

-- a platform with sixteen diaries without a frame
abbrev pub opened : PlatformCode → Member
opened p = record {
  platform = p;
  diaries = [] ∷ [] ∷ [] ∷ [] ∷ [] ∷ [] ∷ [] ∷ [] ∷ [] ∷ [] ∷ [] ∷ [] ∷ [] ∷ [] ∷ [] ∷ [] ∷ [];
}

-- the platforms of a roster, before anything happened
abbrev pub opening : RosterRecord → Network
opening roster = record { family = map opened roster.platforms; loose = λ p i. None; sent = [] }
