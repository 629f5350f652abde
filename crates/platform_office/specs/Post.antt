-- What always holds of a shard at its post in an office.
use Rattle.std.specs.Prelude.{◌≡◌, ℕ, ◌+◌, ◌≤◌, Bool, true, List, All, IfSome, is_some, length}
use Rattle.signed_envelope.specs.KeyRing.{Keys}
use Rattle.platform_requests.specs.Shard.{shard_of_bill}
use Rattle.bill_diary.specs.declared.frame.Frame.{Frame}
use Rattle.bill_diary.specs.Linked.{bill_in}
use Rattle.bill_locks.specs.View.{one_if}
use Rattle.journaled_shard.specs.Shard.{IsLegalWith, JournaledShardRecord}
use Rattle.journaled_shard.specs.Written.{IsOnDisk}
use Rattle.journaled_shard.specs.declared.rack.Rack.{Rack}
use Rattle.platform_office.specs.declared.post.Post.{Post}

-- a shard of an office: a shard on its journal, its number, and the rack from which it was opened
pub record OfficeShardRecord (D G : Type 0) : Type 0 where
  pub shard : JournaledShardRecord D G
  pub number : ℕ
  pub rack : Rack D G

-- its post
abbrev pub post_of : {D G : Type 0} → OfficeShardRecord D G → Post D G
post_of s = record { me = s.shard.me; roster = s.shard.roster; number = s.number; rack = s.rack }

-- the bill of the frame's records belongs to the shard of this number
abbrev pub IsOfShard : ℕ → Frame → Type 0
IsOfShard number frame = shard_of_bill (bill_in frame) ≡ number

-- as many frames as a shard of an office has at most, a loose one among them
abbrev pub most_frames : ℕ
most_frames = 4294967295

module _ {D G : Type 0} (tells : D → Bool) (keys : G → Keys) (seen : D → List ℕ) (may_leave : D → List ℕ → Type 0) where
  -- what always holds of a shard with this number: its diary is legal, with its loose frame or without; all their
  -- bills are the shard's; a disk that tells has them; and there aren't too many to be counted
  pub record IsInOrder (number : ℕ) (s : JournaledShardRecord D G) : Type 0 where
    pub legal : IsLegalWith s.roster (keys s.ring) s.me s.written.diary s.written.loose
    pub own : All (IsOfShard number) s.written.diary
    pub own_loose : IfSome s.written.loose (IsOfShard number)
    pub on_disk : tells s.written.journal.disk ≡ true → IsOnDisk seen may_leave s.written
    pub few : length s.written.diary + one_if (is_some s.written.loose) ≤ most_frames

  -- and its keys are those of the rack, whose disk tells if and only if the shard's does
  pub record IsAtPost (s : OfficeShardRecord D G) : Type 0 where
    pub order : IsInOrder s.number s.shard
    pub ring : keys s.shard.ring ≡ keys s.rack.ring
    pub disk : tells s.shard.written.journal.disk ≡ tells s.rack.disk
