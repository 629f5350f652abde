-- What an office leaves when it is closed.
use Rattle.std.specs.Prelude.{◌≡◌, ℕ, Bool, true, List, All, Option, Some, None, is_some, slice_get}
use Rattle.signed_envelope.specs.KeyRing.{Keys}
use Rattle.bill_diary.specs.declared.frame.Frame.{Frame}
use Rattle.transfer_judge.specs.Legal.{IsLegal}
use Rattle.bill_locks.specs.Turn.{HandedOut}
use Rattle.bill_locks.specs.View.{mark_at, opened_at}
use Rattle.journaled_shard.specs.Written.{HasDiary}
use Rattle.journaled_shard.specs.declared.rack.Rack.{Rack}
use Rattle.platform_office.specs.Office.{Knows}
use Rattle.platform_office.specs.declared.post.Post.{Post}
use Rattle.platform_office.specs.Post.{IsOfShard}

-- a shard as it was left: its post, its diary, a loose frame, and the counts of faults
pub record LeftShard (D G : Type 0) : Type 0 where
  pub post : Post D G
  pub diary : List Frame
  pub loose : Option Frame
  pub disk : ℕ
  pub ring : ℕ

-- the shard was handed out, as the opening and the last pass say
abbrev pub IsHandedOut : {D G : Type 0} → ℕ → Knows D G → LeftShard D G → Type 0
IsHandedOut k v s = HandedOut (λ x. x.post) (λ x. x.diary) (λ x. is_some x.loose) (λ x. x.disk) (λ x. x.ring)
    (opened_at k v) (mark_at k v) s

-- the rack and the diary at a place are what is left of the shard of this number: of one that stands as the last
-- pass says; its diary is legal and has the shard's bills alone; and a disk that tells reads as its journal, with a
-- loose frame or without
pub record IsLeft {D G : Type 0} (tells : D → Bool) (seen : D → List ℕ) (disk_faults : D → ℕ) (keys : G → Keys)
    (ring_faults : G → ℕ) (k : ℕ) (v : Knows D G) (racks : List (Rack D G)) (diaries : List (List Frame)) : Type 0 where
  pub rack : Rack D G
  pub rack_is : slice_get racks k ≡ Some rack
  pub shard : LeftShard D G
  pub diary_is : slice_get diaries k ≡ Some shard.diary
  pub disk_is : shard.disk ≡ disk_faults rack.disk
  pub ring_is : shard.ring ≡ ring_faults rack.ring
  pub keys_are : keys rack.ring ≡ keys shard.post.rack.ring
  pub told : tells rack.disk ≡ tells shard.post.rack.disk
  pub number_is : shard.post.number ≡ k
  pub handed : IsHandedOut k v shard
  pub legal : IsLegal shard.post.roster (keys rack.ring) shard.post.me shard.diary
  pub own : All (IsOfShard k) shard.diary
  pub on_disk : tells rack.disk ≡ true → HasDiary shard.diary shard.loose (seen rack.disk)
