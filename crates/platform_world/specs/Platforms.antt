-- The shards of all platforms in one list, sixteen for each platform in the roster's order.
use Rattle.std.specs.Prelude.{◌≡◌, ℕ, ◌+◌, ◌*◌, suc, Bool, true, All, List, [], ◌∷◌, ◌++◌, Option, None, Some, drop, length, map, nat_eq, replicate, slice_get, take, if◌then◌else◌}
use Rattle.std.specs.Option.{option_map_or}
use Rattle.ebl_base.specs.Faults.{RoseBy}
use Rattle.ebl_base.specs.PlatformCode.{code_eq}
use Rattle.ebl_base.specs.declared.platform_code.PlatformCode.{PlatformCode}
use Rattle.ebl_base.specs.declared.moment.Moment.{Moment}
use Rattle.party_roster.specs.RosterRecord.{RosterRecord}
use Rattle.platform_requests.specs.Request.{RequestRecord}
use Rattle.platform_requests.specs.declared.outcome.Outcome.{Outcome}
use Rattle.bill_diary.specs.declared.frame.Frame.{Frame}
use Rattle.bill_lines.specs.Diaries.{frames_of}
use Rattle.bill_lines.specs.declared.diaries.PlatformDiary.{PlatformDiary}
use Rattle.platform_world.specs.Machine.{MachineRecord, shard_state}
use Rattle.platform_world.specs.declared.fate.Fate.{Fate}
use Rattle.platform_world.specs.declared.fate.FateEnd.{FateEnd}
use Rattle.platform_world.specs.Shard.{TakesAs}
use Rattle.world_events.specs.Happening.{starts_again}
use Rattle.platform_world.specs.Step.{FailedShard, disk_failed_at}
use Rattle.platform_world.specs.World.{PlatformState, ShardState, shard_at, with_shard}

-- the position of a platform among these; their number, if it isn't among them
abbrev pub position_of : PlatformCode → List PlatformCode → ℕ
position_of p [] = 0
position_of p (q ∷ qs) = if code_eq q p then 0 else suc (position_of p qs)

-- each platform with the next sixteen shards
abbrev pub grouped : List PlatformCode → List ShardState → List PlatformState
grouped [] shards = []
grouped (p ∷ ps) shards = record { platform = p; shards = take 16 shards } ∷ grouped ps (drop 16 shards)

-- the position of a platform's shard of this number among all shards
abbrev pub index_of : PlatformCode → ℕ → List PlatformCode → ℕ
index_of p i ps = 16 * position_of p ps + i

-- ---- the shards as code keeps them

-- the platform of each shard
abbrev pub codes_of : List PlatformCode → List PlatformCode
codes_of [] = []
codes_of (p ∷ ps) = replicate 16 p ++ codes_of ps

-- there are sixteen shards for each platform, each for it and the roster
pub record AreShardsOf (roster : RosterRecord) (machines : List MachineRecord) : Type 0 where
  pub of : map (λ m. m.me) machines ≡ codes_of roster.platforms
  pub by : map (λ m. m.roster) machines ≡ map (λ p. roster) (codes_of roster.platforms)

-- the shards of all platforms, and the racks that none of them needed
pub record PlatformsRecord (M R : Type 0) : Type 0 where
  pub roster : RosterRecord
  pub shards : List M
  pub spare : List R

-- how they are, by what is seen of each
abbrev pub states_of : {M R : Type 0} → (M → MachineRecord) → PlatformsRecord M R → List PlatformState
states_of seen s = grouped s.roster.platforms (map (λ m. shard_state (seen m)) s.shards)

-- the disk of each tells its content
abbrev pub AllTell : {M : Type 0} → (M → Bool) → List M → Type 0
AllTell tells shards = All (λ m. tells m ≡ true) shards

-- each gives back a rack that holds its diary, with its loose frame or without
abbrev pub AllHold : {M R : Type 0} → (R → MachineRecord → Type 0) → (M → R) → (M → MachineRecord) → List M → Type 0
AllHold holds rack seen shards = All (λ m. holds (rack m) (seen m)) shards

-- ---- faults

-- so often at this index among all shards, and never at any other
abbrev pub times_if : ℕ → ℕ → ℕ → ℕ
times_if times index k = if nat_eq index k then times else 0

-- how often something failed at each index, where it failed at this position, if it did
abbrev pub times_at : List PlatformCode → Option FailedShard → ℕ → ℕ
times_at ps None k = 0
times_at ps (Some at) k = times_if 1 (index_of at.platform at.number ps) k

-- how often a disk failed where a platform started again, and it ended so
abbrev pub failures_at : List PlatformCode → PlatformCode → FateEnd → ℕ → ℕ
failures_at ps p end k = times_at ps (disk_failed_at (starts_again p) end) k

-- the count of each shard rose as often as that at least; none fell
pub record EachRose {M : Type 0} (faults : M → ℕ) (times : ℕ → ℕ) (before after : List M) : Type 0 where
  pub length_is : length after ≡ length before
  pub each : (k : ℕ) (old new : M) → slice_get before k ≡ Some old → slice_get after k ≡ Some new
      → RoseBy (faults old) (times k) (faults new)

-- ---- diaries

-- a platform with the diary of one of its shards
pub record ShardDiary : Type 0 where
  pub platform : PlatformCode
  pub diary : List Frame

-- of the shard of this number; empty, if there is none
abbrev pub shard_diary : ℕ → PlatformState → ShardDiary
shard_diary i state = record {
  platform = state.platform;
  diary = option_map_or (λ shard. shard.diary) (slice_get state.shards i) [];
}

abbrev pub given_diary : PlatformDiary → ShardDiary
given_diary d = record { platform = d.platform; diary = frames_of d.diary }

-- ---- requests

-- a platform's shard takes a request
pub record TakesAt (roster : RosterRecord) (before : List PlatformState) (p : PlatformCode) (i : ℕ) (now : Moment)
    (request : RequestRecord) (fate : Fate) (out : Outcome) (after : List PlatformState) : Type 0 where
  pub shard : ShardState
  pub is_asked : shard_at p i before ≡ Some shard
  pub later : ShardState
  pub takes : TakesAs roster p i shard now request fate out later
  pub after_is : after ≡ with_shard p i later before
