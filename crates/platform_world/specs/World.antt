-- The world of a script: the diaries of all platforms, what was sent, and the bills that the script signed.
use Rattle.std.specs.Prelude.{Bool, true, not, ℕ, List, [], ◌∷◌, Option, None, drop, filter, find, is_some, map, option_and_then, slice_get, slice_set, take, if◌then◌else◌}
use Rattle.std.specs.List.{flat_map}
use Rattle.std.specs.Option.{option_map_or}
use Rattle.ebl_base.specs.PlatformCode.{code_eq}
use Rattle.ebl_base.specs.declared.checksum.Checksum.{Checksum}
use Rattle.ebl_base.specs.declared.platform_code.PlatformCode.{PlatformCode}
use Rattle.signed_envelope.specs.KeyRing.{Keys}
use Rattle.party_roster.specs.RosterRecord.{RosterRecord}
use Rattle.platform_requests.specs.Shard.{shard_of_bill}
use Rattle.bill_diary.specs.declared.frame.Frame.{Frame}
use Rattle.closed_family.specs.declared.family.Member.{Member}
use Rattle.answer_lines.specs.declared.parcel.Parcel.{Parcel}

-- a shard: what its ring takes as signed, its diary, and its loose mark, with the frame that is loose, if one is. A
-- loose shard is read again before anything rests on it
pub record ShardState : Type 0 where
  pub keys : Keys
  pub diary : List Frame
  pub loose : Option (Option Frame)

-- the frame that is loose, if one is
abbrev pub loose_frame : ShardState → Option Frame
loose_frame shard = option_and_then (λ frame. frame) shard.loose

-- a platform with its sixteen shards, in their order
pub record PlatformState : Type 0 where
  pub platform : PlatformCode
  pub shards : List ShardState

pub record WorldRecord : Type 0 where
  pub roster : RosterRecord
  -- in the roster's order
  pub platforms : List PlatformState
  -- what was sent, numbered from 1
  pub sent : List Parcel
  -- the bills whose SIGN was answered DONE, numbered from 1
  pub signed : List Checksum

-- ---- the opening

-- a shard that has written nothing
abbrev pub opened_shard : Keys → ShardState
opened_shard keys = record { keys = keys; diary = []; loose = None }

-- each platform gets the next sixteen rings
abbrev pub opened_platforms : List PlatformCode → List Keys → List PlatformState
opened_platforms [] rings = []
opened_platforms (p ∷ ps) rings =
    record { platform = p; shards = map opened_shard (take 16 rings) } ∷ opened_platforms ps (drop 16 rings)

-- the world before the first event
abbrev pub opening : RosterRecord → List Keys → WorldRecord
opening roster rings =
    record { roster = roster; platforms = opened_platforms roster.platforms rings; sent = []; signed = [] }

-- ---- shards

-- the shard of this number on a platform
abbrev pub shard_at : PlatformCode → ℕ → List PlatformState → Option ShardState
shard_at p i platforms =
    option_and_then (λ state. slice_get state.shards i) (find (λ state. code_eq state.platform p) platforms)

-- the platforms with another shard there
abbrev pub with_shard : PlatformCode → ℕ → ShardState → List PlatformState → List PlatformState
with_shard p i shard [] = []
with_shard p i shard (state ∷ states) =
    if code_eq state.platform p then record state { shards = slice_set state.shards i shard } ∷ states
    else state ∷ with_shard p i shard states

-- the shards of all platforms in one list, in their order
abbrev pub shards_in : List PlatformState → List ShardState
shards_in states = flat_map (λ state. state.shards) states

-- ---- families and bills

-- the diaries of a platform
abbrev pub member_of : PlatformState → Member
member_of state = record { platform = state.platform; diaries = map (λ shard. shard.diary) state.shards }

-- the diaries of all platforms
abbrev pub family_of : WorldRecord → List Member
family_of w = map member_of w.platforms

-- the platforms, in their order
abbrev pub platforms_of : WorldRecord → List PlatformCode
platforms_of w = map (λ state. state.platform) w.platforms

-- the bill's shard on a platform isn't loose
abbrev pub is_settled : Checksum → PlatformState → Bool
is_settled bill state =
    option_map_or (λ shard. not (is_some shard.loose)) (slice_get state.shards (shard_of_bill bill)) true

-- the platforms whose shard of the bill isn't loose
abbrev pub settled_for : Checksum → WorldRecord → List PlatformCode
settled_for bill w = map (λ state. state.platform) (filter (is_settled bill) w.platforms)
