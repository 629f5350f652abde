-- The racks that a run is given and gives back: a disk and a ring of keys each, sixteen for each platform of a roster.
use Rattle.std.specs.Prelude.{◌≡◌, ◌⊎◌, ◌≤◌, ◌<◌, ℕ, zero, suc, ◌+◌, Bool, true, All, List, [], ◌∷◌, Option, None, Some, IfSome, length, map, slice_get, take}
use Rattle.ebl_base.specs.Faults.{RoseBy}
use Rattle.signed_envelope.specs.KeyRing.{Keys}
use Rattle.journaled_shard.specs.Written.{HasDiary}
use Rattle.journaled_shard.specs.declared.rack.Rack.{Rack}
use Rattle.platform_world.specs.Opening.{RoseAt}
use Rattle.platform_world.specs.Run.{Happened, disk_answers, sign_answers}
use Rattle.platform_world.specs.World.{PlatformState, ShardState, loose_frame, shards_in}
use Rattle.platform_world.specs.declared.opening.WorldFault.{WorldFault}
use Rattle.platform_world.specs.declared.opening.WorldFault.TheVariants as faults
use Rattle.ebl_run.specs.declared.status.Status.{Status}
use Rattle.ebl_run.specs.declared.status.Status.TheVariants as statuses
use Rattle.ebl_run.specs.declared.status.Status.TheVariants.{OpenFault, WrongRacks, NoMemory}
use Rattle.ebl_run.specs.declared.racks.Unfit.{Unfit}
use Rattle.ebl_run.specs.declared.racks.Unfit.TheVariants.{TooFew, NotBlank, Faulty}

-- the disk of each tells its content
abbrev pub AllTell : {D G : Type 0} → (D → Bool) → List (Rack D G) → Type 0
AllTell tells racks = All (λ rack. tells rack.disk ≡ true) racks

-- the keys of each ring
abbrev pub keys_of : {D G : Type 0} → (G → Keys) → List (Rack D G) → List Keys
keys_of keys racks = map (λ rack. keys rack.ring) racks

-- how many bytes each disk has
abbrev pub lengths_of : {D G : Type 0} → (D → List ℕ) → List (Rack D G) → List ℕ
lengths_of seen racks = map (λ rack. length (seen rack.disk)) racks

-- the place of the first disk that has a byte, where these are the lengths of the disks from this place on
abbrev pub first_written : ℕ → List ℕ → Option ℕ
first_written place [] = None
first_written place (zero ∷ lengths) = first_written (place + 1) lengths
first_written place (suc n ∷ lengths) = Some place

-- the first of those that are needed
abbrev pub written_among : ℕ → List ℕ → Option ℕ
written_among needed lengths = first_written 0 (take needed lengths)

-- ---- before a run

-- the disk was asked for its length at most
pub record IsMeasured {D G : Type 0} (tells : D → Bool) (seen : D → List ℕ) (faults : D → ℕ) (before after : Rack D G)
    : Type 0 where
  pub ring : after.ring ≡ before.ring
  pub told : tells after.disk ≡ tells before.disk
  pub same : seen after.disk ≡ seen before.disk
  pub later : faults before.disk ≤ faults after.disk

pub record AreMeasured {D G : Type 0} (tells : D → Bool) (seen : D → List ℕ) (faults : D → ℕ)
    (before after : List (Rack D G)) : Type 0 where
  pub length_is : length after ≡ length before
  pub each : (k : ℕ) (old new : Rack D G) → slice_get before k ≡ Some old → slice_get after k ≡ Some new
      → IsMeasured tells seen faults old new

-- why so many racks didn't serve: too few came, and none was touched; a disk is the first that isn't blank; or a disk
-- failed, and none in front of it has a byte
abbrev pub IsUnfit : {D G : Type 0} → (D → List ℕ) → (D → ℕ) → ℕ → List (Rack D G) → List (Rack D G) → Unfit → Type 0
IsUnfit seen faults needed before after (TooFew given wanted) =
    (given ≡ length before) × (wanted ≡ needed) × (given < needed) × (after ≡ before)
IsUnfit seen faults needed before after (NotBlank place) =
    (needed ≤ length before) × (written_among needed (lengths_of seen before) ≡ Some place)
IsUnfit seen faults needed before after (Faulty place) =
    (needed ≤ length before) × (place < needed)
    × IfSome (written_among needed (lengths_of seen before)) (λ first. place ≤ first)
    × RoseAt faults place before after

-- ---- after a run

-- what a run leaves of the rack at this place, which a shard is on: its disk has the shard's diary, with its loose
-- frame or without, and so has whatever a crash leaves; and the events were answered DISK and SIGN there at most as
-- often as the count of faults of the disk and of the ring rose
pub record IsLeft {D G : Type 0} (seen : D → List ℕ) (may_leave : D → List ℕ → Type 0) (disk_faults : D → ℕ)
    (keys : G → Keys) (ring_faults : G → ℕ) (place : ℕ) (happened : List Happened) (shard : ShardState)
    (before after : Rack D G) : Type 0 where
  pub disk_failed : RoseBy (disk_faults before.disk) (disk_answers place happened) (disk_faults after.disk)
  pub ring_failed : RoseBy (ring_faults before.ring) (sign_answers place happened) (ring_faults after.ring)
  pub keys_are : shard.keys ≡ keys after.ring
  pub holds : HasDiary shard.diary (loose_frame shard) (seen after.disk)
  pub crash : (c : List ℕ) → may_leave after.disk c → HasDiary shard.diary (loose_frame shard) c

-- of each rack that a shard of these platforms is on, in the roster's order
abbrev pub AreLeft : {D G : Type 0} → (D → List ℕ) → (D → List ℕ → Type 0) → (D → ℕ) → (G → Keys) → (G → ℕ)
    → List Happened → List PlatformState → List (Rack D G) → List (Rack D G) → Type 0
AreLeft {D} {G} seen may_leave disk_faults keys ring_faults happened left before after =
    (place : ℕ) (shard : ShardState) (old new : Rack D G) → slice_get (shards_in left) place ≡ Some shard
    → slice_get before place ≡ Some old → slice_get after place ≡ Some new
    → IsLeft seen may_leave disk_faults keys ring_faults place happened shard old new

-- the racks come back in their order, and no count of faults fell
pub record AreBack {D G : Type 0} (disk_faults : D → ℕ) (ring_faults : G → ℕ) (before after : List (Rack D G))
    : Type 0 where
  pub length_is : length after ≡ length before
  pub disks : (k : ℕ) (old new : Rack D G) → slice_get before k ≡ Some old → slice_get after k ≡ Some new
      → RoseBy (disk_faults old.disk) 0 (disk_faults new.disk)
  pub rings : (k : ℕ) (old new : Rack D G) → slice_get before k ≡ Some old → slice_get after k ≡ Some new
      → RoseBy (ring_faults old.ring) 0 (ring_faults new.ring)

-- ---- how a run ends that never begins

abbrev pub status_of : Unfit → Status
status_of (TooFew given needed) = WrongRacks given needed
status_of (NotBlank place) = statuses.NotBlank place
status_of (Faulty place) = OpenFault place

abbrev pub status_by : WorldFault → Status
status_by (faults.OpenFault place) = OpenFault place
status_by faults.NoMemory = NoMemory

-- by the first bad line, if there is one; a disk that couldn't be measured is reported before it
abbrev pub IsRefused : Unfit → Option ℕ → Status → Type 0
IsRefused (Faulty place) bad status = status ≡ OpenFault place
IsRefused unfit bad status =
    (status ≡ NoMemory)
    ⊎ (((n : ℕ) × (bad ≡ Some n) × (status ≡ statuses.BadScript n)) ⊎ ((bad ≡ None) × (status ≡ status_of unfit)))
