-- How racks become the shards of a world, and how they come back.
use Rattle.std.specs.Prelude.{◌≡◌, ◌≤◌, ℕ, Bool, true, false, All, List, [], ◌∷◌, ◌++◌, Some, drop, length, slice_get}
use Rattle.ebl_base.specs.Faults.{Rose}
use Rattle.ebl_base.specs.declared.platform_code.PlatformCode.{PlatformCode}
use Rattle.party_roster.specs.RosterRecord.{RosterRecord}
use Rattle.journaled_shard.specs.declared.rack.Rack.{Rack}
use Rattle.journaled_shard.specs.Shard.{JournaledShardRecord}
use Rattle.bill_journal.specs.declared.fault.OpenFault.{OpenFault}
use Rattle.bill_journal.specs.declared.fault.OpenFault.TheVariants.{Disk}
use Rattle.platform_world.specs.declared.opening.WorldFault.{WorldFault}
use Rattle.platform_world.specs.declared.opening.WorldFault.TheVariants as world

-- its disk tells its content, and is blank
abbrev pub IsBlank : {D G : Type 0} → (D → Bool) → (D → List ℕ) → Rack D G → Type 0
IsBlank tells seen rack = (tells rack.disk ≡ true) × (seen rack.disk ≡ [])

abbrev pub AreBlank : {D G : Type 0} → (D → Bool) → (D → List ℕ) → List (Rack D G) → Type 0
AreBlank tells seen racks = All (IsBlank tells seen) racks

-- the last of these racks is so
abbrev pub IsBlankAtLast : {D G : Type 0} → (D → Bool) → (D → List ℕ) → List (Rack D G) → Type 0
IsBlankAtLast {D} {G} tells seen racks =
    (front : List (Rack D G)) (rack : Rack D G) → racks ≡ front ++ rack ∷ [] → IsBlank tells seen rack

-- the shard is on the rack: it has its ring and its disk, whose count of faults didn't fall
pub record IsOnRack {D G : Type 0} (faults : D → ℕ) (rack : Rack D G) (shard : JournaledShardRecord D G) : Type 0 where
  pub ring : shard.ring ≡ rack.ring
  pub later : faults rack.disk ≤ faults shard.written.journal.disk

-- each of these shards is on the rack at its position
abbrev pub AreOnRacks : {D G : Type 0} → (D → ℕ) → List (Rack D G) → List (JournaledShardRecord D G) → Type 0
AreOnRacks {D} {G} faults racks shards =
    (k : ℕ) (rack : Rack D G) (shard : JournaledShardRecord D G) → slice_get racks k ≡ Some rack
    → slice_get shards k ≡ Some shard → IsOnRack faults rack shard

-- the same rack, the count of faults of whose disk didn't fall
pub record IsSameRack {D G : Type 0} (faults : D → ℕ) (before after : Rack D G) : Type 0 where
  pub ring : after.ring ≡ before.ring
  pub later : faults before.disk ≤ faults after.disk

-- all racks, in their order
pub record AreBack {D G : Type 0} (faults : D → ℕ) (before after : List (Rack D G)) : Type 0 where
  pub length_is : length after ≡ length before
  pub each : (k : ℕ) (old new : Rack D G) → slice_get before k ≡ Some old → slice_get after k ≡ Some new
      → IsSameRack faults old new

-- ---- one rack after another

-- a shard without a frame was opened on a rack, for a platform under a roster, over a disk that tells its content
pub record IsOpened {D G : Type 0} (tells : D → Bool) (faults : D → ℕ) (roster : RosterRecord) (p : PlatformCode)
    (rack : Rack D G) (shard : JournaledShardRecord D G) : Type 0 where
  pub me : shard.me ≡ p
  pub roster_is : shard.roster ≡ roster
  pub on_rack : IsOnRack faults rack shard
  pub empty : shard.written.diary ≡ []
  pub read : shard.written.unread ≡ false
  pub told : tells shard.written.journal.disk ≡ true

-- so was one for each of these platforms, on each of these racks
abbrev pub AreOpened : {D G : Type 0} → (D → Bool) → (D → ℕ) → RosterRecord → List PlatformCode → List (Rack D G)
    → List (JournaledShardRecord D G) → Type 0
AreOpened tells faults roster [] [] [] = Unit {0}
AreOpened tells faults roster (p ∷ ps) (rack ∷ racks) (shard ∷ shards) =
    IsOpened tells faults roster p rack shard × AreOpened tells faults roster ps racks shards
AreOpened tells faults roster ps racks shards = ⊥

-- each of these racks is the one at its position
abbrev pub AreSame : {D G : Type 0} → (D → ℕ) → List (Rack D G) → List (Rack D G) → Type 0
AreSame faults [] [] = Unit {0}
AreSame faults (old ∷ olds) (new ∷ news) = IsSameRack faults old new × AreSame faults olds news
AreSame faults olds news = ⊥

-- the first of the racks that are left failed
pub record FirstFailed {D G : Type 0} (faults : D → ℕ) (before after : List (Rack D G)) : Type 0 where
  pub old : Rack D G
  pub new : Rack D G
  pub olds : List (Rack D G)
  pub news : List (Rack D G)
  pub was : before ≡ old ∷ olds
  pub is : after ≡ new ∷ news
  pub rose : Rose (faults old.disk) (faults new.disk)

-- the last of some racks was opened, for a platform under a roster
pub record OpensLast {D G : Type 0} (tells : D → Bool) (faults : D → ℕ) (roster : RosterRecord) (p : PlatformCode)
    (before : List (Rack D G)) (shard : JournaledShardRecord D G) (after : List (Rack D G)) : Type 0 where
  pub rack : Rack D G
  pub was : before ≡ after ++ rack ∷ []
  pub opened : IsOpened tells faults roster p rack shard

-- it couldn't be opened, and is there again
pub record FailsAtLast {D G : Type 0} (faults : D → ℕ) (before after : List (Rack D G)) (fault : OpenFault)
    : Type 0 where
  pub front : List (Rack D G)
  pub old : Rack D G
  pub new : Rack D G
  pub was : before ≡ front ++ old ∷ []
  pub is : after ≡ front ++ new ∷ []
  pub same : IsSameRack faults old new
  pub rose : fault ≡ Disk → Rose (faults old.disk) (faults new.disk)

-- shards were opened for the first of these platforms on the first of these racks, and these racks are left
pub record IsOpening {D G : Type 0} (tells : D → Bool) (faults : D → ℕ) (roster : RosterRecord)
    (codes : List PlatformCode) (given : List (Rack D G)) (shards : List (JournaledShardRecord D G))
    (left : List (Rack D G)) : Type 0 where
  pub front : List PlatformCode
  pub behind : List PlatformCode
  pub taken : List (Rack D G)
  pub codes_are : codes ≡ front ++ behind
  pub racks_are : given ≡ taken ++ left
  pub opened : AreOpened tells faults roster front taken shards

-- and then one of the required ones couldn't be: all racks that are left are as before, except for the count of a disk
-- that failed
pub record IsStopped {D G : Type 0} (tells : D → Bool) (faults : D → ℕ) (roster : RosterRecord) (needed : ℕ)
    (given : List (Rack D G)) (shards : List (JournaledShardRecord D G)) (left : List (Rack D G)) (fault : WorldFault)
    : Type 0 where
  pub front : List PlatformCode
  pub taken : List (Rack D G)
  pub tail : List (Rack D G)
  pub racks_are : given ≡ taken ++ tail
  pub opened : AreOpened tells faults roster front taken shards
  pub back : AreSame faults tail left
  pub few : length taken ≤ needed
  pub further : drop needed (taken ++ left) ≡ drop needed given
  pub failed : (i : ℕ) → fault ≡ world.OpenFault i → (i ≡ length taken) × FirstFailed faults tail left

-- the count of faults of the disk at this position rose
pub record RoseAt {D G : Type 0} (faults : D → ℕ) (position : ℕ) (before after : List (Rack D G)) : Type 0 where
  pub old : Rack D G
  pub new : Rack D G
  pub was : slice_get before position ≡ Some old
  pub is : slice_get after position ≡ Some new
  pub rose : Rose (faults old.disk) (faults new.disk)
