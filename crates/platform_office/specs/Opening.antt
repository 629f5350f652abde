-- How an office finds its disks, and how their racks come back.
use Rattle.std.specs.Prelude.{◌≡◌, ◌⊎◌, ℕ, zero, suc, ◌<◌, ◌≤◌, Bool, true, List, [], ◌∷◌, ◌++◌, All, length, slice_get, Some}
use Rattle.std.specs.List.{AllZip}
use Rattle.ebl_base.specs.Faults.{Rose}
use Rattle.ebl_base.specs.declared.platform_code.PlatformCode.{PlatformCode}
use Rattle.signed_envelope.specs.KeyRing.{Keys}
use Rattle.party_roster.specs.RosterRecord.{RosterRecord}
use Rattle.bill_diary.specs.declared.frame.Frame.{Frame}
use Rattle.bill_journal.specs.Frames.{front_of}
use Rattle.bill_journal.specs.declared.fault.OpenFault.{OpenFault}
use Rattle.bill_journal.specs.declared.fault.OpenFault.TheVariants as opening
use Rattle.bill_locks.specs.declared.view.Opened.{Opened}
use Rattle.journaled_diary.specs.Contents.{IsJournalOf, contents_in}
use Rattle.journaled_shard.specs.Opening.{IsDamagedDiary}
use Rattle.journaled_shard.specs.Written.{IsRead}
use Rattle.journaled_shard.specs.declared.rack.Rack.{Rack}
use Rattle.platform_office.specs.declared.fault.OfficeFault.{OfficeFault}
use Rattle.platform_office.specs.declared.fault.OfficeFault.TheVariants as faults
use Rattle.platform_office.specs.declared.post.Post.{Post}
use Rattle.platform_office.specs.Post.{IsOfShard, OfficeShardRecord, post_of}

-- lists of one length side by side, counted from i: each two items are so related at their place
abbrev pub Beside : {A B : Type 0} → (ℕ → A → B → Type 0) → ℕ → List A → List B → Type 0
Beside R i [] [] = Unit {0}
Beside R i [] (y ∷ ys) = ⊥
Beside R i (x ∷ xs) [] = ⊥
Beside R i (x ∷ xs) (y ∷ ys) = R i x y × Beside R (suc i) xs ys

-- the first frame of a diary whose bill is another shard's, and the place of its gate in the journal
pub record IsStray (number : ℕ) (diary : List Frame) (place : ℕ) : Type 0 where
  pub front : List Frame
  pub frame : Frame
  pub rest : List Frame
  pub parts : diary ≡ front ++ frame ∷ rest
  pub own : All (IsOfShard number) front
  pub stray : ¬ IsOfShard number frame
  pub here : place ≡ length (front_of (contents_in front))

-- the bytes are no journal of a legal diary of the shard's bills, and this is the place that shows it
abbrev pub IsDamagedShard : RosterRecord → Keys → PlatformCode → ℕ → List ℕ → ℕ → Type 0
IsDamagedShard roster keys me number file place =
    IsDamagedDiary roster keys me file place
    ⊎ ((diary : List Frame) × IsJournalOf file diary × IsStray number diary place)

-- what is left of a shard: its disk and its ring
abbrev pub rack_of : {D G : Type 0} → OfficeShardRecord D G → Rack D G
rack_of s = record { disk = s.shard.written.journal.disk; ring = s.shard.ring }

-- a fault of opening, at the shard of this number
abbrev pub fault_at : ℕ → OpenFault → OfficeFault
fault_at i opening.Disk = faults.OpenFault i
fault_at i (opening.Damaged place) = faults.Damaged i place
fault_at i opening.NoMemory = faults.NoMemory

-- the bytes of a disk that tells are the journal of the diary; a blank disk stands for none
pub record StandsFor {D : Type 0} (tells : D → Bool) (seen : D → List ℕ) (disk : D) (diary : List Frame) : Type 0 where
  pub blank : tells disk ≡ true → seen disk ≡ [] → diary ≡ []
  pub journal : tells disk ≡ true → 0 < length (seen disk) → IsJournalOf (seen disk) diary

-- a rack as it comes back: its own ring, and its disk, whose count of faults may have risen. A disk that tells and
-- wasn't blank has the bytes that it had
pub record IsBack {D G : Type 0} (tells : D → Bool) (seen : D → List ℕ) (disk_faults : D → ℕ) (given back : Rack D G)
    : Type 0 where
  pub ring : back.ring ≡ given.ring
  pub told : tells back.disk ≡ tells given.disk
  pub same : tells given.disk ≡ true → 0 < length (seen given.disk) → seen back.disk ≡ seen given.disk
  pub later : disk_faults given.disk ≤ disk_faults back.disk

-- racks in the order in which they were given
abbrev pub AreBack : {D G : Type 0} → (D → Bool) → (D → List ℕ) → (D → ℕ) → List (Rack D G) → List (Rack D G) → Type 0
AreBack tells seen disk_faults given back = AllZip (IsBack tells seen disk_faults) given back

module _ {D G : Type 0} (tells : D → Bool) (seen : D → List ℕ) (disk_faults : D → ℕ) (me : PlatformCode)
    (roster : RosterRecord) where
  -- the post of the shard at a place, by its rack
  abbrev pub post_at_rack : ℕ → Rack D G → Post D G
  post_at_rack k rack = record { me = me; roster = roster; number = k; rack = rack }

  -- the shard at a place was opened from its rack
  pub record IsOpened (k : ℕ) (rack : Rack D G) (s : OfficeShardRecord D G) : Type 0 where
    pub post : post_of s ≡ post_at_rack k rack
    pub ring : s.shard.ring ≡ rack.ring
    pub told : tells s.shard.written.journal.disk ≡ tells rack.disk
    pub same : tells rack.disk ≡ true → 0 < length (seen rack.disk)
        → seen s.shard.written.journal.disk ≡ seen rack.disk
    pub later : disk_faults rack.disk ≤ disk_faults s.shard.written.journal.disk
    pub read : IsRead s.shard.written
    pub stands : StandsFor tells seen rack.disk s.shard.written.diary

  -- and so a pass knows it as it was opened
  pub record IsKnown (ring_faults : G → ℕ) (k : ℕ) (rack : Rack D G) (o : Opened (Post D G)) : Type 0 where
    pub post : o.fixed ≡ Some (post_at_rack k rack)
    pub disk : disk_faults rack.disk ≤ o.disk
    pub ring : o.ring ≡ ring_faults rack.ring
    pub diary : List Frame
    pub frames : o.frames ≡ length diary
    pub stands : StandsFor tells seen rack.disk diary

  -- the disk of this shard failed; or it is no journal of a legal diary of the shard's bills
  abbrev pub IsRefusal : (G → Keys) → List (Rack D G) → List (Rack D G) → OfficeFault → Type 0
  IsRefusal keys given back (faults.OpenFault i) =
      (x y : Rack D G) × (slice_get given i ≡ Some x) × (slice_get back i ≡ Some y)
      × Rose (disk_faults x.disk) (disk_faults y.disk)
  IsRefusal keys given back (faults.Damaged i place) =
      (x : Rack D G) × (slice_get given i ≡ Some x)
      × (tells x.disk ≡ true → IsDamagedShard roster (keys x.ring) me i (seen x.disk) place)
  IsRefusal keys given back faults.NoMemory = Unit {0}
