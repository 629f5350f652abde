-- A shard with its diary on a journal, as a machine.
use Rattle.std.specs.Prelude.{◌≡◌, ◌⊎◌, ℕ, Bool, true, false, List, Option, Some, None}
use Rattle.bill_diary.specs.declared.frame.Frame.{Frame}
use Rattle.bill_journal.specs.declared.fault.OpenFault.{OpenFault}
use Rattle.bill_journal.specs.declared.fault.OpenFault.TheVariants as opening
use Rattle.journaled_shard.specs.Written.{HasDiary}
use Rattle.platform_world.specs.Machine.{MachineRecord, shard_state}
use Rattle.platform_world.specs.World.{loose_frame}

-- its loose mark: it is loose as long as its journal has to be read again
abbrev pub loose_mark : Bool → Option Frame → Option (Option Frame)
loose_mark true loose = Some loose
loose_mark false loose = None

-- a disk reads as the journal of the machine's diary, with its loose frame or without, and so does whatever a crash
-- leaves
pub record HoldsDiary {D : Type 0} (seen : D → List ℕ) (may_leave : D → List ℕ → Type 0) (disk : D) (m : MachineRecord)
    : Type 0 where
  pub now : HasDiary m.diary (loose_frame (shard_state m)) (seen disk)
  pub crash : (c : List ℕ) → may_leave disk c → HasDiary m.diary (loose_frame (shard_state m)) c

-- the disk failed, or it has something else than the diary
abbrev pub IsDiskOrDamaged : OpenFault → Type 0
IsDiskOrDamaged fault = (fault ≡ opening.Disk) ⊎ ((place : ℕ) × (fault ≡ opening.Damaged place))
