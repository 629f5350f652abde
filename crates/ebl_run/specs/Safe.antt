-- The headline: what `drive` writes of a script is the text of a run of it, which stays safe, and whose last diaries
-- are on the disks.
use Rattle.std.specs.Prelude.{◌≡◌, ◌⊎◌, ℕ, List, [], Option, drop}
use Rattle.signed_envelope.specs.KeyRing.{Keys}
use Rattle.journaled_shard.specs.declared.rack.Rack.{Rack}
use Rattle.platform_world.specs.declared.fate.Fate.{Fate}
use Rattle.party_roster.specs.RosterRecord.{RosterRecord}
use Rattle.platform_world.specs.Opening.{RoseAt}
use Rattle.platform_world.specs.Run.{EndsAtOnce, Run, Runs, RunsScript, stopped}
use Rattle.platform_world.specs.World.{opening}
use Rattle.world_safety.specs.Safety.{StaysSafe}
use Rattle.ebl_run.specs.Drive.{output_of}
use Rattle.ebl_run.specs.Racks.{AreBack, AreLeft, keys_of}
use Rattle.ebl_run.specs.Status.{EndsAs, IsBeforeRun, IsBeforeWrite}
use Rattle.ebl_run.specs.declared.ended.Ended.{Ended}
use Rattle.ebl_run.specs.declared.status.Status.{Status}
use Rattle.ebl_run.specs.declared.status.Status.TheVariants.{OpenFault}

-- a run of the lines behind a roster: it may stop before its world is open
abbrev pub RunsBehind : RosterRecord → List (List ℕ) → List Keys → List Fate → Run → Type 0
RunsBehind roster lines rings fates run =
    EndsAtOnce stopped fates run ⊎ Runs roster lines (opening roster rings) 1 fates run

-- by the status, what was written is the text of this run, or a first part of it
abbrev pub WroteRun : Status → Run → Option (List ℕ) → Option (List ℕ) → Type 0
WroteRun status run old new = EndsAs status (λ out. out ≡ output_of run) old new

-- what was written is the text of such a run, whose events have the fates that are handed back; and the racks are as
-- the run leaves them
pub record Ran {D G : Type 0} (seen : D → List ℕ) (may_leave : D → List ℕ → Type 0) (disk_faults : D → ℕ)
    (keys : G → Keys) (ring_faults : G → ℕ) (IsRun : List Fate → Run → Type 0) (racks : List (Rack D G))
    (ended : Ended D G) (old new : Option (List ℕ)) : Type 0 where
  pub run : Run
  pub runs : IsRun ended.fates run
  pub wrote : WroteRun ended.status run old new
  pub left : AreLeft seen may_leave disk_faults keys ring_faults run.happened run.left racks ended.racks

-- it is a run of the script, and stays safe
abbrev pub RanSafely : {D G : Type 0} → (D → List ℕ) → (D → List ℕ → Type 0) → (D → ℕ) → (G → Keys) → (G → ℕ)
    → List ℕ → List (Rack D G) → Ended D G → Option (List ℕ) → Option (List ℕ) → Type 0
RanSafely seen may_leave disk_faults keys ring_faults script racks ended old new =
    Ran seen may_leave disk_faults keys ring_faults
    (λ fates run. RunsScript script (keys_of keys racks) fates run × StaysSafe run) racks ended old new

-- how racks are handed back, so many of which were needed: in their order, the further ones untouched; a disk that
-- failed while it was measured or opened has a count that rose; and there is no fate where no event was run
pub record AreHandedBack {D G : Type 0} (disk_faults : D → ℕ) (ring_faults : G → ℕ) (needed : ℕ)
    (racks : List (Rack D G)) (ended : Ended D G) : Type 0 where
  pub back : AreBack disk_faults ring_faults racks ended.racks
  pub further : drop needed ended.racks ≡ drop needed racks
  pub untouched : IsBeforeWrite ended.status → ended.racks ≡ racks
  pub open_fault : (place : ℕ) → ended.status ≡ OpenFault place → RoseAt disk_faults place racks ended.racks
  pub unrun : IsBeforeRun ended.status → ended.fates ≡ []
