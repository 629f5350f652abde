-- What the events of a script's lines make of a world, and what is written of them.
use Rattle.std.specs.Prelude.{◌≡◌, ◌⊎◌, ℕ, List, ◌++◌, Option, Some, None}
use Rattle.party_roster.specs.RosterRecord.{RosterRecord}
use Rattle.world_script.specs.Event.{EventRecord}
use Rattle.platform_world.specs.declared.fate.Fate.{Fate}
use Rattle.world_events.specs.Happening.{comes_to}
use Rattle.platform_world.specs.Machine.{Counts, MachineRecord}
use Rattle.platform_world.specs.Platforms.{EachRose}
use Rattle.platform_world.specs.Run.{Run, Runs, disk_answers, sign_answers}
use Rattle.world_events.specs.Script.{event_in}
use Rattle.platform_world.specs.State.{IsAnswered, IsCut, WorldState, world_of}
use Rattle.ebl_run.specs.Drive.{output_of}
use Rattle.ebl_run.specs.Status.{EndsAs}
use Rattle.ebl_run.specs.declared.status.Status.{Status}

-- what a line is answered, and the world after it; nothing changes where it is no event
abbrev pub IsLineAnswered : {M R : Type 0} → (M → MachineRecord) → Counts M → RosterRecord → List ℕ → WorldState M R
    → Option (List ℕ) → WorldState M R → Type 0
IsLineAnswered seen faults roster line before None after = (event_in roster line ≡ None) × (after ≡ before)
IsLineAnswered seen faults roster line before (Some text) after =
    (event : EventRecord) × (event_in roster line ≡ Some event) × IsAnswered seen faults before event text after

-- memory runs out: while the line is read, or in its event
abbrev pub IsLineCut : {M R : Type 0} → (M → MachineRecord) → Counts M → RosterRecord → List ℕ → WorldState M R
    → WorldState M R → Type 0
IsLineCut seen faults roster line before after =
    (after ≡ before)
    ⊎ ((event : EventRecord) × (event_in roster line ≡ Some event)
    × IsCut seen faults before (comes_to before.signed before.sent event) after)

-- a run of these lines from a world before the event n on: with the fates that the world kept of it; what was written
-- is its text, by the status; it leaves the platforms as they are; and no disk and no ring failed less often than it
-- tells
pub record RanLines {M R : Type 0} (seen : M → MachineRecord) (faults : Counts M) (roster : RosterRecord)
    (lines : List (List ℕ)) (n : ℕ) (before : WorldState M R) (status : Status) (old new : Option (List ℕ))
    (after : WorldState M R) : Type 0 where
  pub run : Run
  pub fates : List Fate
  pub fates_are : after.fates ≡ before.fates ++ fates
  pub runs : Runs roster lines (world_of seen before) n fates run
  pub left : run.left ≡ (world_of seen after).platforms
  pub wrote : EndsAs status (λ out. out ≡ output_of run) old new
  pub disks : EachRose faults.disk (λ k. disk_answers k run.happened) before.platforms.shards after.platforms.shards
  pub rings : EachRose faults.ring (λ k. sign_answers k run.happened) before.platforms.shards after.platforms.shards
