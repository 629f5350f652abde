-- What was written of a script is the text of a run that stays safe.
use Rattle.std.proofs.Common.{◌≡◌, ◌≤◌, ◌*◌, ℕ, true, List, [], ◌∷◌, length, arith}
use Rattle.std.specs.Prelude.{Option, Some, None, IfSome}
use Rattle.std.proofs.lemmas.List.{length-map}
use Rattle.ebl_base.specs.Segments.{segments_of}
use Rattle.signed_envelope.specs.KeyRing.{Keys}
use Rattle.party_roster.specs.RosterRecord.{RosterRecord}
use Rattle.journaled_shard.specs.declared.rack.Rack.{Rack}
use Rattle.world_events.specs.Script.{roster_in}
use Rattle.platform_world.specs.Run.{IsRunOf, Run, RunsScript}
use Rattle.world_safety.specs.Safety.{HasEnoughRings, StaysSafe}
use Rattle.ebl_run.specs.declared.ended.Ended.{Ended}
use Rattle.ebl_run.specs.Drive.{racks_for, racks_needed, serve}
use Rattle.ebl_run.specs.Racks.{keys_of, lengths_of}
use Rattle.ebl_run.specs.Safe.{Ran, RanSafely}
use Rattle.ebl_run.proofs.DriveLemmas.{serve_enough}
use Rattle.std.specs.Option.{option_map_or}

-- every run of a script for which enough rings came stays safe
abbrev pub StaysSafeAlways : Type 0
StaysSafeAlways = (script : List ℕ) (rings : List Keys) (run : Run) → HasEnoughRings (segments_of 10 script) rings
    → IsRunOf script rings run → StaysSafe run

-- as many rings came as racks
enough : (lines : List (List ℕ)) (rings : List Keys) → racks_for lines ≤ length rings → HasEnoughRings lines rings
enough [] rings many = tt
enough (line ∷ lines) rings many = of (roster_in line) many
  where
    of : (o : Option RosterRecord) → option_map_or racks_needed o 0 ≤ length rings
        → IfSome o (λ (roster : RosterRecord). 16 * length roster.platforms ≤ length rings)
    of None many = tt
    of (Some roster) many = many

pub ran_safely : {D G : Type 0} → StaysSafeAlways → (seen : D → List ℕ) (may_leave : D → List ℕ → Type 0)
    (disk_faults : D → ℕ) (keys : G → Keys) (ring_faults : G → ℕ) (script : List ℕ) (racks : List (Rack D G))
    (ended : Ended D G) (old new : Option (List ℕ))
    → serve (racks_for (segments_of 10 script)) (lengths_of seen racks) ≡ true
    → Ran seen may_leave disk_faults keys ring_faults
    (λ fates run. RunsScript script (keys_of keys racks) fates run) racks ended old new
    → RanSafely seen may_leave disk_faults keys ring_faults script racks ended old new
ran_safely {D} {G} always seen may_leave disk_faults keys ring_faults script racks ended old new served ran =
    let many : racks_for (segments_of 10 script) ≤ length (keys_of keys racks) =
    omega (
      arith,
      serve_enough (racks_for (segments_of 10 script)) (lengths_of seen racks) served,
      length-map racks (λ rack. length (seen rack.disk)),
      length-map racks (λ rack. keys rack.ring),
    ) in
    record {
      run = ran.run;
      runs = (
        ran.runs,
        always script (keys_of keys racks) ran.run (enough (segments_of 10 script) (keys_of keys racks) many)
            (ended.fates, ran.runs),
      );
      wrote = ran.wrote;
      left = ran.left;
    }
