-- What `rehearse` writes: the line that sums a rehearsal up, from the opening of its roster.
use Rattle.std.specs.Prelude.{◌≡◌, ℕ, List, []}
use Rattle.signed_envelope.specs.KeyRing.{Keys}
use Rattle.platform_world.specs.declared.fate.Fate.{Fate}
use Rattle.platform_world.specs.World.{opening}
use Rattle.rehearsal.specs.Roster.{made_roster}
use Rattle.rehearsal.specs.Run as rehearsals
use Rattle.rehearsal.specs.Run.{Rehearsal, RehearsalEnd, Rehearses, fates_of}
use Rattle.rehearsal.specs.Summary.{summary_line}
use Rattle.ebl_run.specs.Output.{Output, complete, stopped}

-- the line of a whole rehearsal; one that stops writes nothing
abbrev pub output_by : RehearsalEnd → List ℕ → Output
output_by rehearsals.complete line = record { text = line; end = complete }
output_by rehearsals.stopped line = record { text = []; end = stopped }

abbrev pub output_of : ℕ → Rehearsal → Output
output_of bills run = output_by run.end (summary_line bills run)

-- a whole rehearsal has the fates of what happened; of one that stops they aren't told
abbrev pub HasFates : Rehearsal → List Fate → Type 0
HasFates run fates = run.end ≡ rehearsals.complete → fates ≡ fates_of run.happened

-- from this seed, with so many bills and steps, with these rings, and with events of these fates
abbrev pub WritesRehearsal : ℕ → ℕ → ℕ → List Keys → List Fate → Output → Type 0
WritesRehearsal seed bills steps rings fates out =
    (run : Rehearsal) × Rehearses seed bills steps (opening made_roster rings) run × HasFates run fates
    × (out ≡ output_of bills run)
