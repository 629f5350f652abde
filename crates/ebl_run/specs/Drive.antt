-- What `drive` writes: the lines that answer the events of a run of its script, and then the bill lines. Where the
-- racks don't serve the script, it is read to its end for a bad line, and nothing is written.
use Rattle.std.specs.Prelude.{◌≡◌, ◌⊎◌, ◌+◌, ◌*◌, ℕ, Bool, ◌&&◌, List, [], ◌∷◌, ◌++◌, Option, Some, None, MatchBool, is_none, length, nat_le, if◌then◌else◌}
use Rattle.std.specs.List.{flat_map}
use Rattle.std.specs.Option.{option_map_or}
use Rattle.ebl_base.specs.Segments.{segments_of}
use Rattle.signed_envelope.specs.KeyRing.{Keys}
use Rattle.party_roster.specs.RosterRecord.{RosterRecord}
use Rattle.world_script.specs.Event.{EventRecord}
use Rattle.platform_world.specs.declared.fate.Fate.{Fate}
use Rattle.world_events.specs.Script.{event_in, roster_in}
use Rattle.platform_world.specs.Run as runs
use Rattle.platform_world.specs.Run.{Run, RunEnd, RunsScript}
use Rattle.ebl_run.specs.Output.{Output, OutputEnd, complete, bad_line, stopped}
use Rattle.ebl_run.specs.Racks.{written_among}

-- ---- the text of a run

-- how a run ends
abbrev pub end_of : RunEnd → OutputEnd
end_of runs.complete = complete
end_of (runs.bad_line n) = bad_line n
end_of runs.stopped = stopped

-- its answers, one behind the other, and then the bill lines
abbrev pub text_of : Run → List ℕ
text_of run = flat_map (λ line. line) run.answers ++ run.bills

abbrev pub output_of : Run → Output
output_of run = record { text = text_of run; end = end_of run.end }

-- ---- bad lines

-- the number of a line that is no event; or else what follows it
abbrev pub or_number : Option EventRecord → ℕ → Option ℕ → Option ℕ
or_number None number rest = Some number
or_number (Some event) number rest = rest

-- the number of the first of these lines that is no event, or that comes after 100,000 lines, where n stand before them
abbrev pub first_bad : RosterRecord → ℕ → List (List ℕ) → Option ℕ
first_bad roster n [] = None
first_bad roster n (line ∷ lines) =
    if nat_le 100000 n then Some (n + 1) else or_number (event_in roster line) (n + 1) (first_bad roster (n + 1) lines)

-- the number of the first line outside the grammar, where there is one
abbrev pub first_bad_line : List (List ℕ) → Option ℕ
first_bad_line [] = Some 1
first_bad_line (line ∷ lines) = option_map_or (λ roster. first_bad roster 1 lines) (roster_in line) (Some 1)

-- ---- racks

-- how many racks a roster needs: sixteen for each platform
abbrev pub racks_needed : RosterRecord → ℕ
racks_needed roster = 16 * length roster.platforms

-- how many a script needs, by the roster of its first line, if it has one
abbrev pub racks_for : List (List ℕ) → ℕ
racks_for [] = 0
racks_for (line ∷ lines) = option_map_or racks_needed (roster_in line) 0

-- as many as are needed came, and their disks, which have these lengths, are blank
abbrev pub serve : ℕ → List ℕ → Bool
serve needed lengths = nat_le needed (length lengths) && is_none (written_among needed lengths)

-- ---- a script

-- the output of a run of the script whose events have these fates
abbrev pub WritesRun : List ℕ → List Keys → List Fate → Output → Type 0
WritesRun script rings fates out = (run : Run) × RunsScript script rings fates run × (out ≡ output_of run)

-- nothing is written, and no event is run
abbrev pub Refuses : List (List ℕ) → List Fate → Output → Type 0
Refuses lines fates out =
    (fates ≡ []) × ((out ≡ record { text = []; end = stopped })
    ⊎ ((n : ℕ) × (first_bad_line lines ≡ Some n) × (out ≡ record { text = []; end = bad_line n })))

-- what `drive` writes of a script with these rings and these lengths of disks, of which each platform takes sixteen in
-- the roster's order
abbrev pub Drives : List ℕ → List Keys → List ℕ → List Fate → Output → Type 0
Drives script rings lengths fates out = MatchBool (serve (racks_for (segments_of 10 script)) lengths)
    (WritesRun script rings fates out)
    (Refuses (segments_of 10 script) fates out)
