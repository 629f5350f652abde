-- A script by its first line, and by whether the racks serve it.
use Rattle.std.proofs.Common.{◌≡◌, inl, inr, ℕ, ◌<◌, ◌≤◌, Bool, true, false, List, [], ◌∷◌, drop, length, refl, sym, ap, subst, ◌∙◌, arith}
use Rattle.std.specs.Prelude.{Option, Some, None, MatchBool, is_none, nat_le, ◌&&◌}
use Rattle.std.proofs.lemmas.Bool.{false≢true, le-leb, leb-true}
use Rattle.std.proofs.lemmas.List.{length-map}
use Rattle.std.specs.Option.{option_map_or}
use Rattle.std.proofs.KnownBytes.{Appends-nil}
use Rattle.ebl_base.specs.Segments.{segments_of}
use Rattle.signed_envelope.specs.KeyRing.{Keys}
use Rattle.party_roster.specs.RosterRecord.{RosterRecord}
use Rattle.platform_world.specs.declared.fate.Fate.{Fate}
use Rattle.platform_world.specs.World.{WorldRecord, opening}
use Rattle.world_events.specs.Script.{roster_in}
use Rattle.platform_world.specs.Run as runs
use Rattle.platform_world.specs.Run.{EndsAtOnce, OnRoster, Run, Runs, RunsLines, RunsScript}
use Rattle.ebl_run.specs.declared.status.Status.{Status}
use Rattle.ebl_run.specs.declared.status.Status.TheVariants.{Done, Usage, ReadFault, TooLong, BadJson, BadScript, WrongRacks, NotBlank, OpenFault, WriteFault, NoMemory}
use Rattle.ebl_run.specs.Output.{Output, bad_line, stopped}
use Rattle.ebl_run.specs.Drive.{Drives, Refuses, WritesRun, first_bad, first_bad_line, output_of, racks_for, racks_needed, serve}
use Rattle.journaled_shard.specs.declared.rack.Rack.{Rack}
use Rattle.platform_world.specs.declared.opening.WorldFault.{WorldFault}
use Rattle.platform_world.specs.declared.opening.WorldFault.TheVariants as faults
use Rattle.ebl_run.specs.declared.racks.Unfit.{Unfit}
use Rattle.ebl_run.specs.declared.racks.Unfit.TheVariants as unfits
use Rattle.platform_world.specs.Opening.{RoseAt}
use Rattle.ebl_run.specs.declared.ended.Ended.{Ended}
use Rattle.ebl_run.specs.Racks.{AreBack, AreMeasured, IsRefused, IsUnfit, keys_of, lengths_of, status_by, written_among}
use Rattle.ebl_run.specs.Safe.{AreHandedBack, Ran, RunsBehind}
use Rattle.ebl_run.specs.Status.{EndsAs, IsAfterOpen, IsBeforeRun, IsBeforeWrite, IsCausedBy, IsDriveEnd}
use Rattle.ebl_run.proofs.Worlds.{back_behind, back_from_measuring, keys_measured, left_behind, rose_behind, same_back}

-- ---- racks that serve

both : (a b : Bool) → (a && b) ≡ true → (a ≡ true) × (b ≡ true)
both true b h = (refl, h)
both false b h = absurd (false≢true h)

none_from : (o : Option ℕ) → is_none o ≡ true → o ≡ None
none_from None h = refl
none_from (Some n) h = absurd (false≢true h)

pub serve_enough : (needed : ℕ) (lengths : List ℕ) → serve needed lengths ≡ true → needed ≤ length lengths
serve_enough needed lengths served =
    leb-true needed (length lengths) (both (nat_le needed (length lengths)) (is_none (written_among needed lengths)) served).0

pub serve_blank : (needed : ℕ) (lengths : List ℕ) → serve needed lengths ≡ true → written_among needed lengths ≡ None
serve_blank needed lengths served =
    none_from (written_among needed lengths)
    (both (nat_le needed (length lengths)) (is_none (written_among needed lengths)) served).1

pub they_serve : (needed : ℕ) (lengths : List ℕ) → needed ≤ length lengths → written_among needed lengths ≡ None
    → serve needed lengths ≡ true
they_serve needed lengths enough blank =
    ap (λ (b : Bool). b && is_none (written_among needed lengths)) (le-leb needed (length lengths) enough)
    ∙ ap is_none blank

-- ---- a world that was opened

pub runs_opened : (roster : RosterRecord) (lines : List (List ℕ)) (rings : List Keys) (w : WorldRecord)
    (fates given : List Fate) (run : Run) → w ≡ opening roster rings → given ≡ fates
    → Runs w.roster lines w 1 fates run → RunsBehind roster lines rings given run
runs_opened roster lines rings w fates given run opened same goes =
    subst (λ (fs : List Fate). RunsBehind roster lines rings fs run) (sym same)
    (inr (subst (λ (v : WorldRecord). Runs v.roster lines v 1 fates run) opened goes))

-- a run that never begins
abbrev pub never_begun : Run
never_begun = record { happened = []; answers = []; bills = []; end = runs.stopped; left = [] }

-- ---- why a script ends so

-- where enough racks came and all are blank, as where none is needed
pub caused_with : (status : Status) (bad : Option ℕ) (given needed : ℕ) → needed ≤ given → IsAfterOpen status
    → IsCausedBy status bad 0 0 None → IsCausedBy status bad given needed None
caused_with Done bad given needed enough is (none, none_needed, blank) = (none, enough, blank)
caused_with (BadScript n) bad given needed enough is caused = caused
caused_with WriteFault bad given needed enough is (none_needed, blank) = (enough, blank)
caused_with NoMemory bad given needed enough is caused = tt
caused_with (WrongRacks g n) bad given needed enough is caused = absurd is
caused_with (NotBlank place) bad given needed enough is caused = absurd is
caused_with (OpenFault place) bad given needed enough is caused = absurd is
caused_with Usage bad given needed enough is caused = absurd is
caused_with ReadFault bad given needed enough is caused = absurd is
caused_with TooLong bad given needed enough is caused = absurd is
caused_with (BadJson fault) bad given needed enough is caused = absurd is

-- a run whose world was opened ends by none of the other statuses
pub after_open_written : (status : Status) → IsAfterOpen status → IsBeforeRun status → ⊥
after_open_written Done is before = before
after_open_written (BadScript n) is before = before
after_open_written WriteFault is before = before
after_open_written NoMemory is before = before
after_open_written (WrongRacks g n) is before = absurd is
after_open_written (NotBlank place) is before = absurd is
after_open_written (OpenFault place) is before = absurd is
after_open_written Usage is before = absurd is
after_open_written ReadFault is before = absurd is
after_open_written TooLong is before = absurd is
after_open_written (BadJson fault) is before = absurd is

pub after_open_touched : (status : Status) → IsAfterOpen status → IsBeforeWrite status → ⊥
after_open_touched Done is before = before
after_open_touched (BadScript n) is before = before
after_open_touched WriteFault is before = before
after_open_touched NoMemory is before = before
after_open_touched (WrongRacks g n) is before = absurd is
after_open_touched (NotBlank place) is before = absurd is
after_open_touched (OpenFault place) is before = absurd is
after_open_touched Usage is before = absurd is
after_open_touched ReadFault is before = absurd is
after_open_touched TooLong is before = absurd is
after_open_touched (BadJson fault) is before = absurd is

pub after_open_ends : (status : Status) → IsAfterOpen status → IsDriveEnd status
after_open_ends Done is = tt
after_open_ends (BadScript n) is = tt
after_open_ends WriteFault is = tt
after_open_ends NoMemory is = tt
after_open_ends (WrongRacks g n) is = absurd is
after_open_ends (NotBlank place) is = absurd is
after_open_ends (OpenFault place) is = absurd is
after_open_ends Usage is = absurd is
after_open_ends ReadFault is = absurd is
after_open_ends TooLong is = absurd is
after_open_ends (BadJson fault) is = absurd is

-- of a script with this roster
pub bad_behind : (script line : List ℕ) (lines : List (List ℕ)) (roster : RosterRecord)
    → segments_of 10 script ≡ line ∷ lines → roster_in line ≡ Some roster
    → first_bad roster 1 lines ≡ first_bad_line (segments_of 10 script)
bad_behind script line lines roster parts is =
    sym (ap first_bad_line parts
    ∙ ap (λ (o : Option RosterRecord). option_map_or (λ (r : RosterRecord). first_bad r 1 lines) o (Some 1)) is)

pub racks_behind : (script line : List ℕ) (lines : List (List ℕ)) (roster : RosterRecord)
    → segments_of 10 script ≡ line ∷ lines → roster_in line ≡ Some roster
    → racks_for (segments_of 10 script) ≡ racks_needed roster
racks_behind script line lines roster parts is =
    ap racks_for parts ∙ ap (λ (o : Option RosterRecord). option_map_or racks_needed o 0) is

-- of a script without one
pub bad_first_line : (script line : List ℕ) (lines : List (List ℕ)) → segments_of 10 script ≡ line ∷ lines
    → roster_in line ≡ None → first_bad_line (segments_of 10 script) ≡ Some 1
bad_first_line script line lines parts none =
    ap first_bad_line parts
    ∙ ap (λ (o : Option RosterRecord). option_map_or (λ (r : RosterRecord). first_bad r 1 lines) o (Some 1)) none

pub bad_empty : (script : List ℕ) → script ≡ [] → first_bad_line (segments_of 10 script) ≡ Some 1
bad_empty script empty = ap (λ (s : List ℕ). first_bad_line (segments_of 10 s)) empty

-- ---- runs of a script

-- it may stop at once
pub stops_at_once : (script : List ℕ) (rings : List Keys) → RunsScript script rings [] never_begun
stops_at_once script rings = of (segments_of 10 script)
  where
    of : (lines : List (List ℕ)) → RunsLines lines rings [] never_begun
    of [] = inl (refl, refl)
    of (line ∷ lines) = inl (refl, refl)

-- it ends at its first line, which has no roster
abbrev pub bad_at_once : Run
bad_at_once = record { happened = []; answers = []; bills = []; end = runs.bad_line 1; left = [] }

pub runs_empty : (script : List ℕ) (rings : List Keys) → script ≡ [] → RunsScript script rings [] bad_at_once
runs_empty script rings empty =
    subst (λ (s : List ℕ). RunsScript s rings [] bad_at_once) (sym empty) (inr (refl, refl))

pub runs_no_roster : (script line : List ℕ) (lines : List (List ℕ)) (rings : List Keys)
    → segments_of 10 script ≡ line ∷ lines → roster_in line ≡ None → RunsScript script rings [] bad_at_once
runs_no_roster script line lines rings parts none =
    subst (λ (ls : List (List ℕ)). RunsLines ls rings [] bad_at_once) (sym parts)
    (inr (subst (λ (o : Option RosterRecord). OnRoster o rings lines [] bad_at_once) (sym none) (refl, refl)))

-- behind its roster
pub runs_behind_roster : (script line : List ℕ) (lines : List (List ℕ)) (roster : RosterRecord) (rings : List Keys)
    (fates : List Fate) (run : Run) → segments_of 10 script ≡ line ∷ lines → roster_in line ≡ Some roster
    → RunsBehind roster lines rings fates run → RunsScript script rings fates run
runs_behind_roster script line lines roster rings fates run parts is behind =
    subst (λ (ls : List (List ℕ)). RunsLines ls rings fates run) (sym parts) (of behind)
  where
    of : RunsBehind roster lines rings fates run → RunsLines (line ∷ lines) rings fates run
    of (inl stops) = inl stops
    of (inr goes) = inr (subst (λ (o : Option RosterRecord). OnRoster o rings lines fates run) (sym is) goes)

-- ---- what was written

-- what is reported of fewer outputs is reported of more
pub EndsAs-wider : (P Q : Output → Type 0) → ((out : Output) → P out → Q out) → (status : Status)
    (old new : Option (List ℕ)) → EndsAs status P old new → EndsAs status Q old new
EndsAs-wider P Q wider Done old new (out, is, end, wrote) = (out, wider out is, end, wrote)
EndsAs-wider P Q wider (BadScript n) old new (out, is, end, wrote) = (out, wider out is, end, wrote)
EndsAs-wider P Q wider (BadJson fault) old new (out, is, end, wrote) = (out, wider out is, end, wrote)
EndsAs-wider P Q wider WriteFault old new (out, is, first) = (out, wider out is, first)
EndsAs-wider P Q wider NoMemory old new (out, is, end, wrote) = (out, wider out is, end, wrote)
EndsAs-wider P Q wider (WrongRacks given needed) old new wrote = wrote
EndsAs-wider P Q wider (NotBlank place) old new wrote = wrote
EndsAs-wider P Q wider (OpenFault place) old new wrote = wrote
EndsAs-wider P Q wider Usage old new wrote = wrote
EndsAs-wider P Q wider ReadFault old new wrote = wrote
EndsAs-wider P Q wider TooLong old new wrote = wrote

-- the text of a run of a script that the racks serve
pub drives_run : (script : List ℕ) (rings : List Keys) (lengths : List ℕ) (fates : List Fate) (run : Run)
    (status : Status) (old new : Option (List ℕ)) → serve (racks_for (segments_of 10 script)) lengths ≡ true
    → RunsScript script rings fates run → EndsAs status (λ out. out ≡ output_of run) old new
    → EndsAs status (Drives script rings lengths fates) old new
drives_run script rings lengths fates run status old new served goes ends =
    EndsAs-wider (λ out. out ≡ output_of run) (Drives script rings lengths fates)
    (λ out is. subst (λ (b : Bool). MatchBool b (WritesRun script rings fates out) (Refuses (segments_of 10 script) fates out))
    (sym served) (run, goes, is)) status old new ends

-- nothing, where they don't
pub drives_nothing : (script : List ℕ) (rings : List Keys) (lengths : List ℕ) (fates : List Fate) (status : Status)
    (given : ℕ) (now : Option (List ℕ)) → given ≡ length lengths
    → serve (racks_for (segments_of 10 script)) lengths ≡ false → fates ≡ []
    → IsDriveEnd status
    → IsCausedBy status (first_bad_line (segments_of 10 script)) given (racks_for (segments_of 10 script))
    (written_among (racks_for (segments_of 10 script)) lengths)
    → EndsAs status (Drives script rings lengths fates) now now
drives_nothing script rings lengths fates status given now given_is unserved none end caused = by status end caused
  where
    needed : ℕ
    needed = racks_for (segments_of 10 script)

    refuses : (out : Output) → Refuses (segments_of 10 script) fates out → Drives script rings lengths fates out
    refuses out so =
        subst (λ (b : Bool). MatchBool b (WritesRun script rings fates out) (Refuses (segments_of 10 script) fates out))
        (sym unserved) so

    serves_not : needed ≤ given → written_among needed lengths ≡ None → ⊥
    serves_not enough blank =
        let served = they_serve needed lengths (subst (λ (n : ℕ). needed ≤ n) given_is enough) blank in
        false≢true (sym unserved ∙ served)

    by : (s : Status) → IsDriveEnd s
        → IsCausedBy s (first_bad_line (segments_of 10 script)) given needed (written_among needed lengths)
        → EndsAs s (Drives script rings lengths fates) now now
    by (BadScript n) is bad =
        let out : Output = record { text = []; end = bad_line n } in
        (out, refuses out (none, inr (n, bad, refl)), refl, Appends-nil now)
    by NoMemory is caused_so =
        let out : Output = record { text = []; end = stopped } in
        (out, refuses out (none, inl refl), refl, Appends-nil now)
    by Done is (good, enough, blank) = absurd (serves_not enough blank)
    by WriteFault is (enough, blank) = absurd (serves_not enough blank)
    by (WrongRacks g n) is caused_so = Appends-nil now
    by (NotBlank place) is caused_so = Appends-nil now
    by (OpenFault place) is caused_so = Appends-nil now
    by Usage is caused_so = absurd is
    by ReadFault is caused_so = absurd is
    by TooLong is caused_so = absurd is
    by (BadJson fault) is caused_so = absurd is

-- ---- a world that wasn't opened

pub unopened_wrote : (fault : WorldFault) (now : Option (List ℕ))
    → EndsAs (status_by fault) (λ out. out ≡ output_of never_begun) now now
unopened_wrote (faults.OpenFault place) now = Appends-nil now
unopened_wrote faults.NoMemory now = (output_of never_begun, refl, refl, Appends-nil now)

pub unopened_caused : (fault : WorldFault) (bad : Option ℕ) (given needed : ℕ) → needed ≤ given
    → IsCausedBy (status_by fault) bad given needed None
unopened_caused (faults.OpenFault place) bad given needed enough = (enough, tt)
unopened_caused faults.NoMemory bad given needed enough = tt

pub unopened_untouched : (fault : WorldFault) → IsBeforeWrite (status_by fault) → ⊥
unopened_untouched (faults.OpenFault place) before = before
unopened_untouched faults.NoMemory before = before

pub unopened_at : (fault : WorldFault) (place : ℕ) → status_by fault ≡ OpenFault place
    → fault ≡ faults.OpenFault place
unopened_at (faults.OpenFault at) place is = let same : at ≡ place = cc is in ap faults.OpenFault same
unopened_at faults.NoMemory place is = let no : NoMemory ≡ OpenFault place = is in cc no

pub unopened_ends : (fault : WorldFault) → IsDriveEnd (status_by fault)
unopened_ends (faults.OpenFault place) = tt
unopened_ends faults.NoMemory = tt

pub unopened_put : (fault : WorldFault) → status_by fault ≡ WriteFault → ⊥
unopened_put (faults.OpenFault place) is = let no : OpenFault place ≡ WriteFault = is in cc no
unopened_put faults.NoMemory is = let no : NoMemory ≡ WriteFault = is in cc no

-- ---- racks that don't serve

pub refused_cause : {D G : Type 0} (seen : D → List ℕ) (disk_faults : D → ℕ) (needed : ℕ)
    (racks after : List (Rack D G)) (unfit : Unfit) (bad : Option ℕ) (status : Status)
    → IsUnfit seen disk_faults needed racks after unfit → IsRefused unfit bad status
    → IsCausedBy status bad (length racks) needed (written_among needed (lengths_of seen racks))
refused_cause {D} {G} seen disk_faults needed racks after unfit bad status why refused = by unfit why refused
  where
    by : (u : Unfit) → IsUnfit seen disk_faults needed racks after u → IsRefused u bad status → IsCausedBy status bad (length racks) needed (written_among needed (lengths_of seen racks))
    by (unfits.Faulty place) (enough, within, first, rose) is = subst (λ (s : Status). IsCausedBy s bad (length racks) needed (written_among needed (lengths_of seen racks))) (sym is) (enough, first)
    by (unfits.TooFew given wanted) (given_is, wanted_is, few, same) (inl is) = subst (λ (s : Status). IsCausedBy s bad (length racks) needed (written_among needed (lengths_of seen racks))) (sym is) tt
    by (unfits.TooFew given wanted) (given_is, wanted_is, few, same) (inr (inl (n, is_bad, is))) =
        subst (λ (s : Status). IsCausedBy s bad (length racks) needed (written_among needed (lengths_of seen racks))) (sym is) is_bad
    by (unfits.TooFew given wanted) (given_is, wanted_is, few, same) (inr (inr (none, is))) =
        let fewer : length racks < needed = omega (arith, few, given_is) in
        subst (λ (s : Status). IsCausedBy s bad (length racks) needed (written_among needed (lengths_of seen racks))) (sym is) (none, fewer, given_is, wanted_is)
    by (unfits.NotBlank place) (enough, first) (inl is) = subst (λ (s : Status). IsCausedBy s bad (length racks) needed (written_among needed (lengths_of seen racks))) (sym is) tt
    by (unfits.NotBlank place) (enough, first) (inr (inl (n, is_bad, is))) = subst (λ (s : Status). IsCausedBy s bad (length racks) needed (written_among needed (lengths_of seen racks))) (sym is) is_bad
    by (unfits.NotBlank place) (enough, first) (inr (inr (none, is))) = subst (λ (s : Status). IsCausedBy s bad (length racks) needed (written_among needed (lengths_of seen racks))) (sym is) (none, enough, first)

pub refused_touched : {D G : Type 0} (seen : D → List ℕ) (disk_faults : D → ℕ) (needed : ℕ)
    (racks after : List (Rack D G)) (unfit : Unfit) (bad : Option ℕ) (status : Status)
    → IsUnfit seen disk_faults needed racks after unfit → IsRefused unfit bad status → IsBeforeWrite status
    → after ≡ racks
refused_touched seen disk_faults needed racks after (unfits.Faulty place) bad status why is before =
    absurd (subst IsBeforeWrite is before)
refused_touched seen disk_faults needed racks after (unfits.TooFew given wanted) bad status why is before = why.3
refused_touched seen disk_faults needed racks after (unfits.NotBlank place) bad status why (inl is) before =
    absurd (subst IsBeforeWrite is before)
refused_touched seen disk_faults needed racks after (unfits.NotBlank place) bad status why (inr (inl (n, is_bad, is))) before =
    absurd (subst IsBeforeWrite is before)
refused_touched seen disk_faults needed racks after (unfits.NotBlank place) bad status why (inr (inr (none, is))) before =
    absurd (subst IsBeforeWrite is before)

pub refused_rose : {D G : Type 0} (seen : D → List ℕ) (disk_faults : D → ℕ) (needed : ℕ)
    (racks after : List (Rack D G)) (unfit : Unfit) (bad : Option ℕ) (status : Status) (place : ℕ)
    → IsUnfit seen disk_faults needed racks after unfit → IsRefused unfit bad status → status ≡ OpenFault place
    → RoseAt disk_faults place racks after
refused_rose seen disk_faults needed racks after (unfits.Faulty at) bad status place why is fault =
    let both_are : OpenFault at ≡ OpenFault place = sym is ∙ fault in
    let same : at ≡ place = cc both_are in
    subst (λ (k : ℕ). RoseAt disk_faults k racks after) same why.3
refused_rose seen disk_faults needed racks after (unfits.TooFew given wanted) bad status place why (inl is) fault =
    let no : NoMemory ≡ OpenFault place = sym is ∙ fault in cc no
refused_rose seen disk_faults needed racks after (unfits.TooFew given wanted) bad status place why (inr (inl (n, is_bad, is))) fault =
    let no : BadScript n ≡ OpenFault place = sym is ∙ fault in cc no
refused_rose seen disk_faults needed racks after (unfits.TooFew given wanted) bad status place why (inr (inr (none, is))) fault =
    let no : WrongRacks given wanted ≡ OpenFault place = sym is ∙ fault in cc no
refused_rose seen disk_faults needed racks after (unfits.NotBlank at) bad status place why (inl is) fault =
    let no : NoMemory ≡ OpenFault place = sym is ∙ fault in cc no
refused_rose seen disk_faults needed racks after (unfits.NotBlank at) bad status place why (inr (inl (n, is_bad, is))) fault =
    let no : BadScript n ≡ OpenFault place = sym is ∙ fault in cc no
refused_rose seen disk_faults needed racks after (unfits.NotBlank at) bad status place why (inr (inr (none, is))) fault =
    let no : NotBlank at ≡ OpenFault place = sym is ∙ fault in cc no

pub refused_ends : (unfit : Unfit) (bad : Option ℕ) (status : Status) → IsRefused unfit bad status → IsDriveEnd status
refused_ends (unfits.Faulty place) bad status is = subst IsDriveEnd (sym is) tt
refused_ends (unfits.TooFew given wanted) bad status (inl is) = subst IsDriveEnd (sym is) tt
refused_ends (unfits.TooFew given wanted) bad status (inr (inl (n, is_bad, is))) = subst IsDriveEnd (sym is) tt
refused_ends (unfits.TooFew given wanted) bad status (inr (inr (none, is))) = subst IsDriveEnd (sym is) tt
refused_ends (unfits.NotBlank place) bad status (inl is) = subst IsDriveEnd (sym is) tt
refused_ends (unfits.NotBlank place) bad status (inr (inl (n, is_bad, is))) = subst IsDriveEnd (sym is) tt
refused_ends (unfits.NotBlank place) bad status (inr (inr (none, is))) = subst IsDriveEnd (sym is) tt

pub refused_put : (unfit : Unfit) (bad : Option ℕ) (status : Status) → IsRefused unfit bad status → status ≡ WriteFault → ⊥
refused_put (unfits.Faulty place) bad status is fault = let no : OpenFault place ≡ WriteFault = sym is ∙ fault in cc no
refused_put (unfits.TooFew given wanted) bad status (inl is) fault =
    let no : NoMemory ≡ WriteFault = sym is ∙ fault in cc no
refused_put (unfits.TooFew given wanted) bad status (inr (inl (n, is_bad, is))) fault =
    let no : BadScript n ≡ WriteFault = sym is ∙ fault in cc no
refused_put (unfits.TooFew given wanted) bad status (inr (inr (none, is))) fault =
    let no : WrongRacks given wanted ≡ WriteFault = sym is ∙ fault in cc no
refused_put (unfits.NotBlank place) bad status (inl is) fault = let no : NoMemory ≡ WriteFault = sym is ∙ fault in cc no
refused_put (unfits.NotBlank place) bad status (inr (inl (n, is_bad, is))) fault =
    let no : BadScript n ≡ WriteFault = sym is ∙ fault in cc no
refused_put (unfits.NotBlank place) bad status (inr (inr (none, is))) fault =
    let no : NotBlank place ≡ WriteFault = sym is ∙ fault in cc no

-- racks that serve were refused only by a disk that failed
pub refused_wrote : {D G : Type 0} (seen : D → List ℕ) (disk_faults : D → ℕ) (needed : ℕ)
    (racks after : List (Rack D G)) (unfit : Unfit) (bad : Option ℕ) (status : Status) (now : Option (List ℕ))
    → IsUnfit seen disk_faults needed racks after unfit → IsRefused unfit bad status
    → serve needed (lengths_of seen racks) ≡ true → EndsAs status (λ out. out ≡ output_of never_begun) now now
refused_wrote seen disk_faults needed racks after (unfits.Faulty place) bad status now why is served =
    subst (λ (s : Status). EndsAs s (λ out. out ≡ output_of never_begun) now now) (sym is) (Appends-nil now)
refused_wrote seen disk_faults needed racks after (unfits.TooFew given wanted) bad status now why is served =
    absurd (omega (
      arith,
      why.2,
      why.0,
      serve_enough needed (lengths_of seen racks) served,
      length-map racks (λ rack. length (seen rack.disk)),
    ))
refused_wrote seen disk_faults needed racks after (unfits.NotBlank place) bad status now why is served =
    let no : None ≡ Some place = sym (serve_blank needed (lengths_of seen racks) served) ∙ why.1 in cc no

-- how they come back
pub refused_handed : {D G : Type 0} (tells : D → Bool) (seen : D → List ℕ) (disk_faults : D → ℕ) (ring_faults : G → ℕ)
    (needed : ℕ) (racks after : List (Rack D G)) (unfit : Unfit) (bad : Option ℕ) (status : Status) (ended : Ended D G)
    → AreMeasured tells seen disk_faults racks after → drop needed after ≡ drop needed racks
    → IsUnfit seen disk_faults needed racks after unfit → IsRefused unfit bad status → ended.status ≡ status
    → ended.racks ≡ after → ended.fates ≡ [] → AreHandedBack disk_faults ring_faults needed racks ended
refused_handed {D} {G} tells seen disk_faults ring_faults needed racks after unfit bad status ended measured further why is same back none =
    record {
      back = subst (λ (rs : List (Rack D G)). AreBack disk_faults ring_faults racks rs) (sym back)
          (back_from_measuring tells seen disk_faults ring_faults racks after measured);
      further = ap (drop needed) back ∙ further;
      untouched = λ before. back ∙ refused_touched seen disk_faults needed racks after unfit bad status why is
          (subst IsBeforeWrite same before);
      open_fault = λ place fault. subst (λ (rs : List (Rack D G)). RoseAt disk_faults place racks rs) (sym back)
          (refused_rose seen disk_faults needed racks after unfit bad status place why is (sym same ∙ fault));
      unrun = λ before. none;
    }

-- ---- behind the measuring

pub ran_behind : {D G : Type 0} (tells : D → Bool) (seen : D → List ℕ) (may_leave : D → List ℕ → Type 0)
    (disk_faults : D → ℕ) (keys : G → Keys) (ring_faults : G → ℕ) (racks measured : List (Rack D G))
    (roster : RosterRecord) (lines : List (List ℕ)) (ended : Ended D G) (old new : Option (List ℕ))
    → AreMeasured tells seen disk_faults racks measured
    → Ran seen may_leave disk_faults keys ring_faults
    (λ fates run. RunsBehind roster lines (keys_of keys measured) fates run) measured ended old new
    → Ran seen may_leave disk_faults keys ring_faults
    (λ fates run. RunsBehind roster lines (keys_of keys racks) fates run) racks ended old new
ran_behind {D} {G} tells seen may_leave disk_faults keys ring_faults racks measured roster lines ended old new first ran =
    record {
      run = ran.run;
      runs = subst (λ (ks : List Keys). RunsBehind roster lines ks ended.fates ran.run)
          (keys_measured tells seen disk_faults keys racks measured first) ran.runs;
      wrote = ran.wrote;
      left = left_behind tells seen may_leave disk_faults keys ring_faults racks measured ended.racks ran.run.happened
          ran.run.left first ran.left;
    }

pub handed_behind : {D G : Type 0} (tells : D → Bool) (seen : D → List ℕ) (disk_faults : D → ℕ) (ring_faults : G → ℕ)
    (needed : ℕ) (racks measured : List (Rack D G)) (ended : Ended D G)
    → AreMeasured tells seen disk_faults racks measured → drop needed measured ≡ drop needed racks
    → (IsBeforeWrite ended.status → ⊥) → AreHandedBack disk_faults ring_faults needed measured ended
    → AreHandedBack disk_faults ring_faults needed racks ended
handed_behind tells seen disk_faults ring_faults needed racks measured ended first further touched handed = record {
  back = back_behind tells seen disk_faults ring_faults racks measured ended.racks first handed.back;
  further = handed.further ∙ further;
  untouched = λ before. absurd (touched before);
  open_fault = λ place is. rose_behind tells seen disk_faults racks measured ended.racks place first
      (handed.open_fault place is);
  unrun = handed.unrun;
}

-- ---- exits before a world

pub handed_at_once : {D G : Type 0} (disk_faults : D → ℕ) (ring_faults : G → ℕ) (needed : ℕ) (racks : List (Rack D G))
    (ended : Ended D G) → ended.racks ≡ racks → ended.fates ≡ []
    → ((place : ℕ) → ended.status ≡ OpenFault place → ⊥) → AreHandedBack disk_faults ring_faults needed racks ended
handed_at_once {D} {G} disk_faults ring_faults needed racks ended back none opened = record {
  back = subst (λ (rs : List (Rack D G)). AreBack disk_faults ring_faults racks rs) (sym back)
      (same_back disk_faults ring_faults racks);
  further = ap (drop needed) back;
  untouched = λ before. back;
  open_fault = λ place is. absurd (opened place is);
  unrun = λ before. none;
}

-- a run without platforms leaves nothing on the racks
pub ran_at_once : {D G : Type 0} (seen : D → List ℕ) (may_leave : D → List ℕ → Type 0) (disk_faults : D → ℕ)
    (keys : G → Keys) (ring_faults : G → ℕ) (IsRun : List Fate → Run → Type 0) (racks : List (Rack D G))
    (ended : Ended D G) (end : runs.RunEnd) (status : Status) (now : Option (List ℕ))
    → ended.status ≡ status → ended.fates ≡ []
    → IsRun [] (record { happened = []; answers = []; bills = []; end = end; left = [] })
    → EndsAs status (λ out. out ≡ output_of (record { happened = []; answers = []; bills = []; end = end; left = [] })) now now
    → Ran seen may_leave disk_faults keys ring_faults IsRun racks ended now now
ran_at_once {D} {G} seen may_leave disk_faults keys ring_faults IsRun racks ended end status now is none goes ends =
    let run : Run = record { happened = []; answers = []; bills = []; end = end; left = [] } in
    record {
      run = run;
      runs = subst (λ (fs : List Fate). IsRun fs run) (sym none) goes;
      wrote = subst (λ (s : Status). EndsAs s (λ out. out ≡ output_of run) now now) (sym is) ends;
      left = λ place shard old new there was after. let no : None ≡ Some shard = there in cc no;
    }

-- what `drive` wrote, by whether the racks serve
pub drives_by : (script : List ℕ) (rings : List Keys) (lengths : List ℕ) (fates : List Fate) (status : Status)
    (given : ℕ) (old new : Option (List ℕ)) → given ≡ length lengths → IsDriveEnd status
    → IsCausedBy status (first_bad_line (segments_of 10 script)) given (racks_for (segments_of 10 script))
    (written_among (racks_for (segments_of 10 script)) lengths)
    → (serve (racks_for (segments_of 10 script)) lengths ≡ true → (run : Run) × RunsScript script rings fates run
    × EndsAs status (λ out. out ≡ output_of run) old new)
    → (serve (racks_for (segments_of 10 script)) lengths ≡ false → (fates ≡ []) × (new ≡ old))
    → EndsAs status (Drives script rings lengths fates) old new
drives_by script rings lengths fates status given old new given_is end caused ran refused =
    on (serve (racks_for (segments_of 10 script)) lengths) refl
  where
    on : (b : Bool) → serve (racks_for (segments_of 10 script)) lengths ≡ b
        → EndsAs status (Drives script rings lengths fates) old new
    on true served =
        let it = ran served in drives_run script rings lengths fates it.0 status old new served it.1 it.2
    on false unserved =
        let it = refused unserved in
        subst (λ (n : Option (List ℕ)). EndsAs status (Drives script rings lengths fates) old n) (sym it.1)
        (drives_nothing script rings lengths fates status given old given_is unserved it.0 end caused)

pub bad_is_no_open : (n place : ℕ) → BadScript n ≡ OpenFault place → ⊥
bad_is_no_open n place is = cc is

pub memory_is_no_open : (place : ℕ) → NoMemory ≡ OpenFault place → ⊥
memory_is_no_open place is = cc is
