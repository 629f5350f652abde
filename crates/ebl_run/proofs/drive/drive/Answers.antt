use Rattle.std.proofs.Common.{◌∙◌, ℕ, length, refl, sym, ap, subst}
use Rattle.std.specs.Prelude.{Option}
use Rattle.std.proofs.KnownBytes.{Appends-nil}
use Rattle.std.proofs.lemmas.List.{length-map}
use Rattle.ebl_base.specs.Segments.{segments_of}
use Rattle.platform_world.specs.Run as runs
use Rattle.platform_world.specs.Run.{RunsScript}
use Rattle.ebl_run.specs.Drive.{first_bad_line, output_of, racks_for, racks_needed}
use Rattle.ebl_run.specs.Racks.{keys_of, lengths_of, written_among}
use Rattle.ebl_run.specs.Safe.{AreHandedBack}
use Rattle.ebl_run.specs.Status.{IsCausedBy, IsDriveEnd}
use Rattle.ebl_run.specs.declared.status.Status.{Status}
use Rattle.ebl_run.specs.declared.status.Status.TheVariants.{BadScript, NoMemory}
use Rattle.ebl_run.proofs.DriveLemmas.{bad_at_once, bad_behind, bad_empty, bad_first_line, bad_is_no_open, drives_by, handed_at_once, memory_is_no_open, never_begun, racks_behind, ran_at_once, runs_behind_roster, runs_empty, runs_no_roster, stops_at_once}
use Rattle.ebl_run.proofs.drive.drive.Goals as goal

pub returns-in_default-clause-cause : goal.returns-in_default-clause-cause
returns-in_default-clause-cause g c =
    subst (λ (s : Status). IsCausedBy s (first_bad_line (segments_of 10 c.args.script.now)) (length c.args.racks.items)
    (racks_for (segments_of 10 c.args.script.now)) (written_among (racks_for (segments_of 10 c.args.script.now)) (lengths_of g.D.Disk.seen c.args.racks.items)))
    (sym c.at_once.ensures.status) (bad_empty c.args.script.now c.in_default.ensures.first)

pub returns-in_default-clause-ran : goal.returns-in_default-clause-ran
returns-in_default-clause-ran g c served =
    ran_at_once g.D.Disk.seen g.D.Disk.may_leave g.D.Disk.faults g.G.KeyRing.keys g.G.KeyRing.faults
    (λ fates run. RunsScript c.args.script.now (keys_of g.G.KeyRing.keys c.args.racks.items) fates run)
    c.args.racks.items c.at_once.result (runs.bad_line 1) (BadScript 1) (g.K.Sink.written c.args.sink.now)
    c.at_once.ensures.status c.at_once.ensures.fates
    (runs_empty c.args.script.now (keys_of g.G.KeyRing.keys c.args.racks.items) c.in_default.ensures.first)
    (output_of bad_at_once, refl, refl, Appends-nil (g.K.Sink.written c.args.sink.now))

pub returns-in_default-clause-ends : goal.returns-in_default-clause-ends
returns-in_default-clause-ends g c =
    let now = g.K.Sink.written c.args.sink.now in
    let lengths = lengths_of g.D.Disk.seen c.args.racks.items in
    let rings = keys_of g.G.KeyRing.keys c.args.racks.items in
    drives_by c.args.script.now rings lengths c.at_once.result.fates c.at_once.result.status (length c.args.racks.items)
    now now (sym (length-map c.args.racks.items (λ rack. length (g.D.Disk.seen rack.disk))))
    (subst IsDriveEnd (sym c.at_once.ensures.status) tt) (returns-in_default-clause-cause g c)
    (λ served. let ran = returns-in_default-clause-ran g c served in (ran.run, ran.runs, ran.wrote))
    (λ unserved. (c.at_once.ensures.fates, refl))

pub returns-in_default-clause-racks : goal.returns-in_default-clause-racks
returns-in_default-clause-racks g c =
    handed_at_once g.D.Disk.faults g.G.KeyRing.faults (racks_for (segments_of 10 c.args.script.now)) c.args.racks.items
    c.at_once.result c.at_once.ensures.racks c.at_once.ensures.fates
    (λ place is. bad_is_no_open 1 place (sym c.at_once.ensures.status ∙ is))

pub returns-in-Ok-None-clause-cause : goal.returns-in-Ok-None-clause-cause
returns-in-Ok-None-clause-cause g c =
    let is = rw (c.in-Ok-None.field-0-is) at c.in-Ok-None.ensures.roster in
    subst (λ (s : Status). IsCausedBy s (first_bad_line (segments_of 10 c.args.script.now)) (length c.args.racks.items)
    (racks_for (segments_of 10 c.args.script.now)) (written_among (racks_for (segments_of 10 c.args.script.now)) (lengths_of g.D.Disk.seen c.args.racks.items)))
    (sym c.at_once-in-Ok-None.ensures.status)
    (bad_first_line c.args.script.now c.in-Some.line.now (segments_of 10 c.in-Some.rest.now) c.in-Some.ensures.first (sym is))

pub returns-in-Ok-None-clause-ran : goal.returns-in-Ok-None-clause-ran
returns-in-Ok-None-clause-ran g c served =
    let is = rw (c.in-Ok-None.field-0-is) at c.in-Ok-None.ensures.roster in
    ran_at_once g.D.Disk.seen g.D.Disk.may_leave g.D.Disk.faults g.G.KeyRing.keys g.G.KeyRing.faults
    (λ fates run. RunsScript c.args.script.now (keys_of g.G.KeyRing.keys c.args.racks.items) fates run)
    c.args.racks.items c.at_once-in-Ok-None.result (runs.bad_line 1) (BadScript 1) (g.K.Sink.written c.args.sink.now)
    c.at_once-in-Ok-None.ensures.status c.at_once-in-Ok-None.ensures.fates
    (runs_no_roster c.args.script.now c.in-Some.line.now (segments_of 10 c.in-Some.rest.now)
    (keys_of g.G.KeyRing.keys c.args.racks.items) c.in-Some.ensures.first (sym is))
    (output_of bad_at_once, refl, refl, Appends-nil (g.K.Sink.written c.args.sink.now))

pub returns-in-Ok-None-clause-ends : goal.returns-in-Ok-None-clause-ends
returns-in-Ok-None-clause-ends g c =
    let now = g.K.Sink.written c.args.sink.now in
    let lengths = lengths_of g.D.Disk.seen c.args.racks.items in
    let rings = keys_of g.G.KeyRing.keys c.args.racks.items in
    drives_by c.args.script.now rings lengths c.at_once-in-Ok-None.result.fates c.at_once-in-Ok-None.result.status
    (length c.args.racks.items) now now (sym (length-map c.args.racks.items (λ rack. length (g.D.Disk.seen rack.disk))))
    (subst IsDriveEnd (sym c.at_once-in-Ok-None.ensures.status) tt) (returns-in-Ok-None-clause-cause g c)
    (λ served. let ran = returns-in-Ok-None-clause-ran g c served in (ran.run, ran.runs, ran.wrote))
    (λ unserved. (c.at_once-in-Ok-None.ensures.fates, refl))

pub returns-in-Ok-None-clause-racks : goal.returns-in-Ok-None-clause-racks
returns-in-Ok-None-clause-racks g c =
    handed_at_once g.D.Disk.faults g.G.KeyRing.faults (racks_for (segments_of 10 c.args.script.now)) c.args.racks.items
    c.at_once-in-Ok-None.result c.at_once-in-Ok-None.ensures.racks c.at_once-in-Ok-None.ensures.fates
    (λ place is. bad_is_no_open 1 place (sym c.at_once-in-Ok-None.ensures.status ∙ is))

pub returns-in-Err-clause-cause : goal.returns-in-Err-clause-cause
returns-in-Err-clause-cause g c =
    subst (λ (s : Status). IsCausedBy s (first_bad_line (segments_of 10 c.args.script.now)) (length c.args.racks.items)
    (racks_for (segments_of 10 c.args.script.now)) (written_among (racks_for (segments_of 10 c.args.script.now)) (lengths_of g.D.Disk.seen c.args.racks.items)))
    (sym c.at_once-in-Err.ensures.status) tt

pub returns-in-Err-clause-ran : goal.returns-in-Err-clause-ran
returns-in-Err-clause-ran g c served =
    ran_at_once g.D.Disk.seen g.D.Disk.may_leave g.D.Disk.faults g.G.KeyRing.keys g.G.KeyRing.faults
    (λ fates run. RunsScript c.args.script.now (keys_of g.G.KeyRing.keys c.args.racks.items) fates run)
    c.args.racks.items c.at_once-in-Err.result runs.stopped NoMemory (g.K.Sink.written c.args.sink.now)
    c.at_once-in-Err.ensures.status c.at_once-in-Err.ensures.fates
    (stops_at_once c.args.script.now (keys_of g.G.KeyRing.keys c.args.racks.items))
    (output_of never_begun, refl, refl, Appends-nil (g.K.Sink.written c.args.sink.now))

pub returns-in-Err-clause-ends : goal.returns-in-Err-clause-ends
returns-in-Err-clause-ends g c =
    let now = g.K.Sink.written c.args.sink.now in
    let lengths = lengths_of g.D.Disk.seen c.args.racks.items in
    let rings = keys_of g.G.KeyRing.keys c.args.racks.items in
    drives_by c.args.script.now rings lengths c.at_once-in-Err.result.fates c.at_once-in-Err.result.status
    (length c.args.racks.items) now now (sym (length-map c.args.racks.items (λ rack. length (g.D.Disk.seen rack.disk))))
    (subst IsDriveEnd (sym c.at_once-in-Err.ensures.status) tt) (returns-in-Err-clause-cause g c)
    (λ served. let ran = returns-in-Err-clause-ran g c served in (ran.run, ran.runs, ran.wrote))
    (λ unserved. (c.at_once-in-Err.ensures.fates, refl))

pub returns-in-Err-clause-racks : goal.returns-in-Err-clause-racks
returns-in-Err-clause-racks g c =
    handed_at_once g.D.Disk.faults g.G.KeyRing.faults (racks_for (segments_of 10 c.args.script.now)) c.args.racks.items
    c.at_once-in-Err.result c.at_once-in-Err.ensures.racks c.at_once-in-Err.ensures.fates
    (λ place is. memory_is_no_open place (sym c.at_once-in-Err.ensures.status ∙ is))

pub returns-in-Ok-Some-clause-cause : goal.returns-in-Ok-Some-clause-cause
returns-in-Ok-Some-clause-cause g c =
    let is = rw (c.in-Ok-Some.field-0-is) at c.in-Ok-Some.ensures.roster in
    let lengths = lengths_of g.D.Disk.seen c.args.racks.items in
    let needed = racks_behind c.args.script.now c.in-Some.line.now (segments_of 10 c.in-Some.rest.now) c.in-Ok-Some.roster
    c.in-Some.ensures.first (sym is) in
    let bad = bad_behind c.args.script.now c.in-Some.line.now (segments_of 10 c.in-Some.rest.now) c.in-Ok-Some.roster
    c.in-Some.ensures.first (sym is) in
    subst (λ (n : ℕ). IsCausedBy c.drive_roster.result.status (first_bad_line (segments_of 10 c.args.script.now)) (length c.args.racks.items) n (written_among n lengths)) (sym needed)
    (subst (λ (o : Option ℕ). IsCausedBy c.drive_roster.result.status o (length c.args.racks.items)
    (racks_needed c.in-Ok-Some.roster) (written_among (racks_needed c.in-Ok-Some.roster) lengths)) bad c.drive_roster.ensures.cause)

pub returns-in-Ok-Some-clause-ran : goal.returns-in-Ok-Some-clause-ran
returns-in-Ok-Some-clause-ran g c served =
    let is = rw (c.in-Ok-Some.field-0-is) at c.in-Ok-Some.ensures.roster in
    let lengths = lengths_of g.D.Disk.seen c.args.racks.items in
    let needed = racks_behind c.args.script.now c.in-Some.line.now (segments_of 10 c.in-Some.rest.now) c.in-Ok-Some.roster
    c.in-Some.ensures.first (sym is) in
    let ran = c.drive_roster.ensures.ran (rw needed at served) in
    record {
      run = ran.run;
      runs = runs_behind_roster c.args.script.now c.in-Some.line.now (segments_of 10 c.in-Some.rest.now) c.in-Ok-Some.roster
          (keys_of g.G.KeyRing.keys c.args.racks.items) c.drive_roster.result.fates ran.run c.in-Some.ensures.first
          (sym is) ran.runs;
      wrote = ran.wrote;
      left = ran.left;
    }

pub returns-in-Ok-Some-clause-ends : goal.returns-in-Ok-Some-clause-ends
returns-in-Ok-Some-clause-ends g c =
    let is = rw (c.in-Ok-Some.field-0-is) at c.in-Ok-Some.ensures.roster in
    let needed = racks_behind c.args.script.now c.in-Some.line.now (segments_of 10 c.in-Some.rest.now) c.in-Ok-Some.roster
    c.in-Some.ensures.first (sym is) in
    let lengths = lengths_of g.D.Disk.seen c.args.racks.items in
    let rings = keys_of g.G.KeyRing.keys c.args.racks.items in
    drives_by c.args.script.now rings lengths c.drive_roster.result.fates c.drive_roster.result.status
    (length c.args.racks.items) (g.K.Sink.written c.args.sink.now) (g.K.Sink.written c.drive_roster.new.sink)
    (sym (length-map c.args.racks.items (λ rack. length (g.D.Disk.seen rack.disk)))) c.drive_roster.ensures.end
    (returns-in-Ok-Some-clause-cause g c)
    (λ served. let ran = returns-in-Ok-Some-clause-ran g c served in (ran.run, ran.runs, ran.wrote))
    (λ unserved. let it = c.drive_roster.ensures.refused (rw needed at unserved) in (it.0, ap g.K.Sink.written it.1))

pub returns-in-Ok-Some-clause-racks : goal.returns-in-Ok-Some-clause-racks
returns-in-Ok-Some-clause-racks g c =
    let is = rw (c.in-Ok-Some.field-0-is) at c.in-Ok-Some.ensures.roster in
    let needed = racks_behind c.args.script.now c.in-Some.line.now (segments_of 10 c.in-Some.rest.now) c.in-Ok-Some.roster
    c.in-Some.ensures.first (sym is) in
    subst (λ (n : ℕ). AreHandedBack g.D.Disk.faults g.G.KeyRing.faults n c.args.racks.items c.drive_roster.result) (sym needed)
    c.drive_roster.ensures.racks
