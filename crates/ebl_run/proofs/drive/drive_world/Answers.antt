use Rattle.std.proofs.Common.{◌≡◌, ◌≤◌, ◌++◌, ◌∙◌, inl, List, Some, None, drop, length, refl, sym, ap, subst, arith}
use Rattle.std.specs.Prelude.{reverse}
use Rattle.std.proofs.lemmas.List.{length-map}
use Rattle.ebl_base.specs.Segments.{segments_of}
use Rattle.platform_world.specs.declared.fate.Fate.{Fate}
use Rattle.platform_world.specs.World.{WorldRecord}
use Rattle.ebl_run.specs.Drive.{first_bad, output_of, racks_needed}
use Rattle.platform_world.specs.Opening.{RoseAt}
use Rattle.ebl_run.specs.Safe.{RunsBehind}
use Rattle.ebl_run.specs.Racks.{AreBack, keys_of, lengths_of}
use Rattle.ebl_run.specs.Status.{EndsAs, IsAfterOpen, IsBeforeRun, IsBeforeWrite, IsCausedBy, IsDriveEnd}
use Rattle.ebl_run.specs.declared.status.Status.{Status}
use Rattle.ebl_run.proofs.DriveLemmas.{after_open_ends, after_open_touched, after_open_written, caused_with, never_begun, runs_opened, serve_blank, serve_enough, unopened_at, unopened_caused, unopened_ends, unopened_put, unopened_untouched, unopened_wrote}
use Rattle.ebl_run.proofs.Measuring.{blank_racks}
use Rattle.ebl_run.proofs.Worlds.{back_from_opening, back_from_shards, further_from_shards, left_on_racks}
use Rattle.ebl_run.proofs.drive.drive_world.Goals as goal

pub open-requires-clause-racks : goal.open-requires-clause-racks
open-requires-clause-racks g c =
    let lengths = lengths_of g.D.Disk.seen c.args.racks.items in
    let enough = serve_enough (racks_needed c.args.roster) lengths c.requires.serve in
    omega (arith, enough, length-map c.args.racks.items (λ rack. length (g.D.Disk.seen rack.disk)))

pub open-requires-clause-blank : goal.open-requires-clause-blank
open-requires-clause-blank g c =
    blank_racks g.D.Disk.tells g.D.Disk.seen g.D.Disk.faults c.args.racks.items (racks_needed c.args.roster)
    (serve_blank (racks_needed c.args.roster) (lengths_of g.D.Disk.seen c.args.racks.items) c.requires.serve)
    c.requires.told

pub returns-in-Ok-clause-ran : goal.returns-in-Ok-clause-ran
returns-in-Ok-clause-ran g c =
    let ran = c.run_events-status.ensures.ran in
    let after = c.run_events-status.new.world in
    let fates_are : c.close.result.fates ≡ ran.fates =
    c.close.ensures.fates ∙ ran.fates_are ∙ ap (λ (fs : List Fate). fs ++ ran.fates) c.in-Ok.ensures.fates in
    record {
      run = ran.run;
      runs = runs_opened c.args.roster (segments_of 10 c.args.lines.now) (keys_of g.G.KeyRing.keys c.args.racks.items) _
          ran.fates c.close.result.fates ran.run c.in-Ok.ensures.opening fates_are ran.runs;
      wrote = subst (λ (s : Status). EndsAs s (λ out. out ≡ output_of ran.run) (g.K.Sink.written c.args.sink.now)
          (g.K.Sink.written c.run_events-status.new.sink)) (sym c.close.ensures.status) ran.wrote;
      left = left_on_racks g.D.Disk.seen g.D.Disk.may_leave g.D.Disk.faults g.G.KeyRing.keys g.G.KeyRing.faults
          c.args.racks.items c.close.result.racks (reverse after.platforms.spare) after.platforms.roster.platforms
          c.in-Ok.world.platforms.shards after.platforms.shards ran.run.happened ran.run.left ran.left
          c.close.ensures.racks c.in-Ok.ensures.shards ran.disks ran.rings c.close.ensures.hold;
    }

pub returns-in-Ok-clause-cause : goal.returns-in-Ok-clause-cause
returns-in-Ok-clause-cause g c =
    let lengths = lengths_of g.D.Disk.seen c.args.racks.items in
    let enough = serve_enough (racks_needed c.args.roster) lengths c.requires.serve in
    let given : racks_needed c.args.roster ≤ length c.args.racks.items =
    omega (arith, enough, length-map c.args.racks.items (λ rack. length (g.D.Disk.seen rack.disk))) in
    let caused = subst (λ (w : WorldRecord). IsCausedBy c.run_events-status.result (first_bad w.roster 1 (segments_of 10 c.args.lines.now)) 0 0 None)
    c.in-Ok.ensures.opening c.run_events-status.ensures.cause in
    subst (λ (s : Status). IsCausedBy s (first_bad c.args.roster 1 (segments_of 10 c.args.lines.now)) (length c.args.racks.items)
    (racks_needed c.args.roster) None) (sym c.close.ensures.status)
    (caused_with c.run_events-status.result (first_bad c.args.roster 1 (segments_of 10 c.args.lines.now)) (length c.args.racks.items)
    (racks_needed c.args.roster) given c.run_events-status.ensures.after_open caused)

pub returns-in-Ok-clause-racks : goal.returns-in-Ok-clause-racks
returns-in-Ok-clause-racks g c =
    let lengths = lengths_of g.D.Disk.seen c.args.racks.items in
    let enough = serve_enough (racks_needed c.args.roster) lengths c.requires.serve in
    let given : racks_needed c.args.roster ≤ length c.args.racks.items =
    omega (arith, enough, length-map c.args.racks.items (λ rack. length (g.D.Disk.seen rack.disk))) in
    let ran = c.run_events-status.ensures.ran in
    let spare = reverse c.run_events-status.new.world.platforms.spare in
    let spare_is = ap reverse c.run_events-status.ensures.spare ∙ c.in-Ok.ensures.spare in
    let many : length c.run_events-status.new.world.platforms.shards ≡ racks_needed c.args.roster =
    ran.disks.length_is ∙ c.in-Ok.ensures.count in
    record {
      back = back_from_shards g.D.Disk.seen g.D.Disk.may_leave g.D.Disk.faults g.G.KeyRing.keys g.G.KeyRing.faults _ _
          c.args.racks.items c.close.result.racks spare (racks_needed c.args.roster) c.in-Ok.world.platforms.shards
          c.run_events-status.new.world.platforms.shards c.in-Ok.ensures.count given c.close.ensures.racks spare_is
          c.in-Ok.ensures.shards ran.disks ran.rings;
      further = further_from_shards g.D.Disk.seen g.D.Disk.may_leave g.D.Disk.faults g.G.KeyRing.keys g.G.KeyRing.faults
          c.args.racks.items c.close.result.racks spare (racks_needed c.args.roster)
          c.run_events-status.new.world.platforms.shards many c.close.ensures.racks spare_is;
      untouched = λ before. absurd (after_open_touched c.run_events-status.result c.run_events-status.ensures.after_open
          (subst IsBeforeWrite c.close.ensures.status before));
      open_fault = λ place is. absurd (subst IsAfterOpen (sym c.close.ensures.status ∙ is) c.run_events-status.ensures.after_open);
      unrun = λ before. absurd (after_open_written c.run_events-status.result c.run_events-status.ensures.after_open
          (subst IsBeforeRun c.close.ensures.status before));
    }

pub returns-in-Ok-clause-end : goal.returns-in-Ok-clause-end
returns-in-Ok-clause-end g c =
    subst (λ (s : Status). IsDriveEnd s) (sym c.close.ensures.status)
    (after_open_ends c.run_events-status.result c.run_events-status.ensures.after_open)

pub returns-in-Ok-clause-touched : goal.returns-in-Ok-clause-touched
returns-in-Ok-clause-touched g c before =
    (after_open_touched c.run_events-status.result c.run_events-status.ensures.after_open
    (subst IsBeforeWrite c.close.ensures.status before))

pub returns-in-Err-clause-cause : goal.returns-in-Err-clause-cause
returns-in-Err-clause-cause g c =
    let lengths = lengths_of g.D.Disk.seen c.args.racks.items in
    let enough = serve_enough (racks_needed c.args.roster) lengths c.requires.serve in
    let given : racks_needed c.args.roster ≤ length c.args.racks.items =
    omega (arith, enough, length-map c.args.racks.items (λ rack. length (g.D.Disk.seen rack.disk))) in
    let status = c.at_once.ensures.status ∙ c.status_by.ensures in
    subst (λ (s : Status). IsCausedBy s (first_bad c.args.roster 1 (segments_of 10 c.args.lines.now)) (length c.args.racks.items)
    (racks_needed c.args.roster) None) (sym status)
    (unopened_caused c.in-Err.fault (first_bad c.args.roster 1 (segments_of 10 c.args.lines.now)) (length c.args.racks.items)
    (racks_needed c.args.roster) given)

pub returns-in-Err-clause-ran : goal.returns-in-Err-clause-ran
returns-in-Err-clause-ran g c =
    let status = c.at_once.ensures.status ∙ c.status_by.ensures in
    let now = g.K.Sink.written c.args.sink.now in
    record {
      run = never_begun;
      runs = subst (λ (fs : List Fate). RunsBehind c.args.roster (segments_of 10 c.args.lines.now)
          (keys_of g.G.KeyRing.keys c.args.racks.items) fs never_begun) (sym c.at_once.ensures.fates) (inl (refl, refl));
      wrote = subst (λ (s : Status). EndsAs s (λ out. out ≡ output_of never_begun) now now) (sym status)
          (unopened_wrote c.in-Err.fault now);
      left = λ place shard old new is was after. let no : None ≡ Some shard = is in cc no;
    }

pub returns-in-Err-clause-racks : goal.returns-in-Err-clause-racks
returns-in-Err-clause-racks g c =
    let status = c.at_once.ensures.status ∙ c.status_by.ensures in
    record {
      back = subst (λ rs. AreBack g.D.Disk.faults g.G.KeyRing.faults c.args.racks.items rs) (sym c.at_once.ensures.racks)
          (back_from_opening g.D.Disk.faults g.G.KeyRing.faults c.args.racks.items c.in-Err.racks.items c.in-Err.ensures.back);
      further = ap (drop (racks_needed c.args.roster)) c.at_once.ensures.racks ∙ c.in-Err.ensures.further;
      untouched = λ before. absurd (unopened_untouched c.in-Err.fault (subst IsBeforeWrite status before));
      open_fault = λ place is.
          subst (λ rs. RoseAt g.D.Disk.faults place c.args.racks.items rs) (sym c.at_once.ensures.racks)
          (c.in-Err.ensures.failed place (unopened_at c.in-Err.fault place (sym status ∙ is)));
      unrun = λ before. c.at_once.ensures.fates;
    }

pub returns-in-Err-clause-touched : goal.returns-in-Err-clause-touched
returns-in-Err-clause-touched g c before =
    unopened_untouched c.in-Err.fault (subst IsBeforeWrite (c.at_once.ensures.status ∙ c.status_by.ensures) before)

pub returns-in-Err-clause-end : goal.returns-in-Err-clause-end
returns-in-Err-clause-end g c =
    subst IsDriveEnd (sym (c.at_once.ensures.status ∙ c.status_by.ensures)) (unopened_ends c.in-Err.fault)

pub returns-in-Err-clause-write_fault : goal.returns-in-Err-clause-write_fault
returns-in-Err-clause-write_fault g c is =
    absurd (unopened_put c.in-Err.fault (sym (c.at_once.ensures.status ∙ c.status_by.ensures) ∙ is))
