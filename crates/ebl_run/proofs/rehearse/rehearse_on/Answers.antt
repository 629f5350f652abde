use Rattle.std.proofs.Common.{◌≡◌, ◌≤◌, ◌*◌, ◌++◌, ◌∙◌, ℕ, List, None, drop, length, take, sym, ap, subst, arith}
use Rattle.std.specs.Prelude.{reverse}
use Rattle.std.proofs.lemmas.List.{length-map}
use Rattle.party_roster.specs.RosterRecord.{RosterRecord}
use Rattle.platform_world.specs.declared.fate.Fate.{Fate}
use Rattle.platform_world.specs.Opening.{AreBlank, RoseAt}
use Rattle.platform_world.specs.World.{WorldRecord, opening}
use Rattle.rehearsal.specs.Roster.{made_roster}
use Rattle.rehearsal.specs.Run.{Rehearses, fates_of}
use Rattle.ebl_run.specs.Drive.{racks_needed}
use Rattle.ebl_run.specs.Racks.{AreBack, keys_of, lengths_of, status_by}
use Rattle.ebl_run.specs.Status.{IsAfterOpen, IsBeforeRun, IsBeforeWrite, IsCausedBy, IsRehearsalEnd}
use Rattle.ebl_run.specs.declared.status.Status.{Status}
use Rattle.ebl_run.proofs.DriveLemmas.{after_open_touched, after_open_written, serve_blank, serve_enough, unopened_at, unopened_caused, unopened_put, unopened_untouched}
use Rattle.ebl_run.proofs.Measuring.{blank_racks}
use Rattle.ebl_run.proofs.RehearseLemmas.{IsSummed, caused_plainly, if_ok, on_err, rehearsal_ends, rehearsed, rehearsed_ends, rehearsed_good, rehearsed_nothing, unopened_nothing, unopened_rehearsal_ends}
use Rattle.ebl_run.proofs.Worlds.{back_from_opening, back_from_shards, further_from_shards, left_on_racks}
use Rattle.ebl_run.proofs.rehearse.rehearse_on.Goals as goal

pub open-requires-clause-racks : goal.open-requires-clause-racks
open-requires-clause-racks g c =
    let lengths = lengths_of g.D.Disk.seen c.args.racks.items in
    let enough = serve_enough (racks_needed made_roster) lengths c.requires.serve in
    let same : length c.args.roster.platforms ≡ length made_roster.platforms =
    ap (λ (r : RosterRecord). length r.platforms) c.requires.roster in
    omega (arith, enough, same, length-map c.args.racks.items (λ rack. length (g.D.Disk.seen rack.disk)))

pub open-requires-clause-blank : goal.open-requires-clause-blank
open-requires-clause-blank g c =
    subst (λ (r : RosterRecord). AreBlank g.D.Disk.tells g.D.Disk.seen (take (16 * length r.platforms) c.args.racks.items)) (sym c.requires.roster)
    (blank_racks g.D.Disk.tells g.D.Disk.seen g.D.Disk.faults c.args.racks.items (racks_needed made_roster)
    (serve_blank (racks_needed made_roster) (lengths_of g.D.Disk.seen c.args.racks.items) c.requires.serve)
    c.requires.told)

pub returns-in-Ok-clause-rehearsed : goal.returns-in-Ok-clause-rehearsed
returns-in-Ok-clause-rehearsed g c =
    let rings = keys_of g.G.KeyRing.keys c.args.racks.items in
    let after = c.rehearse-world.result.0 in
    let opened = c.in-Ok.ensures.opening ∙ ap (λ (r : RosterRecord). opening r rings) c.requires.roster in
    rehearsed g.D.Disk.seen g.D.Disk.may_leave g.D.Disk.faults g.G.KeyRing.keys g.G.KeyRing.faults
    c.args.seed c.args.bills c.args.steps c.args.racks.items c.close.result c.rehearse-world.result.1 c.put_if_any-status.result
    (g.K.Sink.written c.args.sink.now) (g.K.Sink.written c.put_if_any-status.new.sink) c.close.ensures.status
    (if_ok _
    (λ (line : List ℕ). IsSummed g.D.Disk.seen g.D.Disk.may_leave g.D.Disk.faults g.G.KeyRing.keys g.G.KeyRing.faults
    c.args.seed c.args.bills c.args.steps c.args.racks.items c.close.result line)
    c.rehearse-world.result.1 c.rehearse-world.ensures.line
    (λ line sums. record {
      run = sums.run;
      goes = subst (λ (w : WorldRecord). Rehearses c.args.seed c.args.bills c.args.steps w sums.run) opened sums.goes;
      whole = sums.whole;
      line_is = sums.line_is;
      fates_are = c.close.ensures.fates ∙ sums.fates_are
          ∙ ap (λ (fs : List Fate). fs ++ fates_of sums.run.happened) c.in-Ok.ensures.fates;
      left = left_on_racks g.D.Disk.seen g.D.Disk.may_leave g.D.Disk.faults g.G.KeyRing.keys g.G.KeyRing.faults
          c.args.racks.items c.close.result.racks (reverse after.platforms.spare) after.platforms.roster.platforms
          c.in-Ok.world.platforms.shards after.platforms.shards sums.run.happened sums.run.last.platforms
          (ap (λ (w : WorldRecord). w.platforms) sums.last_is) c.close.ensures.racks c.in-Ok.ensures.shards sums.disks
          sums.rings c.close.ensures.hold;
    }))
    c.put_if_any-status.ensures.ok
    (on_err c.rehearse-world.result.1 (λ it. (it.0, ap g.K.Sink.written it.1)) c.put_if_any-status.ensures.short)

pub returns-in-Ok-clause-cause : goal.returns-in-Ok-clause-cause
returns-in-Ok-clause-cause g c =
    let lengths = lengths_of g.D.Disk.seen c.args.racks.items in
    let enough = serve_enough (racks_needed made_roster) lengths c.requires.serve in
    let given : racks_needed made_roster ≤ length c.args.racks.items =
    omega (arith, enough, length-map c.args.racks.items (λ rack. length (g.D.Disk.seen rack.disk))) in
    let old = g.K.Sink.written c.args.sink.now in
    let new = g.K.Sink.written c.put_if_any-status.new.sink in
    let short = on_err c.rehearse-world.result.1 (λ it. (it.0, ap g.K.Sink.written it.1)) c.put_if_any-status.ensures.short in
    subst (λ (s : Status). IsCausedBy s None (length c.args.racks.items) (racks_needed made_roster) None)
    (sym c.close.ensures.status)
    (caused_plainly c.put_if_any-status.result (length c.args.racks.items) (racks_needed made_roster) given
    (rehearsed_ends c.rehearse-world.result.1 c.put_if_any-status.result old new c.put_if_any-status.ensures.ok short)
    (rehearsed_good c.rehearse-world.result.1 c.put_if_any-status.result old new c.put_if_any-status.ensures.ok short))

pub returns-in-Ok-clause-racks : goal.returns-in-Ok-clause-racks
returns-in-Ok-clause-racks g c =
    let lengths = lengths_of g.D.Disk.seen c.args.racks.items in
    let enough = serve_enough (racks_needed made_roster) lengths c.requires.serve in
    let given : racks_needed made_roster ≤ length c.args.racks.items =
    omega (arith, enough, length-map c.args.racks.items (λ rack. length (g.D.Disk.seen rack.disk))) in
    let old = g.K.Sink.written c.args.sink.now in
    let new = g.K.Sink.written c.put_if_any-status.new.sink in
    let short = on_err c.rehearse-world.result.1 (λ it. (it.0, ap g.K.Sink.written it.1)) c.put_if_any-status.ensures.short in
    let after_open = rehearsed_ends c.rehearse-world.result.1 c.put_if_any-status.result old new c.put_if_any-status.ensures.ok short in
    let needed : 16 * length c.args.roster.platforms ≡ racks_needed made_roster =
    ap (λ (r : RosterRecord). 16 * length r.platforms) c.requires.roster in
    let after = c.rehearse-world.result.0 in
    let spare = reverse after.platforms.spare in
    let spare_is = ap reverse c.rehearse-world.ensures.spare ∙ c.in-Ok.ensures.spare
    ∙ ap (λ (n : ℕ). drop n c.args.racks.items) needed in
    let opened : length c.in-Ok.world.platforms.shards ≡ racks_needed made_roster = c.in-Ok.ensures.count ∙ needed in
    record {
      back = back_from_shards g.D.Disk.seen g.D.Disk.may_leave g.D.Disk.faults g.G.KeyRing.keys g.G.KeyRing.faults
          (λ k. 0) (λ k. 0) c.args.racks.items c.close.result.racks spare (racks_needed made_roster)
          c.in-Ok.world.platforms.shards after.platforms.shards opened given c.close.ensures.racks spare_is
          c.in-Ok.ensures.shards c.rehearse-world.ensures.disks c.rehearse-world.ensures.rings;
      further = further_from_shards g.D.Disk.seen g.D.Disk.may_leave g.D.Disk.faults g.G.KeyRing.keys g.G.KeyRing.faults
          c.args.racks.items c.close.result.racks spare (racks_needed made_roster) after.platforms.shards
          (c.rehearse-world.ensures.disks.length_is ∙ opened) c.close.ensures.racks spare_is;
      untouched = λ before. absurd (after_open_touched c.put_if_any-status.result after_open
          (subst IsBeforeWrite c.close.ensures.status before));
      open_fault = λ place is. absurd (subst IsAfterOpen (sym c.close.ensures.status ∙ is) after_open);
      unrun = λ before. absurd (after_open_written c.put_if_any-status.result after_open
          (subst IsBeforeRun c.close.ensures.status before));
    }

pub returns-in-Ok-clause-touched : goal.returns-in-Ok-clause-touched
returns-in-Ok-clause-touched g c before =
    let short = on_err c.rehearse-world.result.1 (λ it. (it.0, ap g.K.Sink.written it.1)) c.put_if_any-status.ensures.short in
    after_open_touched c.put_if_any-status.result
    (rehearsed_ends c.rehearse-world.result.1 c.put_if_any-status.result (g.K.Sink.written c.args.sink.now)
    (g.K.Sink.written c.put_if_any-status.new.sink) c.put_if_any-status.ensures.ok short)
    (subst IsBeforeWrite c.close.ensures.status before)

pub returns-in-Ok-clause-end : goal.returns-in-Ok-clause-end
returns-in-Ok-clause-end g c =
    let old = g.K.Sink.written c.args.sink.now in
    let new = g.K.Sink.written c.put_if_any-status.new.sink in
    let short = on_err c.rehearse-world.result.1 (λ it. (it.0, ap g.K.Sink.written it.1)) c.put_if_any-status.ensures.short in
    subst IsRehearsalEnd (sym c.close.ensures.status)
    (rehearsal_ends c.put_if_any-status.result
    (rehearsed_ends c.rehearse-world.result.1 c.put_if_any-status.result old new c.put_if_any-status.ensures.ok short)
    (rehearsed_good c.rehearse-world.result.1 c.put_if_any-status.result old new c.put_if_any-status.ensures.ok short))

pub returns-in-Err-clause-rehearsed : goal.returns-in-Err-clause-rehearsed
returns-in-Err-clause-rehearsed g c =
    let now = g.K.Sink.written c.args.sink.now in
    rehearsed_nothing g.D.Disk.seen g.D.Disk.may_leave g.D.Disk.faults g.G.KeyRing.keys g.G.KeyRing.faults
    c.args.seed c.args.bills c.args.steps c.args.racks.items c.at_once.result (status_by c.in-Err.fault) now now
    (c.at_once.ensures.status ∙ c.status_by.ensures) (unopened_nothing c.in-Err.fault now)
    (unopened_put c.in-Err.fault)

pub returns-in-Err-clause-cause : goal.returns-in-Err-clause-cause
returns-in-Err-clause-cause g c =
    let lengths = lengths_of g.D.Disk.seen c.args.racks.items in
    let enough = serve_enough (racks_needed made_roster) lengths c.requires.serve in
    let given : racks_needed made_roster ≤ length c.args.racks.items =
    omega (arith, enough, length-map c.args.racks.items (λ rack. length (g.D.Disk.seen rack.disk))) in
    subst (λ (s : Status). IsCausedBy s None (length c.args.racks.items) (racks_needed made_roster) None)
    (sym (c.at_once.ensures.status ∙ c.status_by.ensures))
    (unopened_caused c.in-Err.fault None (length c.args.racks.items) (racks_needed made_roster) given)

pub returns-in-Err-clause-racks : goal.returns-in-Err-clause-racks
returns-in-Err-clause-racks g c =
    let status = c.at_once.ensures.status ∙ c.status_by.ensures in
    let further = subst (λ (r : RosterRecord). drop (racks_needed r) c.in-Err.racks.items ≡ drop (racks_needed r) c.args.racks.items)
    c.requires.roster c.in-Err.ensures.further in
    record {
      back = subst (λ rs. AreBack g.D.Disk.faults g.G.KeyRing.faults c.args.racks.items rs) (sym c.at_once.ensures.racks)
          (back_from_opening g.D.Disk.faults g.G.KeyRing.faults c.args.racks.items c.in-Err.racks.items c.in-Err.ensures.back);
      further = ap (drop (racks_needed made_roster)) c.at_once.ensures.racks ∙ further;
      untouched = λ before. absurd (unopened_untouched c.in-Err.fault (subst IsBeforeWrite status before));
      open_fault = λ place is.
          subst (λ rs. RoseAt g.D.Disk.faults place c.args.racks.items rs) (sym c.at_once.ensures.racks)
          (c.in-Err.ensures.failed place (unopened_at c.in-Err.fault place (sym status ∙ is)));
      unrun = λ before. c.at_once.ensures.fates;
    }

pub returns-in-Err-clause-touched : goal.returns-in-Err-clause-touched
returns-in-Err-clause-touched g c before =
    unopened_untouched c.in-Err.fault (subst IsBeforeWrite (c.at_once.ensures.status ∙ c.status_by.ensures) before)

pub returns-in-Err-clause-end : goal.returns-in-Err-clause-end
returns-in-Err-clause-end g c =
    subst IsRehearsalEnd (sym (c.at_once.ensures.status ∙ c.status_by.ensures)) (unopened_rehearsal_ends c.in-Err.fault)

pub returns-in-Err-clause-write_fault : goal.returns-in-Err-clause-write_fault
returns-in-Err-clause-write_fault g c is =
    absurd (unopened_put c.in-Err.fault (sym (c.at_once.ensures.status ∙ c.status_by.ensures) ∙ is))
