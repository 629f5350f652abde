use Rattle.std.proofs.Common.{◌≡◌, ◌∙◌, inl, List, ℕ, None, Some, drop, length, sym, ap, subst, true}
use Rattle.std.specs.Prelude.{IfSome, Option}
use Rattle.ebl_base.specs.Segments.{segments_of}
use Rattle.platform_world.specs.Run as runs
use Rattle.platform_world.specs.Run.{RunsScript}
use Rattle.rehearsal.specs.Roster.{made_roster}
use Rattle.ebl_run.specs.Command.{command_of}
use Rattle.ebl_run.specs.Drive.{first_bad_line, racks_for, racks_needed, serve}
use Rattle.ebl_run.specs.Racks.{AreBack, keys_of, lengths_of, written_among}
use Rattle.ebl_run.specs.Safe.{RanSafely}
use Rattle.ebl_run.specs.Status.{EndsAs, IsCausedBy, IsEndOf, MayEnd, Outputs, status_for}
use Rattle.ebl_run.specs.declared.command.Command.{Command}
use Rattle.ebl_run.specs.declared.command.Command.TheVariants.{Rehearse}
use Rattle.ebl_run.specs.declared.status.Status.{Status}
use Rattle.ebl_run.proofs.DriveLemmas.{ran_at_once, stops_at_once}
use Rattle.ebl_run.proofs.ReadLemmas.{ends_too_long, ends_unread, ends_used, further_by, further_same, if_told, of_script, reads_nothing, unread_caused, unread_ends, unread_no_open, unread_no_put, unread_nothing, unread_ran, unread_wrote}
use Rattle.ebl_run.proofs.RehearseLemmas.{rehearsed_nothing}
use Rattle.ebl_run.proofs.SafeLemmas.{ran_safely}
use Rattle.ebl_run.proofs.Worlds.{same_back}
use Rattle.ebl_run.proofs.run.run_ebl.Goals as goal

pub returns-in-Ok-clause-safe : goal.returns-in-Ok-clause-safe
returns-in-Ok-clause-safe g c =
    of_script (λ (script : List ℕ). serve (racks_for (segments_of 10 script)) (lengths_of g.D.Disk.seen c.args.racks.items) ≡ true
    → RanSafely g.D.Disk.seen g.D.Disk.may_leave g.D.Disk.faults g.G.KeyRing.keys g.G.KeyRing.faults script c.args.racks.items
    c.run_command.result (g.K.Sink.written c.args.sink.now) (g.K.Sink.written c.run_command.new.sink))
    _ c.in-Some.command (g.S.Source.left c.args.source.now) c.in-Ok.text.items c.in-Some.ensures.command c.in-Ok.ensures.ok
    (λ drives served. ran_safely c.every_run_of_a_script_stays_safe.ensures g.D.Disk.seen g.D.Disk.may_leave g.D.Disk.faults
    g.G.KeyRing.keys g.G.KeyRing.faults c.in-Ok.text.items c.args.racks.items c.run_command.result
    (g.K.Sink.written c.args.sink.now) (g.K.Sink.written c.run_command.new.sink) served
    ((rw c.as_slice.ensures.value at c.run_command.ensures.ran) drives served))

pub returns-in-Ok-clause-further : goal.returns-in-Ok-clause-further
returns-in-Ok-clause-further g c =
    further_by (λ (n : ℕ). drop n c.run_command.result.racks ≡ drop n c.args.racks.items)
    _ c.in-Some.command (g.S.Source.left c.args.source.now) c.in-Ok.text.items c.in-Some.ensures.command c.in-Ok.ensures.ok
    (rw c.as_slice.ensures.value at c.run_command.ensures.racks).further

pub returns-in-Ok-clause-usage : goal.returns-in-Ok-clause-usage
returns-in-Ok-clause-usage g c = (
  λ is. absurd (ends_used c.in-Some.command (subst (IsEndOf c.in-Some.command) is c.run_command.ensures.end)),
  λ none. let no : Some c.in-Some.command ≡ None = c.in-Some.ensures.command ∙ none in cc no,
)

pub returns-in-Ok-clause-read_fault : goal.returns-in-Ok-clause-read_fault
returns-in-Ok-clause-read_fault g c is =
    absurd (ends_unread c.in-Some.command (subst (IsEndOf c.in-Some.command) is c.run_command.ensures.end))

pub returns-in-Ok-clause-too_long : goal.returns-in-Ok-clause-too_long
returns-in-Ok-clause-too_long g c is =
    absurd (ends_too_long c.in-Some.command (subst (IsEndOf c.in-Some.command) is c.run_command.ensures.end))

pub returns-in-Ok-clause-end : goal.returns-in-Ok-clause-end
returns-in-Ok-clause-end g c =
    subst (λ (n : Option Command). MayEnd n c.run_command.result.status) c.in-Some.ensures.command
    (inl c.run_command.ensures.end)

pub returns-in-Ok-clause-unread : goal.returns-in-Ok-clause-unread
returns-in-Ok-clause-unread g c other =
    c.text_for.ensures.unread (reads_nothing c.in-Some.command _ c.in-Some.ensures.command other)

pub returns-in-Err-clause-end : goal.returns-in-Err-clause-end
returns-in-Err-clause-end g c =
    subst (λ (s : Status). MayEnd (command_of c.args.words.now.items) s)
    (sym (c.at_once-in-Err.ensures.status ∙ c.status_for.ensures))
    (unread_ends c.in-Err.fault _ c.in-Some.command c.in-Some.ensures.command c.in-Err.ensures.read)

pub returns-in-Err-clause-unread : goal.returns-in-Err-clause-unread
returns-in-Err-clause-unread g c other =
    c.text_for.ensures.unread (reads_nothing c.in-Some.command _ c.in-Some.ensures.command other)

pub returns-in-Err-clause-ends : goal.returns-in-Err-clause-ends
returns-in-Err-clause-ends g c =
    let status = c.at_once-in-Err.ensures.status ∙ c.status_for.ensures in
    subst (λ (s : Status). IfSome (g.S.Source.left c.args.source.now) (λ script. EndsAs s (Outputs (command_of c.args.words.now.items) (keys_of g.G.KeyRing.keys c.args.racks.items)
    (lengths_of g.D.Disk.seen c.args.racks.items) c.at_once-in-Err.result.fates script) (g.K.Sink.written c.args.sink.now) (g.K.Sink.written c.args.sink.now)))
    (sym status)
    (unread_wrote c.in-Err.fault _ c.in-Some.command (g.S.Source.left c.args.source.now) (g.K.Sink.written c.args.sink.now)
    (keys_of g.G.KeyRing.keys c.args.racks.items) (lengths_of g.D.Disk.seen c.args.racks.items) c.at_once-in-Err.result.fates
    c.in-Some.ensures.command c.at_once-in-Err.ensures.fates)

pub returns-in-Err-clause-safe : goal.returns-in-Err-clause-safe
returns-in-Err-clause-safe g c driven =
    if_told _ (g.S.Source.left c.args.source.now) (λ script served.
    ran_safely c.every_run_of_a_script_stays_safe.ensures g.D.Disk.seen g.D.Disk.may_leave g.D.Disk.faults
    g.G.KeyRing.keys g.G.KeyRing.faults script c.args.racks.items c.at_once-in-Err.result
    (g.K.Sink.written c.args.sink.now) (g.K.Sink.written c.args.sink.now) served
    (ran_at_once g.D.Disk.seen g.D.Disk.may_leave g.D.Disk.faults g.G.KeyRing.keys g.G.KeyRing.faults
    (λ fates run. RunsScript script (keys_of g.G.KeyRing.keys c.args.racks.items) fates run) c.args.racks.items
    c.at_once-in-Err.result runs.stopped (status_for c.in-Err.fault) (g.K.Sink.written c.args.sink.now)
    (c.at_once-in-Err.ensures.status ∙ c.status_for.ensures) c.at_once-in-Err.ensures.fates
    (stops_at_once script (keys_of g.G.KeyRing.keys c.args.racks.items))
    (unread_ran c.in-Err.fault (g.K.Sink.written c.args.sink.now))))

pub returns-in-Err-clause-further : goal.returns-in-Err-clause-further
returns-in-Err-clause-further g c =
    further_same (λ (n : ℕ). drop n c.at_once-in-Err.result.racks ≡ drop n c.args.racks.items) _
    (g.S.Source.left c.args.source.now) (λ n. ap (drop n) c.at_once-in-Err.ensures.racks)

pub returns-in_default-clause-further : goal.returns-in_default-clause-further
returns-in_default-clause-further g c =
    further_same (λ (n : ℕ). drop n c.at_once.result.racks ≡ drop n c.args.racks.items) _
    (g.S.Source.left c.args.source.now) (λ n. ap (drop n) c.at_once.ensures.racks)

pub returns-in_default-clause-back : goal.returns-in_default-clause-back
returns-in_default-clause-back g c =
    subst (λ rs. AreBack g.D.Disk.faults g.G.KeyRing.faults c.args.racks.items rs) (sym c.at_once.ensures.racks)
    (same_back g.D.Disk.faults g.G.KeyRing.faults c.args.racks.items)

pub returns-in-Err-clause-back : goal.returns-in-Err-clause-back
returns-in-Err-clause-back g c =
    subst (λ rs. AreBack g.D.Disk.faults g.G.KeyRing.faults c.args.racks.items rs) (sym c.at_once-in-Err.ensures.racks)
    (same_back g.D.Disk.faults g.G.KeyRing.faults c.args.racks.items)

pub returns-in-Err-clause-open_fault : goal.returns-in-Err-clause-open_fault
returns-in-Err-clause-open_fault g c place is =
    absurd (unread_no_open c.in-Err.fault place (sym (c.at_once-in-Err.ensures.status ∙ c.status_for.ensures) ∙ is))

pub returns-in-Err-clause-cause : goal.returns-in-Err-clause-cause
returns-in-Err-clause-cause g c driven =
    if_told _ (g.S.Source.left c.args.source.now) (λ script.
    subst (λ (s : Status). IsCausedBy s (first_bad_line (segments_of 10 script)) (length c.args.racks.items)
    (racks_for (segments_of 10 script)) (written_among (racks_for (segments_of 10 script)) (lengths_of g.D.Disk.seen c.args.racks.items)))
    (sym (c.at_once-in-Err.ensures.status ∙ c.status_for.ensures))
    (unread_caused c.in-Err.fault _ (length c.args.racks.items) (racks_for (segments_of 10 script)) _))

pub returns-in-Err-clause-rehearsal_cause : goal.returns-in-Err-clause-rehearsal_cause
returns-in-Err-clause-rehearsal_cause g c seed bills steps named =
    subst (λ (s : Status). IsCausedBy s None (length c.args.racks.items) (racks_needed made_roster)
    (written_among (racks_needed made_roster) (lengths_of g.D.Disk.seen c.args.racks.items)))
    (sym (c.at_once-in-Err.ensures.status ∙ c.status_for.ensures))
    (unread_caused c.in-Err.fault None (length c.args.racks.items) (racks_needed made_roster) _)

pub returns-in-Ok-clause-rehearsed : goal.returns-in-Ok-clause-rehearsed
returns-in-Ok-clause-rehearsed g c seed bills steps named =
    let both : Some c.in-Some.command ≡ Some (Rehearse seed bills steps) = c.in-Some.ensures.command ∙ named in
    let is : c.in-Some.command ≡ Rehearse seed bills steps = cc both in
    c.run_command.ensures.rehearsed seed bills steps is

pub returns-in-Err-clause-rehearsed : goal.returns-in-Err-clause-rehearsed
returns-in-Err-clause-rehearsed g c seed bills steps named =
    let now = g.K.Sink.written c.args.sink.now in
    rehearsed_nothing g.D.Disk.seen g.D.Disk.may_leave g.D.Disk.faults g.G.KeyRing.keys g.G.KeyRing.faults
    seed bills steps c.args.racks.items c.at_once-in-Err.result (status_for c.in-Err.fault) now now
    (c.at_once-in-Err.ensures.status ∙ c.status_for.ensures) (unread_nothing c.in-Err.fault now)
    (unread_no_put c.in-Err.fault)
