use Rattle.std.proofs.Common.{◌∙◌, ℕ, Some, sym, subst}
use Rattle.ebl_run.specs.Needed.{racks_wanted}
use Rattle.ebl_run.specs.Racks.{keys_of, lengths_of}
use Rattle.ebl_run.specs.Rehearsed.{Rehearsed}
use Rattle.ebl_run.specs.declared.command.Command.{Command}
use Rattle.ebl_run.specs.Status.{EndsAs, IsBeforeWrite, IsCanonEnd, IsEndOf, Outputs}
use Rattle.ebl_run.specs.declared.status.Status.{Status}
use Rattle.ebl_run.specs.Canon.{Canonizes}
use Rattle.ebl_run.proofs.CanonLemmas.{EndsAs-canon, canon_writes}
use Rattle.ebl_run.proofs.DriveLemmas.{handed_at_once}
use Rattle.ebl_run.proofs.RehearseLemmas.{by_numbers, rehearsed_writes}
use Rattle.ebl_run.proofs.run.run_command.Goals as goal

pub returns-in-Canon-clause-ends : goal.returns-in-Canon-clause-ends
returns-in-Canon-clause-ends g c =
    subst (λ (command : Command). EndsAs c.at_once.result.status (Outputs (Some command)
    (keys_of g.G.KeyRing.keys c.args.racks.items) (lengths_of g.D.Disk.seen c.args.racks.items) c.at_once.result.fates
    c.args.text.now) (g.K.Sink.written c.args.sink.now) (g.K.Sink.written c.canon.new.sink)) (sym c.in-Canon.is)
    (EndsAs-canon c.at_once.result.status c.args.text.now c.at_once.result.fates (g.K.Sink.written c.args.sink.now)
    (g.K.Sink.written c.canon.new.sink) c.at_once.ensures.fates
    (subst (λ (s : Status). EndsAs s (Canonizes c.args.text.now) (g.K.Sink.written c.args.sink.now)
    (g.K.Sink.written c.canon.new.sink)) (sym c.at_once.ensures.status) c.canon.ensures.ends))

pub returns-in-Canon-clause-racks : goal.returns-in-Canon-clause-racks
returns-in-Canon-clause-racks g c =
    handed_at_once g.D.Disk.faults g.G.KeyRing.faults (racks_wanted c.args.command c.args.text.now) c.args.racks.items
    c.at_once.result c.at_once.ensures.racks c.at_once.ensures.fates
    (λ place is. subst IsCanonEnd (sym c.at_once.ensures.status ∙ is) c.canon.ensures.end)

pub returns-in-Canon-clause-unwritten : goal.returns-in-Canon-clause-unwritten
returns-in-Canon-clause-unwritten g c before =
    absurd (canon_writes c.canon.result c.canon.ensures.end (subst IsBeforeWrite c.at_once.ensures.status before))

pub returns-in-Canon-clause-end : goal.returns-in-Canon-clause-end
returns-in-Canon-clause-end g c =
    subst (λ (command : Command). IsEndOf command c.at_once.result.status) (sym c.in-Canon.is)
    (subst IsCanonEnd (sym c.at_once.ensures.status) c.canon.ensures.end)

pub returns-in-Rehearse-clause-ends : goal.returns-in-Rehearse-clause-ends
returns-in-Rehearse-clause-ends g c =
    subst (λ (command : Command). EndsAs c.rehearse.result.status (Outputs (Some command)
    (keys_of g.G.KeyRing.keys c.args.racks.items) (lengths_of g.D.Disk.seen c.args.racks.items) c.rehearse.result.fates
    c.args.text.now) (g.K.Sink.written c.args.sink.now) (g.K.Sink.written c.rehearse.new.sink)) (sym c.in-Rehearse.is)
    (rehearsed_writes g.D.Disk.seen g.D.Disk.may_leave g.D.Disk.faults g.G.KeyRing.keys g.G.KeyRing.faults
    c.in-Rehearse.seed c.in-Rehearse.bills c.in-Rehearse.steps c.args.racks.items c.rehearse.result
    (g.K.Sink.written c.args.sink.now) (g.K.Sink.written c.rehearse.new.sink) c.rehearse.ensures.rehearsed)

pub returns-in-Rehearse-clause-rehearsed : goal.returns-in-Rehearse-clause-rehearsed
returns-in-Rehearse-clause-rehearsed g c seed bills steps named =
    by_numbers (λ (s b t : ℕ). Rehearsed g.D.Disk.seen g.D.Disk.may_leave g.D.Disk.faults g.G.KeyRing.keys g.G.KeyRing.faults
    s b t c.args.racks.items c.rehearse.result (g.K.Sink.written c.args.sink.now) (g.K.Sink.written c.rehearse.new.sink))
    c.in-Rehearse.seed c.in-Rehearse.bills c.in-Rehearse.steps seed bills steps (sym c.in-Rehearse.is ∙ named)
    c.rehearse.ensures.rehearsed
