use Rattle.std.proofs.Common.{◌≡◌, ℕ, List, Bor, ap, map, subst}
use Rattle.std.specs.Prelude.{IfOk}
use Rattle.answer_lines.specs.Lines.{members_line}
use Rattle.platform_world.specs.State.{world_of}
use Rattle.rehearsal.specs.Summary.{summary_members}
use Rattle.platform_world.proofs.Counts.{later_then}
use Rattle.rehearsal.proofs.Going.{same_progress, summed_up_if}
use Rattle.rehearsal.proofs.run.Rehearsal.sum_up.Goals as goal

pub returns-clause-line : goal.returns-clause-line
returns-clause-line g c =
    summed_up_if g.M.Machine.seen g.M.Machine.faults c.args.self.now.draws.state c.args.bills c.args.steps
    c.args.self.now.world _ _ _ c.summary_line.result
    (same_progress _ _ _ _ (ap (map (λ a. a.now)) c.requires.answers))
    c.in_ok-begin_bills.ensures.takes c.in_ok-go_on.ensures.takes
    (subst (λ (xs : List (Bor (List ℕ))). IfOk c.summary_line.result (λ line. line
    ≡ members_line (summary_members c.args.bills (world_of g.M.Machine.seen c.go_on.new.self.world) (map (λ a. a.now) xs))))
    c.as_slice.ensures.value c.summary_line.ensures)

pub returns-in_err-go_on-clause-disks : goal.returns-in_err-go_on-clause-disks
returns-in_err-go_on-clause-disks g c = later_then g.M.Machine.faults.disk (λ k. 0) _ _ _ c.begin_bills.ensures.disks c.go_on.ensures.disks

pub returns-clause-disks : goal.returns-clause-disks
returns-clause-disks g c = later_then g.M.Machine.faults.disk (λ k. 0) _ _ _ c.begin_bills.ensures.disks c.go_on.ensures.disks

pub returns-in_err-go_on-clause-rings : goal.returns-in_err-go_on-clause-rings
returns-in_err-go_on-clause-rings g c = later_then g.M.Machine.faults.ring (λ k. 0) _ _ _ c.begin_bills.ensures.rings c.go_on.ensures.rings

pub returns-clause-rings : goal.returns-clause-rings
returns-clause-rings g c = later_then g.M.Machine.faults.ring (λ k. 0) _ _ _ c.begin_bills.ensures.rings c.go_on.ensures.rings
