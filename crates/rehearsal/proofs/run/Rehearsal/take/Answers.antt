use Rattle.platform_world.proofs.Counts.{rose_later}
use Rattle.rehearsal.proofs.run.Rehearsal.take.Goals as goal

pub returns-in_err-push-clause-disks : goal.returns-in_err-push-clause-disks
returns-in_err-push-clause-disks g c =
    rose_later g.M.Machine.faults.disk _ _ _ c.in_ok-answer.ensures.ok.has_fate.disks

pub returns-in_err-push-clause-rings : goal.returns-in_err-push-clause-rings
returns-in_err-push-clause-rings g c =
    rose_later g.M.Machine.faults.ring _ _ _ c.in_ok-answer.ensures.ok.has_fate.rings

pub returns-clause-disks : goal.returns-clause-disks
returns-clause-disks g c = rose_later g.M.Machine.faults.disk _ _ _ c.in_ok-answer.ensures.ok.has_fate.disks

pub returns-clause-rings : goal.returns-clause-rings
returns-clause-rings g c = rose_later g.M.Machine.faults.ring _ _ _ c.in_ok-answer.ensures.ok.has_fate.rings
