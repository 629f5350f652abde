use Rattle.std.proofs.Common.{◌∙◌, refl, arith}
use Rattle.platform_world.proofs.Counts.{later_then, none_rose}
use Rattle.rehearsal.proofs.Going.{one_step_more}
use Rattle.rehearsal.proofs.run.Rehearsal.go_on.Goals as goal

pub loop-step-preserved : goal.loop-step-preserved
loop-step-preserved g c = record {
  takes = one_step_more g.M.Machine.seen g.M.Machine.faults c.args.bills c.loop-step.step _ _ _ c.loop-step.invariant.takes c.in_ok-happen.ensures.takes;
  events = omega (arith, c.in_ok-happen.ensures.events, c.loop-step.invariant.events);
  roster = c.happen.ensures.roster;
  spare = c.happen.ensures.spare ∙ c.loop-step.invariant.spare;
  disks = later_then g.M.Machine.faults.disk (λ k. 0) _ _ _ c.loop-step.invariant.disks c.happen.ensures.disks;
  rings = later_then g.M.Machine.faults.ring (λ k. 0) _ _ _ c.loop-step.invariant.rings c.happen.ensures.rings;
}

pub loop-step-init : goal.loop-step-init
loop-step-init g c = record {
  takes = refl;
  events = omega arith;
  roster = c.requires.roster;
  spare = refl;
  disks = none_rose g.M.Machine.faults.disk c.args.self.now.world.platforms.shards;
  rings = none_rose g.M.Machine.faults.ring c.args.self.now.world.platforms.shards;
}

pub returns-in_err-happen-clause-disks : goal.returns-in_err-happen-clause-disks
returns-in_err-happen-clause-disks g c =
    later_then g.M.Machine.faults.disk (λ k. 0) _ _ _ c.loop-step.invariant.disks c.happen.ensures.disks

pub returns-in_err-happen-clause-rings : goal.returns-in_err-happen-clause-rings
returns-in_err-happen-clause-rings g c =
    later_then g.M.Machine.faults.ring (λ k. 0) _ _ _ c.loop-step.invariant.rings c.happen.ensures.rings
