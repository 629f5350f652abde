use Rattle.std.proofs.Common.{◌+◌, ◌∙◌, ap, length, refl, arith}
use Rattle.platform_world.proofs.Counts.{later_then, none_rose}
use Rattle.rehearsal.proofs.Going.{one_bill_more}
use Rattle.rehearsal.proofs.run.Rehearsal.begin_bills.Goals as goal

pub loop-i-preserved : goal.loop-i-preserved
loop-i-preserved g c = record {
  takes = one_bill_more g.M.Machine.seen g.M.Machine.faults c.args.bills c.loop-i.i (c.loop-i.i + 1) _ _ _ refl c.loop-i.invariant.takes
      (c.in_ok-begin_bill.ensures.takes c.args.bills);
  events = omega (arith, c.in_ok-begin_bill.ensures.events, c.loop-i.invariant.events);
  roster = c.begin_bill.ensures.roster;
  spare = c.begin_bill.ensures.spare ∙ c.loop-i.invariant.spare;
  disks = later_then g.M.Machine.faults.disk (λ k. 0) _ _ _ c.loop-i.invariant.disks c.begin_bill.ensures.disks;
  rings = later_then g.M.Machine.faults.ring (λ k. 0) _ _ _ c.loop-i.invariant.rings c.begin_bill.ensures.rings;
}

pub loop-i-init : goal.loop-i-init
loop-i-init g c = record {
  takes = refl;
  events = ap length c.requires.fresh;
  roster = c.requires.roster;
  spare = refl;
  disks = none_rose g.M.Machine.faults.disk c.args.self.now.world.platforms.shards;
  rings = none_rose g.M.Machine.faults.ring c.args.self.now.world.platforms.shards;
}

pub returns-in_err-begin_bill-clause-disks : goal.returns-in_err-begin_bill-clause-disks
returns-in_err-begin_bill-clause-disks g c =
    later_then g.M.Machine.faults.disk (λ k. 0) _ _ _ c.loop-i.invariant.disks c.begin_bill.ensures.disks

pub returns-in_err-begin_bill-clause-rings : goal.returns-in_err-begin_bill-clause-rings
returns-in_err-begin_bill-clause-rings g c =
    later_then g.M.Machine.faults.ring (λ k. 0) _ _ _ c.loop-i.invariant.rings c.begin_bill.ensures.rings
