use Rattle.std.proofs.Common.{◌∙◌}
use Rattle.platform_world.specs.Platforms.{states_of}
use Rattle.platform_world.proofs.Counts.{later_then}
use Rattle.platform_world.proofs.Starting.{loosen_step}
use Rattle.platform_world.proofs.platforms.Platforms.loosen_behind.Goals as goal

pub loop-behind-preserved : goal.loop-behind-preserved
loop-behind-preserved g c = record {
  loose = λ after rest. c.loop-behind.invariant.loose after
      (loosen_step c.args.at c.loop-behind.behind c.loop-behind-test.true
      (states_of g.M.Machine.seen c.loop-behind.self) (states_of g.M.Machine.seen c.loosen.new.self) after
      c.loosen.ensures.loose rest);
  disks = later_then g.M.Machine.faults.disk (λ k. 0) c.args.self.now.shards c.loop-behind.self.shards
      c.loosen.new.self.shards c.loop-behind.invariant.disks c.loosen.ensures.disks;
  rings = later_then g.M.Machine.faults.ring (λ k. 0) c.args.self.now.shards c.loop-behind.self.shards
      c.loosen.new.self.shards c.loop-behind.invariant.rings c.loosen.ensures.rings;
  roster = c.loosen.ensures.roster ∙ c.loop-behind.invariant.roster;
  spare = c.loosen.ensures.spare ∙ c.loop-behind.invariant.spare;
}
