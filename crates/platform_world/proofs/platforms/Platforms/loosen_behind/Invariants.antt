-- The shards so far are loose.
use Rattle.std.proofs.Common.{◌≡◌, ◌+◌, ◌-◌, List}
use Rattle.platform_world.specs.Platforms.{EachRose, states_of}
use Rattle.platform_world.specs.Start.{AreLoosened}
use Rattle.platform_world.specs.World.{PlatformState}
use Rattle.platform_world.proofs.platforms.Platforms.loosen_behind.Given as goal

abbrev pub invariant-loop-behind : goal.invariant-loop-behind
invariant-loop-behind g l = record {
  loose : (after : List PlatformState)
      → AreLoosened l.at l.behind (16 - l.behind) (states_of g.M.Machine.seen l.self) after
      → AreLoosened l.at (l.shard + 1) (15 - l.shard) (states_of g.M.Machine.seen l.initial.self) after;
  disks : EachRose g.M.Machine.faults.disk (λ k. 0) l.initial.self.shards l.self.shards;
  rings : EachRose g.M.Machine.faults.ring (λ k. 0) l.initial.self.shards l.self.shards;
  roster : l.self.roster ≡ l.initial.self.roster;
  spare : l.self.spare ≡ l.initial.self.spare;
}
