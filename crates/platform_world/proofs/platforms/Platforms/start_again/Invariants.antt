-- The shards so far were read again.
use Rattle.std.proofs.Common.{◌≡◌, ◌≤◌, ℕ, ◌-◌, ◌++◌, List}
use Rattle.std.specs.Prelude.{vec_capacity, vec_len}
use Rattle.platform_world.specs.declared.fate.FateEnd.{FateEnd}
use Rattle.platform_world.specs.Platforms.{EachRose, states_of}
use Rattle.platform_world.specs.Start.{AreReadAgain}
use Rattle.platform_world.specs.World.{PlatformState}
use Rattle.platform_world.proofs.platforms.Platforms.start_again.Given as goal

abbrev pub invariant-loop-shard : goal.invariant-loop-shard
invariant-loop-shard g l = record {
  read : (end : FateEnd) (behind : List ℕ) (after : List PlatformState)
      → AreReadAgain l.at l.shard (16 - l.shard) (states_of g.M.Machine.seen l.self) end behind after
      → AreReadAgain l.at 0 16 (states_of g.M.Machine.seen l.initial.self) end (l.kept.items ++ behind) after;
  few : vec_len l.kept ≤ l.shard;
  room : 16 ≤ vec_capacity l.kept;
  disks : EachRose g.M.Machine.faults.disk (λ k. 0) l.initial.self.shards l.self.shards;
  rings : EachRose g.M.Machine.faults.ring (λ k. 0) l.initial.self.shards l.self.shards;
  roster : l.self.roster ≡ l.initial.self.roster;
  spare : l.self.spare ≡ l.initial.self.spare;
}
