-- The racks of the last shards so far are back, the last first, and hold their diaries.
use Rattle.std.proofs.Common.{◌≡◌, ◌≤◌, ◌+◌, ◌++◌, List, map, reverse}
use Rattle.std.specs.Prelude.{vec_capacity, vec_len}
use Rattle.platform_world.specs.Platforms.{AllHold, AllTell}
use Rattle.platform_world.proofs.platforms.racks_of.Given as goal

abbrev pub invariant-loop-shard : goal.invariant-loop-shard
invariant-loop-shard g l = record {
  racks : map g.M.Machine.rack l.shards.items ++ reverse l.racks.items
      ≡ map g.M.Machine.rack l.fn.shards.items ++ reverse l.fn.spare.items;
  room : vec_len l.racks + vec_len l.shards ≤ vec_capacity l.racks;
  hold : (behind : List g.row.M.Denot) × (l.fn.shards.items ≡ l.shards.items ++ behind)
      × (AllTell g.M.Machine.tells l.fn.shards.items
      → AllHold g.M.Machine.holds g.M.Machine.rack g.M.Machine.seen behind);
}

abbrev pub decreases-loop-shard : goal.decreases-loop-shard
decreases-loop-shard g l = vec_len l.shards
