-- The racks of the last shards so far are back, the last first.
use Rattle.std.proofs.Common.{◌≡◌, ◌≤◌, ◌+◌, ◌++◌, map, reverse}
use Rattle.std.specs.Prelude.{vec_capacity, vec_len}
use Rattle.platform_office.specs.Opening.{rack_of}
use Rattle.platform_office.proofs.opening.racks_of.Given as goal

abbrev pub invariant-loop-shard : goal.invariant-loop-shard
invariant-loop-shard g l = record {
  racks : map rack_of l.shards.items ++ reverse l.racks.items
      ≡ map rack_of l.fn.shards.items ++ reverse l.fn.others.items;
  room : vec_len l.racks + vec_len l.shards ≤ vec_capacity l.racks;
}

abbrev pub decreases-loop-shard : goal.decreases-loop-shard
decreases-loop-shard g l = vec_len l.shards
