-- The first shards so far are taken apart, the rest stand in the opposite order.
use Rattle.std.proofs.Common.{◌≡◌, ◌≤◌, ◌+◌}
use Rattle.std.specs.Prelude.{vec_capacity, vec_len}
use Rattle.platform_office.proofs.ClosingLemmas.{AreTaken}
use Rattle.platform_office.proofs.closing.close_all.Given as goal

abbrev pub invariant-loop-shard : goal.invariant-loop-shard
invariant-loop-shard g l = record {
  taken : AreTaken g.D.Disk.tells g.G.KeyRing.keys g.D.Disk.seen g.D.Disk.may_leave l.fn.shards.items l.shards.items
      l.racks.items l.diaries.items;
  racks : vec_len l.racks + vec_len l.shards ≡ vec_len l.fn.shards;
  diaries : vec_len l.diaries + vec_len l.shards ≡ vec_len l.fn.shards;
  racks_room : vec_len l.fn.shards ≤ vec_capacity l.racks;
  diaries_room : vec_len l.fn.shards ≤ vec_capacity l.diaries;
}

abbrev pub decreases-loop-shard : goal.decreases-loop-shard
decreases-loop-shard g l = vec_len l.shards
