-- The settled platforms so far, and those that are left.
use Rattle.std.proofs.Common.{◌≡◌, ◌++◌, map}
use Rattle.platform_world.specs.Machine.{shard_state}
use Rattle.platform_world.specs.Platforms.{grouped}
use Rattle.platform_world.proofs.Diaries.{settled_from, settled_of}
use Rattle.platform_world.proofs.platforms.settled_for_shard.Given as goal

abbrev pub invariant-loop-position : goal.invariant-loop-position
invariant-loop-position g l =
    l.settled.items
    ++ settled_from l.fn.bill l.position l.platforms (map (λ m. shard_state (g.M.Machine.seen m)) l.shards)
    ≡ settled_of l.fn.bill (grouped l.platforms (map (λ m. shard_state (g.M.Machine.seen m)) l.shards))
