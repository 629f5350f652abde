-- The diaries so far, and those that are left.
use Rattle.std.proofs.Common.{◌≡◌, ◌++◌, map}
use Rattle.platform_world.specs.Machine.{shard_state}
use Rattle.platform_world.specs.Platforms.{given_diary, grouped, shard_diary}
use Rattle.platform_world.proofs.Diaries.{left_from}
use Rattle.platform_world.proofs.platforms.diaries_of_shard.Given as goal

abbrev pub invariant-loop-position : goal.invariant-loop-position
invariant-loop-position g l =
    map given_diary l.diaries.items
    ++ left_from l.shard l.position l.platforms (map (λ m. shard_state (g.M.Machine.seen m)) l.shards)
    ≡ map (shard_diary l.shard) (grouped l.platforms (map (λ m. shard_state (g.M.Machine.seen m)) l.shards))
