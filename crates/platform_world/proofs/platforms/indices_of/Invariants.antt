-- The diaries that were gone over are indexed.
use Rattle.std.proofs.Common.{◌≡◌, map, take}
use Rattle.platform_world.proofs.platforms.indices_of.Given as goal

abbrev pub invariant-loop-machine : goal.invariant-loop-machine
invariant-loop-machine g l =
    l.indices.items ≡ map (λ m. (g.M.Machine.seen m).diary) (take l.machine-index l.shards)
