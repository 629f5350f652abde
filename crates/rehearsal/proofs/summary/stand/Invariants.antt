-- The list has those of the bills so far.
use Rattle.std.proofs.Common.{◌≡◌, map, take}
use Rattle.platform_world.specs.Standing.{standing_in}
use Rattle.platform_world.specs.State.{world_of}
use Rattle.rehearsal.proofs.summary.stand.Given as goal

abbrev pub invariant-loop-bill : goal.invariant-loop-bill
invariant-loop-bill g l =
    l.list.items ≡ map (standing_in (world_of g.M.Machine.seen l.world)) (take l.bill-index l.bills)
