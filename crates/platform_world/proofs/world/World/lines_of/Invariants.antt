-- The lines so far, and those that are left.
use Rattle.std.proofs.Common.{◌≡◌, ◌+◌, ◌++◌, drop}
use Rattle.platform_world.specs.Run.{bill_lines_from}
use Rattle.platform_world.specs.State.{world_of}
use Rattle.platform_world.proofs.world.World.lines_of.Given as goal

abbrev pub invariant-loop-position : goal.invariant-loop-position
invariant-loop-position g l =
    l.text ++ bill_lines_from (world_of g.M.Machine.seen l.self) (l.position + 1) (drop l.position l.bills)
    ≡ bill_lines_from (world_of g.M.Machine.seen l.self) 1 l.bills
