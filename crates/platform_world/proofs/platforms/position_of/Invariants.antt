-- The platform isn't among those so far.
use Rattle.std.proofs.Common.{◌≡◌, ◌+◌, ◌-◌, ◌≤◌, drop, length}
use Rattle.platform_world.specs.Platforms.{position_of}
use Rattle.platform_world.proofs.platforms.position_of.Given as goal

abbrev pub invariant-loop-position : goal.invariant-loop-position
invariant-loop-position l = record {
  position : l.position + position_of l.p (drop l.position l.platforms) ≡ position_of l.p l.platforms;
  within : l.position ≤ length l.platforms;
}

abbrev pub decreases-loop-position : goal.decreases-loop-position
decreases-loop-position l = length l.platforms - l.position
