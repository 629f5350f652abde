-- As many events have a fate as lines were taken.
use Rattle.std.proofs.Common.{◌≡◌, ◌+◌, length}
use Rattle.platform_tests.proofs.tests.worlds.take.Given as goal

abbrev pub invariant-loop-line : goal.invariant-loop-line
invariant-loop-line g l = length l.world.fates ≡ length l.initial.world.fates + l.line-index
