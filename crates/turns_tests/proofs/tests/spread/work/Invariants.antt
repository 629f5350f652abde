use Rattle.std.proofs.Common.{◌≡◌}
use Rattle.turns_tests.proofs.tests.spread.work.Given as goal

abbrev pub invariant-loop-round : goal.invariant-loop-round
invariant-loop-round l = l.pass.table ≡ l.initial.pass.table
