use Rattle.std.proofs.Common.{◌≡◌}
use Rattle.turns_tests.proofs.tests.spread.take_turn.Given as goal

abbrev pub invariant-loop : goal.invariant-loop
invariant-loop l = l.pass.table ≡ l.initial.pass.table
