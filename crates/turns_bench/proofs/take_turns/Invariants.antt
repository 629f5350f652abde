use Rattle.std.proofs.Common.{◌≡◌}
use Rattle.turns_bench.proofs.take_turns.Given as goal

abbrev pub invariant-loop-turn : goal.invariant-loop-turn
invariant-loop-turn l = l.pass.table ≡ l.initial.pass.table
