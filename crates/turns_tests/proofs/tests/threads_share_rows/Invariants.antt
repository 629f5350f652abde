use Rattle.std.proofs.Common.{◌≡◌}
use Rattle.turns_tests.proofs.tests.threads_share_rows.Given as goal

abbrev pub invariant-loop-at : goal.invariant-loop-at
invariant-loop-at g l = l.pass.table ≡ l.initial.pass.table
