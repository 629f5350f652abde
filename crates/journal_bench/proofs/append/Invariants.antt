use Rattle.std.proofs.Common.{◌≡◌, false}
use Rattle.journal_bench.proofs.append.Given as goal

abbrev pub invariant-loop : goal.invariant-loop
invariant-loop l = l.journal.loose ≡ false
