-- The sum so far; one past 2^64 - 1 stays that.
use Rattle.std.proofs.Common.{◌≡◌, min, take}
use Rattle.std.specs.Prelude.{sum_by}
use Rattle.rehearsal.proofs.summary.entries.Given as goal

abbrev pub invariant-loop-standing : goal.invariant-loop-standing
invariant-loop-standing l =
    l.sum ≡ min (sum_by (λ s. s.entries) (take l.standing-index l.standings)) 18446744073709551615
