-- The chains so far, followed by those of the ones that are left, are all.
use Rattle.std.proofs.Common.{◌≡◌, ◌++◌, map, reverse, vec_len}
use Rattle.std.specs.Prelude.{filter}
use Rattle.closed_family.specs.Longest.{ends_on}
use Rattle.bill_lines.proofs.accepted.ending_on.Given as goal

abbrev pub invariant-loop-chain : goal.invariant-loop-chain
invariant-loop-chain l =
    map (λ c. c.now) l.chains.items ++ filter (ends_on l.p) (reverse (map (λ c. c.now) l.taken.items))
    ≡ filter (ends_on l.p) (reverse (map (λ c. c.now) l.fn.taken.items))

abbrev pub decreases-loop-chain : goal.decreases-loop-chain
decreases-loop-chain l = vec_len l.taken
