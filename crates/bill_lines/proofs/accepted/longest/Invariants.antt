-- The longest of all is the longest of those that are left and the best so far.
use Rattle.std.proofs.Common.{◌≡◌, [], map, vec_len}
use Rattle.bill_lines.proofs.ChainLists.{best_of}
use Rattle.bill_lines.proofs.accepted.longest.Given as goal

abbrev pub invariant-loop-chain : goal.invariant-loop-chain
invariant-loop-chain l =
    best_of (map (λ c. c.now) l.fn.chains.items) [] ≡ best_of (map (λ c. c.now) l.chains.items) l.best

abbrev pub decreases-loop-chain : goal.decreases-loop-chain
decreases-loop-chain l = vec_len l.chains
