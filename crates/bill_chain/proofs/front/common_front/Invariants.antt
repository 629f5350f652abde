-- The entries so far have the same names, and those that are left have the rest in common.
use Rattle.std.proofs.Common.{◌≡◌, ◌+◌, ◌-◌, ◌≤◌, drop, length}
use Rattle.bill_chain.specs.Chain.{common_front}
use Rattle.bill_chain.proofs.front.common_front.Given as goal

abbrev pub invariant-loop-place : goal.invariant-loop-place
invariant-loop-place l = record {
  common : l.place + common_front (drop l.place l.a) (drop l.place l.b) ≡ common_front l.a l.b;
  within : l.place ≤ length l.a;
}

abbrev pub decreases-loop-place : goal.decreases-loop-place
decreases-loop-place l = length l.a - l.place
