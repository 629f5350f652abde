-- What is lacking first is so among the links that are left.
use Rattle.std.proofs.Common.{◌≡◌, drop}
use Rattle.closed_family.specs.Family.{histories_of}
use Rattle.closed_family.specs.Lacking.{first_of, unparted}
use Rattle.closed_family.proofs.lacking.first_unparted.Given as goal

abbrev pub invariant-loop-link : goal.invariant-loop-link
invariant-loop-link l =
    first_of (unparted (histories_of l.bill l.family) l.chain)
    ≡ first_of (unparted (histories_of l.bill l.family) (drop l.link-index l.chain))
