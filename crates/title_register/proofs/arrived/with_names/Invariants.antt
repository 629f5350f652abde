-- What is left, put behind what there is, gives the whole.
use Rattle.std.proofs.Common.{◌≡◌, ◌++◌, length}
use Rattle.std.specs.Prelude.{filter, not}
use Rattle.bill_chain.specs.Chain.{names_of}
use Rattle.title_register.specs.Past.{is_among, with_names}
use Rattle.title_register.proofs.arrived.with_names.Given as goal

abbrev pub invariant-loop-link : goal.invariant-loop-link
invariant-loop-link l =
    with_names l.names (names_of l.chain)
    ≡ l.list ++ filter (λ name. not (is_among l.names name)) (names_of l.left)

abbrev pub decreases-loop-link : goal.decreases-loop-link
decreases-loop-link l = length l.left
