-- The whole is the others and one more if and only if what is left is.
use Rattle.std.proofs.Common.{◌≡◌, ◌↔◌, ◌++◌, ◌∷◌, [], drop}
use Rattle.ebl_base.specs.declared.transaction.Transaction.{Transaction}
use Rattle.legal_frames.proofs.parting.one_more.Given as goal

abbrev pub invariant-loop-t : goal.invariant-loop-t
invariant-loop-t l =
    (x : Transaction)
    → (l.fn.transactions ≡ l.fn.since ++ x ∷ []) ↔ (l.rest ≡ drop l.t-index l.fn.since ++ x ∷ [])
