-- The texts so far, followed by those of the links that are left, are all.
use Rattle.std.proofs.Common.{◌≡◌, ◌++◌, length}
use Rattle.transfer_chain.specs.Checked.{texts_of}
use Rattle.transfer_core.proofs.transfer.texts_of.Given as goal

abbrev pub invariant-loop-next : goal.invariant-loop-next
invariant-loop-next l = l.texts ++ texts_of l.left ≡ texts_of l.known

abbrev pub decreases-loop-next : goal.decreases-loop-next
decreases-loop-next l = length l.left
