-- The pass over the links that are left, from the title so far, is the pass over all.
use Rattle.std.proofs.Common.{◌≡◌, None, drop}
use Rattle.transfer_chain.specs.Steps.{pass}
use Rattle.transfer_chain.proofs.replay.pass.Given as goal

abbrev pub invariant-loop-place : goal.invariant-loop-place
invariant-loop-place l =
    pass l.carrier l.bill (drop l.place l.chain) l.previous l.title l.place ≡ pass l.carrier l.bill l.chain None None 0
