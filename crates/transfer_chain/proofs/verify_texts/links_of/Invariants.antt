-- The links so far are those of the texts so far.
use Rattle.std.proofs.Common.{take}
use Rattle.transfer_chain.specs.GoodChain.{AreLinks}
use Rattle.transfer_chain.proofs.verify_texts.links_of.Given as goal

abbrev pub invariant-loop-place : goal.invariant-loop-place
invariant-loop-place g l = AreLinks (g.G.KeyRing.keys l.ring) (take l.place l.texts) l.links.items
