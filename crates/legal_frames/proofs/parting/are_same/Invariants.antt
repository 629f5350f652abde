-- The lists are one if and only if what is left of both is.
use Rattle.std.proofs.Common.{◌≡◌, ◌↔◌, drop}
use Rattle.legal_frames.proofs.parting.are_same.Given as goal

abbrev pub invariant-loop-piece : goal.invariant-loop-piece
invariant-loop-piece l = (l.fn.listed ≡ l.fn.others) ↔ (drop l.piece-index l.fn.listed ≡ l.rest)
