use Rattle.std.proofs.Common.{◌≡◌, ◌++◌, List, ℕ, ◌/◌, Some, Result, Ok, Err, OnOk, OnErr, length, take, sym, subst}
use Rattle.ebl_base.specs.declared.no_memory.NoMemory.{NoMemory}
use Rattle.ebl_edge.specs.Sink.{AppendsFirst}
use Rattle.ebl_edge.proofs.SinkLemmas.{AppendsFirst-nil, AppendsFirst-take}
use Rattle.ebl_edge.proofs.memory_sink.MemorySink.tear.Goals as goal

-- all of the half, or nothing
AppendsFirst-half : (old new piece : List ℕ) (n : ℕ) (r : Result (Unit {0}) NoMemory)
    → OnOk r (new ≡ old ++ take n piece) → OnErr r (new ≡ old) → AppendsFirst (Some old) (Some new) piece
AppendsFirst-half old new piece n (Ok x) p q = AppendsFirst-take (Some old) (Some new) n piece p
AppendsFirst-half old new piece n (Err e) p q = subst (λ (l : List ℕ). AppendsFirst (Some old) (Some l) piece) (sym q) (AppendsFirst-nil (Some old) piece)

pub returns-then-self-clause-first : goal.returns-then-self-clause-first
returns-then-self-clause-first c =
    rw (← c.self.view_is) (AppendsFirst-half _ _ _ (length c.args.piece.now / 2) c.extend_from_slice.result c.extend_from_slice.ensures.ok c.extend_from_slice.ensures.err)
