-- The text of a chain's entry at an index past the last one is that of the last one.
use Rattle.std.proofs.Common.{◌≡◌, ℕ, zero, suc, ◌≤◌, List, [], ◌∷◌, None, length, refl, ap, sym, arith}
use Rattle.std.specs.Prelude.{option_map, slice_get}
use Rattle.std.specs.Option.{option_or}
use Rattle.ebl_base.specs.declared.chain.ChainLink.{ChainLink}
use Rattle.bill_chain.specs.Chain.{last_of}
use Rattle.transfer_judge.specs.Dispute.{text_at}

-- no entry stands at an index past the last
pub none_past : (chain : List ChainLink) (index : ℕ) → length chain ≤ index → slice_get chain index ≡ None
none_past [] index past = refl
none_past (link ∷ links) zero past = absurd (omega arith)
none_past (link ∷ links) (suc index) past = none_past links index (omega arith)

-- so the last one is taken
pub text_past : (chain : List ChainLink) (index : ℕ) → length chain ≤ index
    → option_map (λ link. link.text) (last_of chain) ≡ text_at index chain
text_past chain index past =
    sym (ap (λ link. option_map (λ (l : ChainLink). l.text) (option_or link (last_of chain)))
    (none_past chain index past))
