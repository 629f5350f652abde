-- Numbers of messages.
use Rattle.std.proofs.Common.{◌≡◌, ℕ, zero, suc, ◌+◌, List, [], ◌∷◌, ◌++◌, ap, ◌∙◌, arith}
use Rattle.std.specs.List.{range_with_len}

-- one number more
pub range-push : (a n : ℕ) → range_with_len a (n + 1) ≡ range_with_len a n ++ (a + n) ∷ []
range-push a zero = ap (λ (k : ℕ). k ∷ []) (let same : a ≡ a + 0 = omega arith in same)
range-push a (suc n) =
    let longer : suc n + 1 ≡ suc (n + 1) = omega arith in
    let next : a + 1 + n ≡ a + suc n = omega arith in
    ap (range_with_len a) longer
    ∙ ap (λ (rest : List ℕ). a ∷ rest) (range-push (a + 1) n)
    ∙ ap (λ (k : ℕ). a ∷ (range_with_len (a + 1) n ++ k ∷ [])) next

pub ruleset more_numbers = (range-push)
