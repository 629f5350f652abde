-- A path that is written piece by piece.
use Rattle.std.proofs.Common.{◌≡◌, ℕ, List, ◌++◌, ap, ◌∙◌, append_assoc}

-- one piece behind the front of a path
pub two_pieces : (text front now last : List ℕ) (tail : List ℕ) → now ≡ text ++ front → last ≡ now ++ tail → last ≡ text ++ (front ++ tail)
two_pieces text front now last tail first second = second ∙ ap (λ l. l ++ tail) first ∙ append_assoc text front tail

-- two pieces behind it
pub three_pieces : (text front now next last a b written : List ℕ) → now ≡ text ++ front → next ≡ now ++ a → last ≡ next ++ written → written ≡ b
    → last ≡ text ++ (front ++ (a ++ b))
three_pieces text front now next last a b written first second third same =
    third ∙ ap (λ l. next ++ l) same ∙ ap (λ l. l ++ b) (two_pieces text front now next a first second)
    ∙ append_assoc text (front ++ a) b ∙ ap (λ l. text ++ l) (append_assoc front a b)
