-- Which items are among others: in a list that is searched, mapped, or gone through.
use Rattle.std.proofs.Common.{◌≡◌, ◌⊎◌, inl, inr, ℕ, zero, suc, ◌+◌, ◌<◌, ◌≤◌, Bool, true, false, List, [], ◌∷◌, length, get_or, drop, refl, sym, ap, subst, ◌∙◌, arith, add-one, drop-cons, Decides}
use Rattle.std.specs.Prelude.{map}
use Rattle.std.specs.List.{list_any}
use Rattle.std.proofs.lemmas.Bool.{false≢true}
use Rattle.std.proofs.lemmas.Bool.Decides.{Decides-or}
use Rattle.closed_family.specs.Chains.{IsAmong}

-- an item at a place is among the others
pub among_at : {X Y : Type 0} (f : X → Y) (xs : List X) (i : ℕ) (x : X) → i < length xs → x ≡ get_or xs i x
    → IsAmong (f x) (map f xs)
among_at f [] i x within is = absurd (omega arith)
among_at f (y ∷ ys) zero x within is = inl (ap f (sym is))
among_at f (y ∷ ys) (suc i) x within is = inr (among_at f ys i x (omega arith) is)

pub item_among : {X : Type 0} (xs : List X) (i : ℕ) (x : X) → i < length xs → x ≡ get_or xs i x → IsAmong x xs
item_among [] i x within is = absurd (omega arith)
item_among (y ∷ ys) zero x within is = inl (sym is)
item_among (y ∷ ys) (suc i) x within is = inr (item_among ys i x (omega arith) is)

-- what is left at a place is its item and what is left behind it
pub drop_at : {X : Type 0} (xs : List X) (i : ℕ) (x : X) → i < length xs → x ≡ get_or xs i x
    → drop i xs ≡ x ∷ drop (i + 1) xs
drop_at {X} xs i x within is =
    drop-cons xs i x within
    ∙ ap (λ (y : X). y ∷ drop (suc i) xs) (sym is)
    ∙ ap (λ (j : ℕ). x ∷ drop j xs) (sym (add-one i))

-- nothing is left behind the last
pub drop_none : {X : Type 0} (xs : List X) (i : ℕ) → length xs ≤ i → drop i xs ≡ []
drop_none [] zero all = refl
drop_none [] (suc i) all = refl
drop_none (x ∷ xs) zero all = absurd (omega arith)
drop_none (x ∷ xs) (suc i) all = drop_none xs i (omega arith)

-- a search finds an item, if its test tells equal ones
pub any-Decides : {X : Type 0} (test : X → Bool) (x : X) → ((y : X) → Decides (test y) (y ≡ x)) → (xs : List X)
    → Decides (list_any test xs) (IsAmong x xs)
any-Decides test x each [] = (λ e. absurd (false≢true e), λ among. absurd among)
any-Decides test x each (y ∷ ys) = Decides-or (test y) (list_any test ys) (each y) (any-Decides test x each ys)
