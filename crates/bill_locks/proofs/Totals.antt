-- Sums over the items of a list, and how often a number is in a list of numbers.
use Rattle.std.proofs.Common.{◌≡◌, ◌≢◌, ℕ, zero, suc, eq-eqb, ne_eqb, ◌+◌, ◌<◌, ◌≤◌, List, [], ◌∷◌, ◌++◌, length, map, set, refl, sym, ap, ◌∙◌, arith}
use mathlib.Core.Option.{some, some-injective, some-ne-none}
use lib.ListN.{get_elem?}
use Rattle.bill_locks.specs.View.{one_if, times}
use Rattle.bill_locks.specs.Rule.{total, Each}

module _ {A : Type 0} where
  pub at_within : (l : List A) (i : ℕ) (a : A) → get_elem? l i ≡ some a → i < length l
  at_within [] i a e = absurd (some-ne-none a (sym e))
  at_within (x ∷ xs) zero a e = omega arith
  at_within (x ∷ xs) (suc i) a e = let r = at_within xs i a e in omega arith

  pub at_one : (l : List A) (i : ℕ) (a b : A) → get_elem? l i ≡ some a → get_elem? l i ≡ some b → a ≡ b
  at_one l i a b p q = some-injective a b (sym p ∙ q)

  pub at_map_back : {B : Type 0} (f : A → B) (l : List A) (i : ℕ) (b : B) → get_elem? (map f l) i ≡ some b → (a : A)
      × (get_elem? l i ≡ some a) × (f a ≡ b)
  at_map_back f [] i b e = absurd (some-ne-none b (sym e))
  at_map_back f (x ∷ xs) zero b e = (x, refl, some-injective (f x) b e)
  at_map_back f (x ∷ xs) (suc i) b e = at_map_back f xs i b e

  pub at_length : (l : List A) (i : ℕ) → i < length l → (a : A) × (get_elem? l i ≡ some a)
  at_length [] i h = absurd (omega arith)
  at_length (x ∷ xs) zero h = (x, refl)
  at_length (x ∷ xs) (suc i) h = at_length xs i (omega arith)

  pub total_set : (f : A → ℕ) (l : List A) (i : ℕ) (x y : A) → get_elem? l i ≡ some x
      → total f (set l i y) + f x ≡ total f l + f y
  total_set f [] i x y e = absurd (some-ne-none x (sym e))
  total_set f (z ∷ zs) zero x y e = let h : f z ≡ f x = ap f (some-injective z x e) in omega arith
  total_set f (z ∷ zs) (suc i) x y e = let r = total_set f zs i x y e in omega arith

  pub total_snoc : (f : A → ℕ) (l : List A) (y : A) → total f (l ++ y ∷ []) ≡ total f l + f y
  total_snoc f [] y = omega arith
  total_snoc f (z ∷ zs) y = let r = total_snoc f zs y in omega arith

  pub total_one : (f : A → ℕ) (l : List A) (i : ℕ) (x : A) → get_elem? l i ≡ some x → f x ≤ total f l
  total_one f [] i x e = absurd (some-ne-none x (sym e))
  total_one f (z ∷ zs) zero x e = let h : f z ≡ f x = ap f (some-injective z x e) in omega arith
  total_one f (z ∷ zs) (suc i) x e = let r = total_one f zs i x e in omega arith

  pub total_two : (f : A → ℕ) (l : List A) (i j : ℕ) (x y : A) → get_elem? l i ≡ some x → get_elem? l j ≡ some y
      → i ≢ j → f x + f y ≤ total f l
  total_two f [] i j x y e g n = absurd (some-ne-none x (sym e))
  total_two f (z ∷ zs) zero zero x y e g n = absurd (n refl)
  total_two f (z ∷ zs) zero (suc j) x y e g n = let h : f z ≡ f x = ap f (some-injective z x e) in
      let r = total_one f zs j y g in omega arith
  total_two f (z ∷ zs) (suc i) zero x y e g n = let h : f z ≡ f y = ap f (some-injective z y g) in
      let r = total_one f zs i x e in omega arith
  total_two f (z ∷ zs) (suc i) (suc j) x y e g n = let r = total_two f zs i j x y e g (λ h. n (ap suc h)) in omega arith

  pub total_none : (f : A → ℕ) (l : List A) → Each (λ i x. f x ≡ 0) l → total f l ≡ 0
  total_none f [] h = refl
  total_none f (z ∷ zs) h = let a = h 0 z refl in let r = total_none f zs (λ i x e. h (suc i) x e) in omega arith

  pub total_only : (f : A → ℕ) (l : List A) (i : ℕ) (x : A) → get_elem? l i ≡ some x → Each (λ j y. j ≢ i → f y ≡ 0) l
      → total f l ≡ f x
  total_only f [] i x e h = absurd (some-ne-none x (sym e))
  total_only f (z ∷ zs) zero x e h =
      let g : f z ≡ f x = ap f (some-injective z x e) in
      let r = total_none f zs (λ j y at. h (suc j) y at (λ c. omega arith)) in omega arith
  total_only f (z ∷ zs) (suc i) x e h =
      let a = h 0 z refl (λ c. omega arith) in
      let r = total_only f zs i x e (λ j y at n. h (suc j) y at (λ c. n (omega arith))) in omega arith

  pub total_same : (f : A → ℕ) (l : List A) (i : ℕ) (x y : A) → get_elem? l i ≡ some x → f y ≡ f x
      → total f (set l i y) ≡ total f l
  total_same f l i x y e same = let r = total_set f l i x y e in omega arith

-- ---- numbers

pub times-append : (p : ℕ) (xs ys : List ℕ) → times p (xs ++ ys) ≡ times p xs + times p ys
times-append p [] ys = omega arith
times-append p (x ∷ xs) ys = let r = times-append p xs ys in omega arith

pub times_here : (p q : ℕ) (qs : List ℕ) → q ≡ p → times p (q ∷ qs) ≡ 1 + times p qs
times_here p q qs e = ap (λ b. one_if b + times p qs) (eq-eqb q p e)

pub times_else : (p q : ℕ) (qs : List ℕ) → q ≢ p → times p (q ∷ qs) ≡ times p qs
times_else p q qs n = let e = ap (λ b. one_if b + times p qs) (ne_eqb q p n) in omega arith
