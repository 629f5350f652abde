-- Two lists side by side.
use Rattle.std.proofs.Common.{◌≡◌, ℕ, zero, suc, ◌+◌, ◌<◌, ◌≤◌, List, [], ◌∷◌, ◌++◌, length, map, get_or, Option, Some, refl, sym, ap, subst, ◌∙◌, arith, All}
use Rattle.std.specs.Prelude.{slice_get}
use Rattle.std.specs.List.{AllZip}
use Rattle.platform_office.specs.Opening.{Beside}

module _ {A B : Type 0} where
  pub beside_long : (R : ℕ → A → B → Type 0) (i : ℕ) (xs : List A) (ys : List B) → Beside R i xs ys
      → length ys ≡ length xs
  beside_long R i [] [] b = refl
  beside_long R i [] (y ∷ ys) b = absurd b
  beside_long R i (x ∷ xs) [] b = absurd b
  beside_long R i (x ∷ xs) (y ∷ ys) b = ap suc (beside_long R (suc i) xs ys b.1)

  pub beside_push : (R : ℕ → A → B → Type 0) (i : ℕ) (xs : List A) (ys : List B) (x : A) (y : B) → Beside R i xs ys
      → R (i + length xs) x y → Beside R i (xs ++ x ∷ []) (ys ++ y ∷ [])
  beside_push R i [] [] x y b r = (subst (λ (n : ℕ). R n x y) (omega arith) r, tt)
  beside_push R i [] (z ∷ ys) x y b r = absurd b
  beside_push R i (z ∷ xs) [] x y b r = absurd b
  beside_push R i (z ∷ xs) (u ∷ ys) x y b r = (
    b.0,
    beside_push R (suc i) xs ys x y b.1 (subst (λ (n : ℕ). R n x y) (omega arith) r),
  )

  -- the item at a place, and the one beside it
  pub beside_at : (R : ℕ → A → B → Type 0) (i : ℕ) (xs : List A) (ys : List B) (k : ℕ) (d : B) → Beside R i xs ys
      → k < length ys → (x : A) × R (i + k) x (get_or ys k d)
  beside_at R i [] [] k d b lt = absurd (omega arith)
  beside_at R i [] (y ∷ ys) k d b lt = absurd b
  beside_at R i (x ∷ xs) [] k d b lt = absurd b
  beside_at R i (x ∷ xs) (y ∷ ys) zero d b lt = (x, subst (λ (n : ℕ). R n x y) (omega arith) b.0)
  beside_at R i (x ∷ xs) (y ∷ ys) (suc k) d b lt =
      let (z, r) = beside_at R (suc i) xs ys k d b.1 (omega arith) in
      (z, subst (λ (n : ℕ). R n z (get_or ys k d)) (omega arith) r)

  -- what is said of a function of the second item
  pub beside_map : {C : Type 0} (R : ℕ → A → B → Type 0) (S : ℕ → A → C → Type 0) (f : B → C)
      → ((k : ℕ) (x : A) (y : B) → R k x y → S k x (f y)) → (i : ℕ) (xs : List A) (ys : List B) → Beside R i xs ys
      → Beside S i xs (map f ys)
  beside_map R S f step i [] [] b = tt
  beside_map R S f step i [] (y ∷ ys) b = absurd b
  beside_map R S f step i (x ∷ xs) [] b = absurd b
  beside_map R S f step i (x ∷ xs) (y ∷ ys) b = (step i x y b.0, beside_map R S f step (suc i) xs ys b.1)

  pub beside_zip : {C : Type 0} (R : ℕ → A → B → Type 0) (S : A → C → Type 0) (f : B → C)
      → ((k : ℕ) (x : A) (y : B) → R k x y → S x (f y)) → (i : ℕ) (xs : List A) (ys : List B) → Beside R i xs ys
      → AllZip S xs (map f ys)
  beside_zip R S f step i [] [] b = tt
  beside_zip R S f step i [] (y ∷ ys) b = absurd b
  beside_zip R S f step i (x ∷ xs) [] b = absurd b
  beside_zip R S f step i (x ∷ xs) (y ∷ ys) b = (step i x y b.0, beside_zip R S f step (suc i) xs ys b.1)

  pub zip_append : (R : A → B → Type 0) (xs us : List A) (ys vs : List B) → AllZip R xs ys → AllZip R us vs
      → AllZip R (xs ++ us) (ys ++ vs)
  zip_append R [] us [] vs a b = b
  zip_append R [] us (y ∷ ys) vs a b = absurd a
  zip_append R (x ∷ xs) us [] vs a b = absurd a
  zip_append R (x ∷ xs) us (y ∷ ys) vs a b = (a.0, zip_append R xs us ys vs a.1 b)

pub zip_same : {A : Type 0} (R : A → A → Type 0) → ((x : A) → R x x) → (xs : List A) → AllZip R xs xs
zip_same R same [] = tt
zip_same R same (x ∷ xs) = (same x, zip_same R same xs)

pub get_behind : {A : Type 0} (xs ys : List A) (x : A) (k : ℕ) → k ≡ length xs → slice_get (xs ++ x ∷ ys) k ≡ Some x
get_behind [] ys x zero e = refl
get_behind [] ys x (suc k) e = absurd (omega arith)
get_behind (z ∷ xs) ys x zero e = absurd (omega arith)
get_behind (z ∷ xs) ys x (suc k) e = get_behind xs ys x k (omega arith)

pub get_map : {A B : Type 0} (f : A → B) (xs : List A) (k : ℕ) (x : A) → slice_get xs k ≡ Some x
    → slice_get (map f xs) k ≡ Some (f x)
get_map f [] k x e = cc e
get_map f (y ∷ ys) zero x e = let same : y ≡ x = cc e in ap (λ z. Some (f z)) same
get_map f (y ∷ ys) (suc k) x e = get_map f ys k x e

-- ---- items at their places

pub got : {A : Type 0} (xs : List A) (k : ℕ) (x : A) → slice_get xs k ≡ Some x → (k < length xs) × (get_or xs k x ≡ x)
got [] k x e = cc e
got (y ∷ ys) zero x e = let same : y ≡ x = cc e in (omega arith, same)
got (y ∷ ys) (suc k) x e = let (lt, is) = got ys k x e in (omega (arith, lt), is)

pub all_at : {A : Type 0} (P : A → Type 0) (xs : List A) (k : ℕ) (x : A) → All P xs → slice_get xs k ≡ Some x → P x
all_at P xs k x all e = let (lt, is) = got xs k x e in subst P is (all k x lt)
