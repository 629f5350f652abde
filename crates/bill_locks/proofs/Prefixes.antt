-- Beginnings of lists.
use Rattle.std.proofs.Common.{◌≡◌, ℕ, ◌≤◌, ◌⊎◌, Bool, true, false, cond, ltb, List, [], ◌∷◌, ◌++◌, length, take, drop, refl, sym, ap, ◌∙◌, inl, inr, arith, append_assoc, length-append, length-take}
use Rattle.std.specs.Prelude.{nat_lt}
use Rattle.std.proofs.lemmas.List.{append-nil, take-append-drop}
use mathlib.Core.List.{IsPrefix}
use borrow.Author.Tests.{ltb-true, ltb-false}
use Rattle.bill_locks.specs.View.{longer, shorter}

module _ {A : Type 0} where
  pub prefix_itself : (xs : List A) → IsPrefix xs xs
  prefix_itself xs = ([], append-nil xs)

  pub prefix_of : (xs ys : List A) → xs ≡ ys → IsPrefix xs ys
  prefix_of xs ys e = ([], append-nil xs ∙ e)

  pub prefix_nothing : (xs : List A) → IsPrefix [] xs
  prefix_nothing xs = (xs, refl)

  pub prefix_trans : (a b c : List A) → IsPrefix a b → IsPrefix b c → IsPrefix a c
  prefix_trans a b c p q = (p.0 ++ q.0, sym (append_assoc a p.0 q.0) ∙ (ap (λ (x : List A). x ++ q.0) p.1 ∙ q.1))

  pub prefix_length : (a b : List A) → IsPrefix a b → length a ≤ length b
  prefix_length a b p = let e = sym (length-append a p.0) ∙ ap length p.1 in omega arith

  -- of two beginnings of one list the shorter begins the longer
  pub prefix_shorter : (a b c : List A) → IsPrefix a c → IsPrefix b c → length a ≤ length b → IsPrefix a b
  prefix_shorter [] b c p q le = (b, refl)
  prefix_shorter (x ∷ a) [] c p q le = absurd (omega arith)
  prefix_shorter (x ∷ a) (y ∷ b) [] p q le = let e = p.1 in absurd (cc)
  prefix_shorter (x ∷ a) (y ∷ b) (z ∷ c) p q le =
      let ep = p.1 in
      let eq = q.1 in
      let tp : a ++ p.0 ≡ c = cc in
      let tq : b ++ q.0 ≡ c = cc in
      let heads : x ≡ y = cc in
      let r : IsPrefix a b = prefix_shorter a b c (p.0, tp) (q.0, tq) (omega arith) in
      let er = r.1 in (
        r.0,
        cc,
      )

  pub prefix_take : (a c : List A) (n : ℕ) → IsPrefix a c → length a ≤ n → IsPrefix a (take n c)
  prefix_take a c n p le =
      let le' = prefix_length a c p in
      prefix_shorter a (take n c) c p (drop n c, take-append-drop n c) (omega (arith, length-take n c))

  -- ---- the longer and the shorter of two

  pub longer_of : (P : List A → Type 0) (a b : List A) → P a → P b → P (longer a b)
  longer_of P a b pa pb = elim (nat_lt (length a) (length b)) as (λ t. P (cond t b a)) [ true ↦ pb | false ↦ pa ]

  pub longer_one : (a b : List A) → (longer a b ≡ a) ⊎ (longer a b ≡ b)
  longer_one a b = longer_of (λ (x : List A). (x ≡ a) ⊎ (x ≡ b)) a b (inl refl) (inr refl)

  by_test : (a b c : List A) (t : Bool) → ltb (length a) (length b) ≡ t → IsPrefix a c → IsPrefix b c
      → IsPrefix (cond t a b) (cond t b a)
  by_test a b c true e p q = let lt = ltb-true (length a) (length b) e in prefix_shorter a b c p q (omega arith)
  by_test a b c false e p q = prefix_shorter b a c q p (ltb-false (length a) (length b) e)

  pub shorter_begins : (a b c : List A) → IsPrefix a c → IsPrefix b c → IsPrefix (shorter a b) (longer a b)
  shorter_begins a b c p q = by_test a b c (ltb (length a) (length b)) refl p q

  first_by : (a b : List A) (t : Bool) → IsPrefix (cond t a b) (cond t b a) → IsPrefix a (cond t b a)
  first_by a b true p = p
  first_by a b false p = prefix_itself a

  second_by : (a b : List A) (t : Bool) → IsPrefix (cond t a b) (cond t b a) → IsPrefix b (cond t b a)
  second_by a b true p = prefix_itself b
  second_by a b false p = p

  -- where the shorter begins the longer, both do
  pub first_begins : (a b : List A) → IsPrefix (shorter a b) (longer a b) → IsPrefix a (longer a b)
  first_begins a b p = first_by a b (ltb (length a) (length b)) p

  pub second_begins : (a b : List A) → IsPrefix (shorter a b) (longer a b) → IsPrefix b (longer a b)
  second_begins a b p = second_by a b (ltb (length a) (length b)) p
