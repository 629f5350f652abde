-- Tests on names, and on lists of records and chains.
use Rattle.std.proofs.Common.{◌≡◌, Bool, true, false, ◌||◌, ◌&&◌, List, [], ◌∷◌, refl, ap, subst, ◌∙◌, inl, inr}
use Rattle.std.specs.Prelude.{◌⊎◌}
use Rattle.std.specs.List.{list_any}
use Rattle.std.proofs.lemmas.Slice.Eq.{bytes_eq-Decides}
use Rattle.ebl_base.specs.Checksum.{checksum_eq}
use Rattle.ebl_base.specs.declared.checksum.Checksum.{Checksum}
use Rattle.closed_family.specs.Chains.{IsAmong}

-- names that are one by the test are equal
pub checksum_eq-same : (a b : Checksum) → checksum_eq a b ≡ true → a ≡ b
checksum_eq-same a b h = let e = (bytes_eq-Decides a.0 b.0).0 h in λ i. record { 0 = e i }

-- and a name is one with itself
pub checksum_eq-itself : (a : Checksum) → checksum_eq a a ≡ true
checksum_eq-itself a = (bytes_eq-Decides a.0 a.0).1 refl

-- equal names are one by the test
pub checksum_eq-of : (a b : Checksum) → a ≡ b → checksum_eq a b ≡ true
checksum_eq-of a b h = subst (λ (x : Checksum). checksum_eq a x ≡ true) h (checksum_eq-itself a)

-- one of two is true where their disjunction is
pub or_cases : (a b : Bool) → (a || b) ≡ true → (a ≡ true) ⊎ (b ≡ true)
or_cases true b h = inl refl
or_cases false b h = inr h

pub or_right : (a b : Bool) → b ≡ true → (a || b) ≡ true
or_right true b h = refl
or_right false b h = h

pub or_left : (a b : Bool) → a ≡ true → (a || b) ≡ true
or_left true b h = refl
or_left false b h = absurd (true_is_not h)
  where
    true_is_not : false ≡ true → ⊥
    true_is_not e = cc

-- a test is true or false
pub decided : (b : Bool) → (b ≡ true) ⊎ (b ≡ false)
decided true = inl refl
decided false = inr refl

-- what isn't true is false
pub false_unless : (b : Bool) → (b ≡ true → ⊥) → b ≡ false
false_unless true h = absurd (h refl)
false_unless false h = refl

-- a test isn't both
pub not_both : {b : Bool} → b ≡ true → b ≡ false → ⊥
not_both yes_it_is no_it_is = cc

-- both of two are true where their conjunction is
pub and_both : (a b : Bool) → (a && b) ≡ true → (a ≡ true) × (b ≡ true)
and_both true b h = (refl, h)
and_both false b h = absurd (not_both h refl)

-- all of three are false
pub none_of_three : (a b c : Bool) → a ≡ false → b ≡ false → c ≡ false → (a || b || c) ≡ false
none_of_three a b c p q r = ap (λ (x : Bool). x || b || c) p ∙ ap (λ (x : Bool). x || c) q ∙ r

-- some item of a list passes a test
pub record Passes {X : Type 0} (test : X → Bool) (list : List X) : Type 0 where
  pub item : X
  pub among : IsAmong item list
  pub passes : test item ≡ true

pub passing_item : {X : Type 0} (test : X → Bool) (list : List X) → list_any test list ≡ true → Passes test list
passing_item test [] h = cc
passing_item test (x ∷ xs) h = on_first (or_cases (test x) (list_any test xs) h) (passing_item test xs)
  where
    on_first : (test x ≡ true) ⊎ (list_any test xs ≡ true) → (list_any test xs ≡ true → Passes test xs)
        → Passes test (x ∷ xs)
    on_first (inl first) further = record { item = x; among = inl refl; passes = first }
    on_first (inr later) further =
        let p = further later in
        record { item = p.item; among = inr p.among; passes = p.passes }
