-- The number that digits write, up to a number that is too large.
use Rattle.std.proofs.Common.{◌≡◌, ◌≢◌, ℕ, ◌+◌, ◌*◌, ◌<◌, ◌≤◌, ◌⊎◌, inl, inr, min, Bool, true, false, ◌&&◌, List, [], ◌∷◌, refl, ap, arith, true≢false, sym}
use Rattle.std.proofs.lemmas.Bool.{cases_lt, leb-true}
use Rattle.std.proofs.lemmas.Str.{digit_value_digit}
use Rattle.std.specs.Prelude.{nat_le}
use Rattle.std.specs.List.{list_all}
use Rattle.std.specs.Char.{digit_value, is_ascii_digit}
use Rattle.std.specs.Str.Parse.{AllDigits, digits_value_after}

le_after : (n : ℕ) (ds : List ℕ) → n ≤ digits_value_after 10 n ds
le_after n [] = omega arith
le_after n (c ∷ cs) = omega (arith, le_after (n * 10 + digit_value c) cs)

-- a start that is too large stays so
pub capped_start : (v : ℕ) (ds : List ℕ) → min (digits_value_after 10 (min v 4194305) ds) 4194305 ≡ min (digits_value_after 10 v ds) 4194305
capped_start v ds = by (cases_lt v 4194305)
  where
    by : (v < 4194305) ⊎ (4194305 ≤ v) → min (digits_value_after 10 (min v 4194305) ds) 4194305 ≡ min (digits_value_after 10 v ds) 4194305
    by (inl l) = let e : min v 4194305 ≡ v = omega arith in ap (λ k. min (digits_value_after 10 k ds) 4194305) e
    by (inr g) = omega (arith, le_after (min v 4194305) ds, le_after v ds)

both : (x y : Bool) → (x && y) ≡ true → (x ≡ true) × (y ≡ true)
both true y h = (refl, h)
both false y h = absurd (true≢false (sym h))

-- what passes the test of ASCII digits has digits alone
pub AllDigits-tested : (ds : List ℕ) → list_all is_ascii_digit ds ≡ true → AllDigits 10 ds
AllDigits-tested [] h = tt
AllDigits-tested (d ∷ ds) h =
    let parts = both (is_ascii_digit d) (list_all is_ascii_digit ds) h in
    let ends = both (nat_le 48 d) (nat_le d 57) parts.0 in
    let high : d ≤ 57 = leb-true d 57 ends.1 in
    let value = digit_value_digit d (leb-true 48 d ends.0, high) in
    (omega (arith, value, high), AllDigits-tested ds parts.1)

-- a length has digits alone
pub AllDigits-length : (a b : Bool) (ds : List ℕ) → (a && (b && list_all is_ascii_digit ds)) ≡ true → AllDigits 10 ds
AllDigits-length a b ds h = AllDigits-tested ds (both b (list_all is_ascii_digit ds) (both a (b && list_all is_ascii_digit ds) h).1).1
