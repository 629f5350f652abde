-- The text of a decimal is a number of JSON, and reads as that decimal.
use Rattle.std.proofs.Common.{◌≡◌, ℕ, ℤ, pos, negsuc, zero, suc, ◌+◌, ◌-◌, ◌/◌, ◌%◌, ◌*◌, ◌^◌, ◌<◌, ◌≤◌, ◌⊎◌, inl, inr, Bool, true, false, not, cond, ◌&&◌, ◌==◌, nat_lt, nat_le, List, [], ◌∷◌, ◌++◌, length, take, drop, replicate, get_or, decimal, unsigned_abs, IsAscii, Ok, Err, refl, sym, ap, ap₂, ◌∙◌, subst, arith, append-nil, length-append, true≢false, ltb-true, le-leb}
use Rattle.std.proofs.lemmas.Bool.{cases_lt, ne_eqb, and_parts, or_parts, ltb-false}
use Rattle.std.proofs.lemmas.List.{take-append-drop, length-drop}
use Rattle.std.proofs.lemmas.Fmt.{decimal_is_IsNumeral, decimal_nonempty, first_decimal}
use Rattle.std.specs.Char.{digit_value}
use Rattle.std.specs.Fmt.{sign_text, signed_decimal}
use Rattle.std.specs.Str.Parse.{AllDigits, digits_value, digits_value_after}
use Rattle.fast_float.specs.Text.{Parts, text_of, digits_of, with_sign, IsWellFormed}
use Rattle.fast_float.proofs.Writing.{scan-text_of, IsAscii-text_of}
use Rattle.ryu.specs.Plain.{IsPlain}
use Rattle.json.specs.Print.{IsNumber}
use Rattle.json.proofs.Printed.Floats.{IsNumber-plain}
use Rattle.canonical_json.specs.Value.{int}
use Rattle.canonical_json.specs.Value as value
use Rattle.canonical_json.specs.Number.{lowest, is_decimal, greatest, exact, from_parts, number_in}
use Rattle.canonical_json.specs.Lawful.{is_out_of_range}
use Rattle.canonical_json.specs.declared.fault.ReadError.TheVariants.{Fraction, Range}
use Rattle.canonical_json.specs.Canon.{filled, with_stop, decimal_text}

-- ---- a text of digits, perhaps with a fraction, is scanned back

no_minus : (ds rest : List ℕ) → AllDigits 10 ds → 0 < length ds → get_or (ds ++ rest) 0 0 ≡ 45 → ⊥
no_minus [] rest h some e = omega arith
no_minus (d ∷ ds) rest h some e = let digit : digit_value d < 10 = h.0 in let is : d ≡ 45 = e in grind arith

pub number_in-text_of : (negative : Bool) (p : Parts) → IsWellFormed p → 0 < length p.whole → number_in (sign_text negative ++ text_of p) ≡ from_parts negative p
unfolding number_in
number_in-text_of true p h some = ap (from_parts true) (scan-text_of p h)
number_in-text_of false p h some = rw (ne_eqb (get_or (text_of p) 0 0) 45 (no_minus p.whole _ h.whole_digits some)) (ap (from_parts false) (scan-text_of p h))

-- ---- whole numbers

abbrev whole_parts : ℕ → Parts
whole_parts n = record { whole = decimal n; point = false; fraction = []; exponent_negative = false; exponent = []; len = length (decimal n ++ []) }

number_in-whole : (negative : Bool) (n : ℕ) → n ≤ greatest → number_in (sign_text negative ++ decimal n) ≡ Ok (int (with_sign negative n))
number_in-whole negative n h =
    let small : n < 2 ^ 64 = omega arith in
    let e = decimal_is_IsNumeral n small in
    let formed : IsWellFormed (whole_parts n) = record { whole_digits = e.0.1; fraction_digits = tt; exponent_digits = tt; no_point = λ _. refl; no_exponent = λ _. refl; len_is = refl } in
    let value : digits_of (whole_parts n) ≡ n = ap (digits_value 10) (append-nil (decimal n)) ∙ e.1 in
    ap (λ s. number_in (sign_text negative ++ s)) (sym (append-nil (decimal n))) ∙ number_in-text_of negative (whole_parts n) formed (decimal_nonempty n small)
    ∙ ap (λ v. exact negative (lowest v 0)) value ∙ ap (λ b. cond b (Ok (int (with_sign negative n))) (Err Range)) (le-leb n greatest h)

not-false : (b : Bool) → not b ≡ true → b ≡ false
not-false true e = absurd (true≢false (sym e))
not-false false e = refl

pub in_range-pos : (n : ℕ) → not (is_out_of_range (pos n)) ≡ true → n ≤ 9007199254740991
in_range-pos n h = ltb-false 9007199254740991 n (not-false _ h)

pub in_range-negsuc : (n : ℕ) → not (is_out_of_range (negsuc n)) ≡ true → n ≤ 9007199254740990
in_range-negsuc n h = ltb-false 9007199254740990 n (or_parts _ false (not-false _ h)).0

pub number_in-signed_decimal : (z : ℤ) → not (is_out_of_range z) ≡ true → number_in (signed_decimal z) ≡ Ok (int z)
number_in-signed_decimal (pos n) h = number_in-whole false n (in_range-pos n h)
number_in-signed_decimal (negsuc n) h = number_in-whole true (suc n) (let k = in_range-negsuc n h in omega arith)

-- ---- decimals

zeros_first : (k : ℕ) (ds : List ℕ) → digits_value_after 10 0 (replicate k 48 ++ ds) ≡ digits_value_after 10 0 ds
zeros_first zero ds = refl
zeros_first (suc k) ds = zeros_first k ds

AllDigits-zeros : (k : ℕ) (ds : List ℕ) → AllDigits 10 ds → AllDigits 10 (replicate k 48 ++ ds)
AllDigits-zeros zero ds h = h
AllDigits-zeros (suc k) ds h = (omega arith, AllDigits-zeros k ds h)

AllDigits-take : (xs : List ℕ) (k : ℕ) → AllDigits 10 xs → AllDigits 10 (take k xs)
AllDigits-take xs zero all = tt
AllDigits-take [] (suc k) all = tt
AllDigits-take (x ∷ xs) (suc k) all = (all.0, AllDigits-take xs k all.1)

AllDigits-drop : (xs : List ℕ) (k : ℕ) → AllDigits 10 xs → AllDigits 10 (drop k xs)
AllDigits-drop xs zero all = all
AllDigits-drop [] (suc k) all = tt
AllDigits-drop (x ∷ xs) (suc k) all = AllDigits-drop xs k all.1

length-replicate : (k : ℕ) → length (replicate {A = ℕ} k 48) ≡ k
length-replicate zero = refl
length-replicate (suc k) = ap suc (length-replicate k)

length-take : (k : ℕ) (xs : List ℕ) → k ≤ length xs → length (take k xs) ≡ k
length-take zero xs h = refl
length-take (suc k) [] h = absurd (omega arith)
length-take (suc k) (x ∷ xs) h = ap suc (length-take k xs (omega arith))

get_or-take_first : (k : ℕ) (xs : List ℕ) → 0 < k → get_or (take k xs) 0 0 ≡ get_or xs 0 0
get_or-take_first zero xs h = absurd (omega arith)
get_or-take_first (suc k) [] h = refl
get_or-take_first (suc k) (x ∷ xs) h = refl

-- what a decimal's size and scale are
record IsSize (m s : ℕ) : Type 0 where
  some : 0 < m
  small : m < 2 ^ 64
  places : 0 < s
  lowest_terms : lowest m s ≡ (m, s)

size_of : (m s : ℕ) → is_decimal m s ≡ true → IsSize m s
size_of m zero h = absurd (true≢false (sym h))
size_of m (suc s) h =
    let p = and_parts (nat_lt 0 (suc s) && not (m % 10 == 0) && nat_lt m 1000000000000000) (nat_le (10 ^ suc s) (m * 1000000)) h in
    let q = and_parts (nat_lt 0 (suc s) && not (m % 10 == 0)) (nat_lt m 1000000000000000) p.0 in
    let r = and_parts (nat_lt 0 (suc s)) (not (m % 10 == 0)) q.0 in
    let ends = not-false (m % 10 == 0) r.1 in
    record {
      some = nonzero m ends;
      small = let l = ltb-true m 1000000000000000 q.1 in omega arith;
      places = omega arith;
      lowest_terms = ap (λ b. cond b (lowest (m / 10) s) (m, suc s)) ends;
    }
  where
    nonzero : (m : ℕ) → (m % 10 == 0) ≡ false → 0 < m
    nonzero zero e = absurd (true≢false e)
    nonzero (suc m) e = omega arith

-- the parts of a decimal's text
abbrev decimal_parts : ℕ → ℕ → Parts
decimal_parts m s =
    let f = filled s (decimal m) in
    let k = length (filled s (decimal m)) - s in
    record { whole = take k f; point = true; fraction = drop k f; exponent_negative = false; exponent = []; len = length (take k f ++ ((46 ∷ drop k f) ++ [])) }

text_of-parts : (m s : ℕ) → with_stop s (decimal m) ≡ text_of (decimal_parts m s)
text_of-parts m s = let f = filled s (decimal m) in let k = length f - s in ap (λ l. take k f ++ l) (sym (append-nil (46 ∷ drop k f)))

length-filled : (m s : ℕ) → length (filled s (decimal m)) ≡ (suc s - length (decimal m)) + length (decimal m)
length-filled m s = length-append (replicate (suc s - length (decimal m)) 48) (decimal m) ∙ ap (λ n. n + length (decimal m)) (length-replicate (suc s - length (decimal m)))

decimal_plain : (m s : ℕ) → IsSize m s → IsPlain (decimal_parts m s)
decimal_plain m s h =
    let ds = decimal m in
    let f = filled s (decimal m) in
    let k = length (filled s (decimal m)) - s in
    let digits = AllDigits-zeros (suc s - length ds) ds (decimal_is_IsNumeral m h.small).0.1 in
    let len = length-filled m s in
    let first : length (take k f) ≡ k = length-take k f (omega arith) in
    record {
      well_formed = record { whole_digits = AllDigits-take f k digits; fraction_digits = AllDigits-drop f k digits; exponent_digits = tt; no_point = λ e. absurd (true≢false e); no_exponent = λ _. refl; len_is = refl };
      whole = omega (arith, first, len);
      no_leading_zero = by (cases_lt s (length ds)) len first;
      fraction = λ _. omega (arith, length-drop k f, len, h.places);
      marked = λ e. absurd (true≢false e);
    }
  where
    by : (s < length (decimal m)) ⊎ (length (decimal m) ≤ s)
        → length (filled s (decimal m)) ≡ (suc s - length (decimal m)) + length (decimal m)
        → length (take (length (filled s (decimal m)) - s) (filled s (decimal m))) ≡ length (filled s (decimal m)) - s
        → get_or (take (length (filled s (decimal m)) - s) (filled s (decimal m))) 0 0 ≡ 48
        → length (take (length (filled s (decimal m)) - s) (filled s (decimal m))) ≡ 1
    by (inr few) len first e = omega (arith, len, first)
    by (inl more) len first e =
        let none : suc s - length (decimal m) ≡ 0 = omega arith in
        let is : get_or (filled s (decimal m)) 0 0 ≡ get_or (decimal m) 0 0 = ap (λ j. get_or (replicate j 48 ++ decimal m) 0 0) none in
        let high = first_decimal m h.some h.small in
        absurd (omega (arith, get_or-take_first (length (filled s (decimal m)) - s) (filled s (decimal m)) (omega (arith, len)), e, is, high))

decimal_digits : (m s : ℕ) → IsSize m s → digits_of (decimal_parts m s) ≡ m
decimal_digits m s h =
    let f = filled s (decimal m) in
    ap (digits_value 10) (take-append-drop (length f - s) f) ∙ zeros_first (suc s - length (decimal m)) (decimal m) ∙ (decimal_is_IsNumeral m h.small).1

decimal_scale : (m s : ℕ) → length (drop (length (filled s (decimal m)) - s) (filled s (decimal m))) ≡ s
decimal_scale m s = let f = filled s (decimal m) in omega (arith, length-drop (length f - s) f, length-filled m s)

number_in-with_stop : (negative : Bool) (m s : ℕ) → is_decimal m s ≡ true
    → number_in (sign_text negative ++ with_stop s (decimal m)) ≡ Ok (value.decimal (with_sign negative m) s)
number_in-with_stop negative m zero h = absurd (true≢false (sym h))
number_in-with_stop negative m (suc s) h =
    let size = size_of m (suc s) h in
    let plain = decimal_plain m (suc s) size in
    ap (λ l. number_in (sign_text negative ++ l)) (text_of-parts m (suc s)) ∙ number_in-text_of negative (decimal_parts m (suc s)) plain.well_formed plain.whole
    ∙ ap₂ (λ v n. exact negative (lowest v n)) (decimal_digits m (suc s) size) (decimal_scale m (suc s))
    ∙ ap (exact negative) size.lowest_terms ∙ ap (λ b. cond b (Ok (value.decimal (with_sign negative m) (suc s))) (Err Fraction)) h

pub number_in-decimal_text : (z : ℤ) (s : ℕ) → is_decimal (unsigned_abs z) s ≡ true → number_in (decimal_text z s) ≡ Ok (value.decimal z s)
number_in-decimal_text (pos n) s h = number_in-with_stop false n s h
number_in-decimal_text (negsuc n) s h = number_in-with_stop true (suc n) s h

pub IsNumber-decimal_text : (z : ℤ) (s : ℕ) → is_decimal (unsigned_abs z) s ≡ true → IsNumber (decimal_text z s)
IsNumber-decimal_text (pos n) s h = IsNumber-plain _ (false, decimal_parts n s, text_of-parts n s, decimal_plain n s (size_of n s h))
IsNumber-decimal_text (negsuc n) s h = IsNumber-plain _ (true, decimal_parts (suc n) s, ap (λ l. 45 ∷ l) (text_of-parts (suc n) s), decimal_plain (suc n) s (size_of (suc n) s h))

pub IsAscii-decimal_text : (z : ℤ) (s : ℕ) → is_decimal (unsigned_abs z) s ≡ true → IsAscii (decimal_text z s)
IsAscii-decimal_text (pos n) s h =
    subst IsAscii (sym (text_of-parts n s)) (IsAscii-text_of false (decimal_parts n s) (decimal_plain n s (size_of n s h)).well_formed)
IsAscii-decimal_text (negsuc n) s h =
    subst IsAscii (sym (ap (λ l. 45 ∷ l) (text_of-parts (suc n) s))) (IsAscii-text_of true (decimal_parts (suc n) s) (decimal_plain (suc n) s (size_of (suc n) s h)).well_formed)
