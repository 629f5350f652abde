-- Digits behind digits, and numbers in lowest terms.
use Rattle.std.proofs.Common.{◌≡◌, ◌≢◌, ℕ, zero, suc, ◌+◌, ◌-◌, ◌*◌, ◌/◌, ◌%◌, ◌^◌, ◌<◌, ◌≤◌, ◌⊎◌, inl, inr, min, Bool, true, false, not, cond, ◌&&◌, ◌==◌, nat_lt, nat_le, slice_index, replicate, Err, drop, List, [], ◌∷◌, ◌++◌, length, take, get_or, refl, sym, ap, ◌∙◌, arith, true≢false}
use Rattle.std.proofs.lemmas.Bool.{cases_lt, ne_eqb, le-ltb, lt-ltb, lt-leb, and_from}
use Rattle.std.proofs.lemmas.List.{take_all}
use native.Mathlib.Nat.{pow-le-pow_right}
use Rattle.std.specs.Char.{digit_value}
use Rattle.std.specs.Str.Parse.{AllDigits, digits_value_after}
use Rattle.std.proofs.lemmas.Str.Parse.{digit_from_value}
use Rattle.std.proofs.lemmas.Str.{digit_value_digit}
use Rattle.fast_float.specs.Text.{Parts, scan}
use Rattle.canonical_json.specs.Number.{lowest, is_decimal, exact, from_parts, is_negative, number_in}
use Rattle.canonical_json.specs.Faults.{ends_in_zero}
use Rattle.canonical_json.specs.declared.fault.ReadError.TheVariants.{Fraction}

-- ---- digits behind digits

le_after : (n : ℕ) (ds : List ℕ) → n ≤ digits_value_after 10 n ds
le_after n [] = omega arith
le_after n (c ∷ cs) = omega (arith, le_after (n * 10 + digit_value c) cs)

-- a start that is too large stays so
pub capped_start : (v : ℕ) (ds : List ℕ) → min (digits_value_after 10 (min v 9007199254740992) ds) 9007199254740992 ≡ min (digits_value_after 10 v ds) 9007199254740992
capped_start v ds = by (cases_lt v 9007199254740992)
  where
    by : (v < 9007199254740992) ⊎ (9007199254740992 ≤ v) → min (digits_value_after 10 (min v 9007199254740992) ds) 9007199254740992 ≡ min (digits_value_after 10 v ds) 9007199254740992
    by (inl l) = let e : min v 9007199254740992 ≡ v = omega arith in ap (λ k. min (digits_value_after 10 k ds) 9007199254740992) e
    by (inr g) = omega (arith, le_after (min v 9007199254740992) ds, le_after v ds)

pub after_append : (n : ℕ) (xs ys : List ℕ) → digits_value_after 10 n (xs ++ ys) ≡ digits_value_after 10 (digits_value_after 10 n xs) ys
after_append n [] ys = refl
after_append n (c ∷ cs) ys = after_append (n * 10 + digit_value c) cs ys

pub take_next : (xs : List ℕ) (k : ℕ) (d : ℕ) → k < length xs → take (suc k) xs ≡ take k xs ++ (get_or xs k d ∷ [])
take_next [] k d h = absurd (omega arith)
take_next (x ∷ xs) zero d h = refl
take_next (x ∷ xs) (suc k) d h = ap (λ l. x ∷ l) (take_next xs k d (omega arith))

pub AllDigits-at : (xs : List ℕ) (k d : ℕ) → k < length xs → AllDigits 10 xs → digit_value (get_or xs k d) < 10
AllDigits-at [] k d h all = absurd (omega arith)
AllDigits-at (x ∷ xs) zero d h all = all.0
AllDigits-at (x ∷ xs) (suc k) d h all = AllDigits-at xs k d (omega arith) all.1

pub AllDigits-take : (xs : List ℕ) (k : ℕ) → AllDigits 10 xs → AllDigits 10 (take k xs)
AllDigits-take xs zero all = tt
AllDigits-take [] (suc k) all = tt
AllDigits-take (x ∷ xs) (suc k) all = (all.0, AllDigits-take xs k all.1)

-- ---- zeros at the end of a fraction

strip : (m s : ℕ) → lowest (m * 10 + 0) (suc s) ≡ lowest m s
strip m s =
    let ends : (m * 10 + 0) % 10 ≡ 0 = omega arith in
    let rest : (m * 10 + 0) / 10 ≡ m = omega arith in
    ap (λ r. cond (r == 0) (lowest ((m * 10 + 0) / 10) s) (m * 10 + 0, suc s)) ends ∙ ap (λ q. lowest q s) rest

keep : (m c s : ℕ) → c < 10 → c ≢ 0 → lowest (m * 10 + c) (suc s) ≡ (m * 10 + c, suc s)
keep m c s digit some =
    let ends : (m * 10 + c) % 10 ≡ c = omega arith in
    ap (λ b. cond b (lowest ((m * 10 + c) / 10) s) (m * 10 + c, suc s)) (ap (λ r. r == 0) ends ∙ ne_eqb c 0 some)

-- a zero at the end doesn't count
pub zero_stripped : (n : ℕ) (xs : List ℕ) (k d : ℕ) → k < length xs → get_or xs k d ≡ 48
    → lowest (digits_value_after 10 n (take (suc k) xs)) (suc k) ≡ lowest (digits_value_after 10 n (take k xs)) k
zero_stripped n xs k d h e =
    ap (λ v. lowest v (suc k)) (ap (digits_value_after 10 n) (take_next xs k d h ∙ ap (λ c. take k xs ++ (c ∷ [])) e) ∙ after_append n (take k xs) (48 ∷ []))
    ∙ strip (digits_value_after 10 n (take k xs)) k

nonzero : (c : ℕ) → digit_value c < 10 → c ≢ 48 → digit_value c ≢ 0
nonzero c h ne e = let r = digit_from_value c h in ne (omega (arith, digit_value_digit c r))

-- another digit at the end stays
pub others_kept : (n : ℕ) (xs : List ℕ) (k d : ℕ) → k < length xs → AllDigits 10 xs → get_or xs k d ≢ 48
    → lowest (digits_value_after 10 n (take (suc k) xs)) (suc k) ≡ (digits_value_after 10 n (take (suc k) xs), suc k)
others_kept n xs k d h all ne =
    let c = get_or xs k d in
    let digit = AllDigits-at xs k d h all in
    let value = ap (digits_value_after 10 n) (take_next xs k d h) ∙ after_append n (take k xs) (c ∷ []) in
    ap (λ v. lowest v (suc k)) value ∙ keep (digits_value_after 10 n (take k xs)) (digit_value c) k digit (nonzero c digit ne) ∙ ap (λ v. (v, suc k)) (sym value)

-- ---- decimals

pub tens_past : (s : ℕ) → 20 < s → 1000000000000000000000 ≤ 10 ^ s
tens_past s h = let more : 10 ^ 21 ≤ 10 ^ s = pow-le-pow_right {n = 10} (omega arith) {i = 21} {j = s} (omega arith) in omega arith

third : (a b d : Bool) → (a && b && false && d) ≡ false
third true true d = refl
third true false d = refl
third false b d = refl

fourth : (a b c : Bool) → (a && b && c && false) ≡ false
fourth true true true = refl
fourth true true false = refl
fourth true false c = refl
fourth false b c = refl

large : (n s : ℕ) → 1000000000000000 ≤ n → is_decimal n s ≡ false
large n s h = ap (λ c. nat_lt 0 s && not (n % 10 == 0) && c && nat_le (10 ^ s) (n * 1000000)) (le-ltb n 1000000000000000 h) ∙ third (nat_lt 0 s) (not (n % 10 == 0)) (nat_le (10 ^ s) (n * 1000000))

-- no decimal has so many digits behind its full stop
pub too_deep : (n s : ℕ) → 20 < s → is_decimal n s ≡ false
too_deep n s h = by (cases_lt n 1000000000000000)
  where
    by : (n < 1000000000000000) ⊎ (1000000000000000 ≤ n) → is_decimal n s ≡ false
    by (inl l) =
        let past = tens_past s h in
        let above : n * 1000000 < 10 ^ s = omega arith in
        ap (λ d. nat_lt 0 s && not (n % 10 == 0) && nat_lt n 1000000000000000 && d) (lt-leb _ _ above) ∙ fourth (nat_lt 0 s) (not (n % 10 == 0)) (nat_lt n 1000000000000000)
    by (inr g) = large n s g

zero_ends : (xs : List ℕ) (k : ℕ) → get_or xs k 0 ≡ 48 → ends_in_zero xs (suc k) ≡ true
zero_ends xs k e =
    let less : suc k - 1 ≡ k = omega arith in
    and_from (nat_lt 0 (suc k)) (slice_index xs (suc k - 1) == 48) (lt-ltb 0 (suc k) (omega arith)) (ap (λ c. c == 48) (ap (λ j. get_or xs j 0) less ∙ e))

-- the bytes behind the first
pub behind_first : (xs : List ℕ) → take (length xs - 1) (drop 1 xs) ≡ drop 1 xs
behind_first [] = refl
behind_first (x ∷ xs) = take_all (suc (length xs) - 1) xs (omega arith)

-- where no digit before the end is 0, nothing is left to strip
pub stripped : (n : ℕ) (xs : List ℕ) (end : ℕ) → end ≤ length xs → AllDigits 10 xs → ends_in_zero xs end ≡ false
    → lowest (digits_value_after 10 n (take end xs)) end ≡ (digits_value_after 10 n (take end xs), length (take end xs))
stripped n xs zero within all none = refl
stripped n xs (suc k) within all none =
    others_kept n xs k 0 (omega arith) all (λ e. true≢false (sym (zero_ends xs k e) ∙ none))
    ∙ ap (λ l. (digits_value_after 10 n (take (suc k) xs), l)) (sym (length-take (suc k) xs within))
  where
    length-take : (k : ℕ) (ys : List ℕ) → k ≤ length ys → length (take k ys) ≡ k
    length-take zero ys h = refl
    length-take (suc k) [] h = absurd (omega arith)
    length-take (suc k) (y ∷ ys) h = ap suc (length-take k ys (omega arith))

-- ---- from the parts of a text to its value

pub from_parts-exact : (negative : Bool) (p : Parts) (n s : ℕ) → (length p.exponent == 0) ≡ true
    → lowest (digits_value_after 10 (digits_value_after 10 0 p.whole) p.fraction) (length p.fraction) ≡ (n, s) → from_parts negative p ≡ exact negative (n, s)
from_parts-exact negative p n s none e =
    ap (λ b. cond b (exact negative (lowest (digits_value_after 10 0 (p.whole ++ p.fraction)) (length p.fraction))) (Err Fraction)) none
    ∙ ap (λ v. exact negative (lowest v (length p.fraction))) (after_append 0 p.whole p.fraction) ∙ ap (exact negative) e

pub number_in-minus : (s : List ℕ) → is_negative s ≡ true → number_in s ≡ from_parts true (scan (drop 1 s))
unfolding number_in
number_in-minus s e = ap (λ b. from_parts b (cond b (scan (drop 1 s)) (scan s))) e

pub number_in-plain : (s : List ℕ) → is_negative s ≡ false → number_in s ≡ from_parts false (scan s)
unfolding number_in
number_in-plain s e = ap (λ b. from_parts b (cond b (scan (drop 1 s)) (scan s))) e

pub zeros_more : (n : ℕ) → 0 < n → replicate {A = ℕ} n 48 ≡ 48 ∷ replicate (n - 1) 48
zeros_more zero h = absurd (omega arith)
zeros_more (suc n) h = let e : n ≡ suc n - 1 = omega arith in ap (λ k. 48 ∷ replicate k 48) e
