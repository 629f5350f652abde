-- Steps of reading a checksum, a pair of digits at a time.
use Rattle.std.proofs.Common.{◌≡◌, ℕ, ◌+◌, ◌*◌, ◌<◌, ◌≤◌, Bool, true, false, if◌then◌else◌, List, length, take, drop, slice_index, Option, Some, None, Ok, refl, sym, ap, ◌∙◌, arith}
use Rattle.std.specs.List.{list_all}
use Rattle.std.proofs.lemmas.List.{take_all}
use Rattle.std.proofs.lemmas.List.Folds.{list_all_more}
use Rattle.hex.specs.Hex.{decode_pairs, hex_digit_value, pair_value}
use Rattle.hex.proofs.Pairs.{prepend, decode_done, decode_sized-pairs}
use Rattle.document_checksum.specs.Text.{checksum_of_text, is_lower_digit}

-- the value of a digit that may only be in lower case
abbrev pub lower_value : ℕ → Option ℕ
lower_value c = if is_lower_digit c then hex_digit_value c else None

some_if : (b : Bool) (o : Option ℕ) (v : ℕ) → (if b then o else None) ≡ Some v → (b ≡ true) × (o ≡ Some v)
some_if true o v h = (refl, h)
some_if false o v h = cc h

-- a character with a value is a digit in lower case
pub is_lower-some : (c v : ℕ) → lower_value c ≡ Some v → is_lower_digit c ≡ true
is_lower-some c v h = (some_if (is_lower_digit c) (hex_digit_value c) v h).0

-- two digits spell a byte
pub pair_of : (a b i v w : ℕ) → lower_value a ≡ Some v → lower_value b ≡ Some w → pair_value a b i ≡ Ok (v * 16 + w)
pair_of a b i v w high low =
    let ha = (some_if (is_lower_digit a) (hex_digit_value a) v high).1 in
    let hb = (some_if (is_lower_digit b) (hex_digit_value b) w low).1 in
    rw (ha, hb) refl

-- two more digits in lower case
pub lower_step : (text : List ℕ) (i : ℕ) → 2 * i + 1 < length text
    → is_lower_digit (slice_index text (2 * i)) ≡ true → is_lower_digit (slice_index text (2 * i + 1)) ≡ true
    → list_all is_lower_digit (take (2 * i) text) ≡ true → list_all is_lower_digit (take (2 * (i + 1)) text) ≡ true
lower_step text i fits high low before =
    let two : 2 * (i + 1) ≡ 2 * i + 1 + 1 = omega arith in
    let first = list_all_more is_lower_digit text (2 * i) 0 (omega arith) in
    let second = list_all_more is_lower_digit text (2 * i + 1) 0 fits in
    rw (two, second, first, before, high, low) refl

-- 64 digits spell the checksum
pub whole : (text bytes : List ℕ) (i : ℕ) → length text ≡ 64 → length bytes ≡ 32 → 32 ≤ i
    → list_all is_lower_digit (take (2 * i) text) ≡ true
    → decode_pairs 0 text ≡ prepend (take i bytes) (decode_pairs (2 * i) (drop (2 * i) text))
    → Some (record { 0 = bytes }) ≡ checksum_of_text text
whole text bytes i long room end low inv =
    let all = ap (list_all is_lower_digit) (sym (take_all (2 * i) text (omega arith))) ∙ low in
    let read = decode_sized-pairs text 32 (omega arith) (omega arith) ∙ decode_done text bytes i (omega arith) (omega arith) inv in
    rw (all, read) refl
