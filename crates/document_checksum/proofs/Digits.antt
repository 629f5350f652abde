-- A digit in lower case is the digit that is written for its value.
use Rattle.std.proofs.Common.{◌≡◌, ℕ, zero, suc, ◌+◌, ◌<◌, ◌==◌, ◌&&◌, Bool, true, inl, inr, slice_index, Option, Some, None, Result, Ok, nat_lt, if◌then◌else◌, refl, ap, ◌∙◌, arith}
use Rattle.std.proofs.lemmas.Bool.{and_parts, cases_lt, eqb-true}
use Rattle.std.specs.Result.{result_unwrap_or}
use Rattle.hex.specs.Hex.{digit_or_error, hex_digit_value, lower_digits}
use Rattle.hex.specs.declared.error.FromHexError.{FromHexError}
use Rattle.document_checksum.specs.Text.{is_lower_digit}

-- the character of a value below sixteen
abbrev character : ℕ → ℕ
character d = if nat_lt d 10 then d + 48 else d + 87

-- the table has that character, which computes
abbrev is_in_table : ℕ → Bool
is_in_table d = slice_index lower_digits d == character d

-- the test of the first n places
abbrev all_in_table : ℕ → Bool
all_in_table zero = true
all_in_table (suc n) = is_in_table n && all_in_table n

-- a place below n passed the test
all_in_table-at : (n k : ℕ) → all_in_table n ≡ true → k < n → is_in_table k ≡ true
all_in_table-at zero k h lt = absurd (omega arith)
all_in_table-at (suc n) k h lt =
    let parts = and_parts (is_in_table n) (all_in_table n) h in
    elim (cases_lt k n) [
      | inl below ↦ all_in_table-at n k parts.1 below
      | inr top ↦
          let e : k ≡ n = omega arith in
          rw e parts.0
    ]

-- the table at a value below sixteen
slice_index-lower_digits : (d : ℕ) → d < 16 → slice_index lower_digits d ≡ character d
slice_index-lower_digits d lt = eqb-true (slice_index lower_digits d) (character d) (all_in_table-at 16 d refl lt)

-- the value of a digit in lower case, from the character
value_of_lower : (c v : ℕ) → is_lower_digit c ≡ true → hex_digit_value c ≡ Some v → (v < 16) × (character v ≡ c)
value_of_lower c v low h = (grind (arith), grind (arith))

-- the value of a digit that read
read_value : (c i v : ℕ) (o : Option ℕ) → digit_or_error c i o ≡ Ok v → o ≡ Some v
read_value c i v (Some w) h = ap Some (ap (λ (r : Result ℕ FromHexError). result_unwrap_or r 0) h)
read_value c i v None h = cc h

-- a digit in lower case stands in the table at its value
pub lower_digit_is_written : (c i v : ℕ) → is_lower_digit c ≡ true → digit_or_error c i (hex_digit_value c) ≡ Ok v
    → (v < 16) × (slice_index lower_digits v ≡ c)
lower_digit_is_written c i v low h =
    let both = value_of_lower c v low (read_value c i v (hex_digit_value c) h) in
    (both.0, slice_index-lower_digits v both.0 ∙ both.1)

-- each character of the table is in lower case
pub table_is_lower : (d : ℕ) → d < 16 → is_lower_digit (slice_index lower_digits d) ≡ true
table_is_lower d lt = rw (slice_index-lower_digits d lt) (grind (arith))
