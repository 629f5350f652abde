-- The number that a number's text is: RFC 8259, section 6. A numeral's whole part, fraction and exponent are those of
-- std's `scan`.
use Rattle.std.specs.Prelude.{ℕ, zero, suc, ◌*◌, ◌/◌, ◌%◌, ◌^◌, List, length, drop, slice_index, Bool, true, false, not, ◌&&◌, ◌==◌, nat_lt, nat_le, if◌then◌else◌, Result, Ok, Err}
use Rattle.fast_float.specs.Text.{minus, Parts, scan, digits_of, with_sign}
use Rattle.ebl_base.specs.declared.limits.TheConstants.{MAX_WHOLE_NUMBER}
use Rattle.canonical_json.specs.Value.{Value, null, int, decimal}
use Rattle.canonical_json.specs.declared.fault.ReadError.{ReadError}
use Rattle.canonical_json.specs.declared.fault.ReadError.TheVariants.{Fraction, Range}

-- a minus stands first
abbrev pub is_negative : List ℕ → Bool
is_negative s = slice_index s 0 == minus

-- the whole part, the fraction and the exponent, after the minus
abbrev pub parts_of : List ℕ → Parts
parts_of s = if is_negative s then scan (drop 1 s) else scan s

-- n / 10^s without the zeros at the end of its fraction
abbrev pub lowest : ℕ → ℕ → ℕ × ℕ
lowest n zero = (n, 0)
lowest n (suc s) = if n % 10 == 0 then lowest (n / 10) s else (n, suc s)

-- n / 10^s is a decimal: it is no whole number, n has at most 15 digits, and the number is at least 10^-6
abbrev pub is_decimal : ℕ → ℕ → Bool
is_decimal n s = nat_lt 0 s && not (n % 10 == 0) && nat_lt n 1000000000000000 && nat_le (10 ^ s) (n * 1000000)

-- the greatest whole number that is read: 2^53 - 1
abbrev pub greatest : ℕ
greatest = MAX_WHOLE_NUMBER

-- n / 10^s in lowest terms, with its sign, or why it is none of ours
abbrev pub exact : Bool → ℕ × ℕ → Result Value ReadError
exact negative (n, zero) = if nat_le n greatest then Ok (int (with_sign negative n)) else Err Range
exact negative (n, suc s) = if is_decimal n (suc s) then Ok (decimal (with_sign negative n) (suc s)) else Err Fraction

abbrev pub from_parts : Bool → Parts → Result Value ReadError
from_parts negative p =
    if length p.exponent == 0 then exact negative (lowest (digits_of p) (length p.fraction)) else Err Fraction

-- the value of a number's text, or its fault: Fraction for an exponent or more digits than a decimal has, Range for a
-- whole number past 2^53 - 1
unfoldable pub number_in : List ℕ → Result Value ReadError
number_in s = from_parts (is_negative s) (parts_of s)

-- the faults as tests
abbrev pub fails_by_fraction : Result Value ReadError → Bool
fails_by_fraction (Ok v) = false
fails_by_fraction (Err ReadError.NotJson) = false
fails_by_fraction (Err ReadError.Repeated) = false
fails_by_fraction (Err ReadError.Fraction) = true
fails_by_fraction (Err ReadError.Range) = false
fails_by_fraction (Err ReadError.NoMemory) = false

abbrev pub fails_by_range : Result Value ReadError → Bool
fails_by_range (Ok v) = false
fails_by_range (Err ReadError.NotJson) = false
fails_by_range (Err ReadError.Repeated) = false
fails_by_range (Err ReadError.Fraction) = false
fails_by_range (Err ReadError.Range) = true
fails_by_range (Err ReadError.NoMemory) = false

abbrev pub or_null : Result Value ReadError → Value
or_null (Ok v) = v
or_null (Err e) = null

abbrev pub is_fraction : List ℕ → Bool
is_fraction s = fails_by_fraction (number_in s)

abbrev pub is_big : List ℕ → Bool
is_big s = fails_by_range (number_in s)

-- the value of a number's text that has no fault
abbrev pub number_value : List ℕ → Value
number_value s = or_null (number_in s)
