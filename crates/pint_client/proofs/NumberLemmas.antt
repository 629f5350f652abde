-- The number that up to 19 digits write, digit by digit.
use Rattle.std.proofs.Common.{◌≡◌, ℕ, ◌+◌, ◌-◌, ◌*◌, ◌^◌, ◌≤◌, ◌<◌, true, List, length, take, get_or, ap, ◌∙◌, arith}
use Rattle.std.specs.Prelude.{nat_le, ◌&&◌}
use Rattle.std.specs.Char.{is_ascii_digit}
use Rattle.std.specs.List.{list_all}
use Rattle.std.specs.Str.Parse.{AllDigits, digits_value}
use Rattle.std.proofs.lemmas.Bool.{leb-true, and_parts}
use Rattle.std.proofs.lemmas.Str.{digit_value_digit}
use Rattle.std.proofs.lemmas.Str.Parse.{numerals_by_value, tells_digits, digits_value_short, digits_value-take-le, digit_at}
use Rattle.std.proofs.lemmas.Int.Digits.{digits_value_more}
use Rattle.http_heads.specs.Fields.{is_length}
use Rattle.http_heads.proofs.LengthLemmas.{AllDigits-tested}

-- the digit at a place, and the number with it
pub record NextDigit (ds : List ℕ) (i : ℕ) : Type 0 where
  pub low : 48 ≤ get_or ds i 0
  pub high : get_or ds i 0 ≤ 57
  pub more : digits_value 10 (take (i + 1) ds) ≡ digits_value 10 (take i ds) * 10 + (get_or ds i 0 - 48)
  pub most : digits_value 10 (take (i + 1) ds) < 2 ^ 64

pub next_digit : (ds : List ℕ) (i : ℕ) → is_length ds ≡ true → i < length ds → NextDigit ds i
next_digit ds i form within =
    let parts = and_parts (nat_le 1 (length ds)) (nat_le (length ds) 19 && list_all is_ascii_digit ds) form in
    let rest = and_parts (nat_le (length ds) 19) (list_all is_ascii_digit ds) parts.1 in
    let few : length ds ≤ 19 = leb-true (length ds) 19 rest.0 in
    let all = AllDigits-tested ds rest.1 in
    let own = numerals_by_value (AllDigits 10) tells_digits in
    let digit = digit_at ds i all within in
    let value = digit_value_digit (get_or ds i 0) digit in
    let whole : digits_value 10 ds < 10 ^ 19 = digits_value_short own ds 19 all few in
    let front = digits_value-take-le 10 ds (i + 1) (omega arith) in
    let step = digits_value_more 10 ds i within in
    record {
      low = digit.0;
      high = digit.1;
      more = step ∙ ap (λ d. digits_value 10 (take i ds) * 10 + d) (omega (arith, value));
      most = omega (arith, whole, front);
    }
