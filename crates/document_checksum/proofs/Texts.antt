-- What is read as a checksum is written back as it stood, and what is written is read.
use Rattle.std.proofs.Common.{◌≡◌, ℕ, suc, ◌+◌, ◌*◌, ◌/◌, ◌%◌, ◌<◌, Bool, true, false, if◌then◌else◌, List, [], ◌∷◌, Some, None, Result, Ok, Err, refl, sym, ap, ◌∙◌, arith}
use Rattle.std.proofs.lemmas.Bool.{and_parts}
use Rattle.std.specs.List.{list_all}
use Rattle.std.specs.Result.{result_unwrap_or}
use Rattle.std.specs.Prelude.{IfSome}
use Rattle.hex.specs.Hex.{IsBytes, decode_pairs, decode_sized, encode_lower, encode_with, pair_value, value_at, ◌>>=◌}
use Rattle.hex.specs.declared.error.FromHexError.{FromHexError}
use Rattle.hex.proofs.HexLemmas.{decode_of-even, decode_sized-encode_lower, decode_sized-ok, decode_sized-twice}
use Rattle.ebl_base.specs.declared.checksum.Checksum.{Checksum}
use Rattle.document_checksum.specs.Digest.{IsChecksum}
use Rattle.document_checksum.specs.Text.{checksum_from, checksum_of_text, checksum_text, is_lower_digit}
use Rattle.document_checksum.proofs.Digits.{lower_digit_is_written, table_is_lower}

-- what an `Ok` after `>>=` shows
bind_ok : {A B : Type 0} (r : Result A FromHexError) (f : A → Result B FromHexError) (y : B)
    → (r >>= f) ≡ Ok y → (x : A) × (r ≡ Ok x) × (f x ≡ Ok y)
bind_ok (Ok x) f y h = (x, refl, h)
bind_ok (Err e) f y h = cc h

-- pairs of digits in lower case are the text of the bytes that they spell
pub pairs_are_written : (i : ℕ) (text bytes : List ℕ) → list_all is_lower_digit text ≡ true → decode_pairs i text ≡ Ok bytes
    → encode_lower bytes ≡ text
unfolding decode_pairs encode_with
pairs_are_written i [] bytes low h =
    let e : [] ≡ bytes = ap (λ (r : Result (List ℕ) FromHexError). result_unwrap_or r []) h in
    rw (← e) refl
pairs_are_written i (a ∷ []) bytes low h = cc h
pairs_are_written i (a ∷ b ∷ rest) bytes low h =
    let low_a = and_parts (is_lower_digit a) (list_all is_lower_digit (b ∷ rest)) low in
    let low_b = and_parts (is_lower_digit b) (list_all is_lower_digit rest) low_a.1 in
    let pair = bind_ok (pair_value a b i) _ bytes h in
    let high = bind_ok (value_at a i) _ pair.0 pair.1 in
    let low = bind_ok (value_at b (i + 1)) _ pair.0 high.2 in
    let later = bind_ok (decode_pairs (i + 2) rest) _ bytes pair.2 in
    let whole : pair.0 ∷ later.0 ≡ bytes = ap (λ (r : Result (List ℕ) FromHexError). result_unwrap_or r []) later.2 in
    let byte : high.0 * 16 + low.0 ≡ pair.0 = ap (λ (r : Result ℕ FromHexError). result_unwrap_or r 0) low.2 in
    let at_a = lower_digit_is_written a i high.0 low_a.0 high.1 in
    let at_b = lower_digit_is_written b (i + 1) low.0 low_b.0 low.1 in
    let first : pair.0 / 16 ≡ high.0 = omega (arith, at_b.0) in
    let second : pair.0 % 16 ≡ low.0 = omega (arith, at_b.0) in
    let ih = pairs_are_written (i + 2) rest later.0 low_b.1 later.1 in
    rw (← whole, first, second, at_a.1, at_b.1, ih) refl

-- the text of a checksum is in lower case
pub encode_lower-is_lower : (bytes : List ℕ) → IsBytes bytes → list_all is_lower_digit (encode_lower bytes) ≡ true
unfolding encode_with
encode_lower-is_lower [] h = refl
encode_lower-is_lower (b ∷ rest) h =
    let fits : b < 256 = h 0 in
    let high = table_is_lower (b / 16) (omega arith) in
    let low = table_is_lower (b % 16) (omega arith) in
    let ih = encode_lower-is_lower rest (λ k. h (suc k)) in
    rw (high, low, ih) refl

-- a checksum is read from its text
pub checksum_of_text-checksum_text : (c : Checksum) → IsChecksum c → checksum_of_text (checksum_text c) ≡ Some c
checksum_of_text-checksum_text c h =
    let low = encode_lower-is_lower c.0 h.bytes in
    let read = decode_sized-encode_lower c.0 32 h.size h.bytes in
    rw (low, read) refl

-- the text of a checksum that was read
text_of_read : (text : List ℕ) (read : Result (List ℕ) FromHexError) → list_all is_lower_digit text ≡ true
    → decode_sized text 32 ≡ read → IfSome (checksum_from read) (λ c. checksum_text c ≡ text)
text_of_read text (Err e) low h = tt
text_of_read text (Ok bytes) low h =
    let size = decode_sized-ok text 32 bytes h in
    let even = decode_sized-twice text 32 size in
    pairs_are_written 0 text bytes low (sym (decode_of-even text (omega (arith, size))) ∙ sym even ∙ h)

-- what is read as a checksum is its text
text_of_tested : (text : List ℕ) (low : Bool) → list_all is_lower_digit text ≡ low
    → IfSome (if low then checksum_from (decode_sized text 32) else None) (λ c. checksum_text c ≡ text)
text_of_tested text true low = text_of_read text (decode_sized text 32) low refl
text_of_tested text false low = tt

pub checksum_text-checksum_of_text : (text : List ℕ) → IfSome (checksum_of_text text) (λ c. checksum_text c ≡ text)
checksum_text-checksum_of_text text = text_of_tested text (list_all is_lower_digit text) refl
