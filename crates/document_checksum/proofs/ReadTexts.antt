-- What is read from a text is a checksum, and the text of a checksum is ASCII.
use Rattle.std.proofs.Common.{◌≡◌, ℕ, nat_lt, Bool, true, false, cond, List, [], ◌∷◌, Some, None, Result, Ok, Err, IsUtf8, refl, sym, ◌∙◌, subst, arith}
use Rattle.std.specs.List.{list_all}
use Rattle.std.specs.Str.{IsAscii}
use Rattle.std.proofs.lemmas.Bool.{and_parts}
use Rattle.std.proofs.lemmas.Bool.Decides.{nat_tests}
use Rattle.std.proofs.lemmas.Str.{IsUtf8-from_ascii}
use Rattle.std.proofs.lemmas.Str.Ascii.{IsAscii-nil, IsAscii-cons}
use Rattle.hex.specs.Hex.{decode_sized, lower_digits}
use Rattle.hex.specs.declared.error.FromHexError.{FromHexError}
use Rattle.hex.proofs.HexLemmas.{decode_of-ok, decode_sized-ok, decode_sized-twice, IsAscii-encode_with}
use Rattle.ebl_base.specs.declared.checksum.Checksum.{Checksum}
use Rattle.document_checksum.specs.Digest.{IsChecksum}
use Rattle.document_checksum.specs.Text.{checksum_from, checksum_of_text, checksum_text, is_lower_digit}

-- the bytes that the digits of a text spell are 32
from_digits : (text : List ℕ) (spelt : Result (List ℕ) FromHexError) (c : Checksum)
    → decode_sized text 32 ≡ spelt → checksum_from spelt ≡ Some c → IsChecksum c
from_digits text (Err fault) c read h = cc
from_digits text (Ok bytes) c read h =
    let same : record { 0 = bytes } ≡ c = cc in
    let long = decode_sized-ok text 32 bytes read in
    let parts = decode_of-ok text bytes (sym (decode_sized-twice text 32 long) ∙ read) in
    let twice = parts.2 in
    subst IsChecksum same (record { size = omega arith; bytes = parts.3 })

-- what is read from a text is a checksum
pub IsChecksum-checksum_of_text : (text : List ℕ) (c : Checksum) → checksum_of_text text ≡ Some c → IsChecksum c
IsChecksum-checksum_of_text text c h = by_test (list_all is_lower_digit text) h
  where
    by_test : (b : Bool) → cond b (checksum_from (decode_sized text 32)) None ≡ Some c → IsChecksum c
    by_test true f = from_digits text (decode_sized text 32) c refl f
    by_test false f = cc

-- bytes that are tested
ascii_by_test : (bytes : List ℕ) → list_all (λ b. nat_lt b 128) bytes ≡ true → IsAscii bytes
ascii_by_test [] h = IsAscii-nil
ascii_by_test (b ∷ bytes) h =
    let parts = and_parts (nat_lt b 128) (list_all (λ x. nat_lt x 128) bytes) h in
    IsAscii-cons b bytes (grind (arith, nat_tests, parts.0)) (ascii_by_test bytes parts.1)

-- the text of a checksum is UTF-8
pub IsUtf8-checksum_text : (c : Checksum) → IsUtf8 (checksum_text c)
IsUtf8-checksum_text c =
    IsUtf8-from_ascii (checksum_text c) (IsAscii-encode_with lower_digits c.0 (ascii_by_test lower_digits refl))
