-- A text in the compact layout has characters that stand for themselves in JSON, and are ASCII.
use Rattle.std.proofs.Common.{◌≡◌, ℕ, zero, suc, ◌+◌, ◌*◌, ◌/◌, ◌%◌, ◌<◌, ◌&&◌, ◌==◌, Bool, true, List, [], ◌∷◌, ◌++◌, length, nat_lt, slice_index, refl, arith, append-nil}
use Rattle.std.proofs.Math.Bool.{not}
use Rattle.std.proofs.lemmas.Bool.{and_parts}
use Rattle.std.proofs.lemmas.Bool.Decides.{nat_tests}
use Rattle.std.proofs.lemmas.List.Folds.{list_all-append}
use Rattle.std.proofs.lemmas.Str.{IsAscii-append, IsUtf8-from_ascii}
use Rattle.std.proofs.lemmas.Str.Ascii.{IsAscii-cons}
use Rattle.std.specs.List.{list_all}
use Rattle.std.specs.Str.{IsAscii, IsUtf8}
use Rattle.json.specs.Print.{escape, escape_byte}
use Rattle.base64.specs.Rfc4648.{encode_symbols}
use Rattle.base64.specs.GeneralPurpose.{IsBytes, engine_symbols}
use Rattle.base64.specs.Engines.{url_safe_no_pad}
use Rattle.base64.proofs.EngineFacts.{IsAscii-encode_of}
use Rattle.ebl_base.specs.Signature.{signature_bytes}
use Rattle.signed_envelope.specs.Compact.{IsCompact, base64url, signing_input}
use Rattle.signed_envelope.specs.declared.compact.Parts.{Parts}

-- ---- characters that stand for themselves

-- neither a control character nor a quotation mark or reverse solidus
abbrev pub is_unescaped : ℕ → Bool
is_unescaped c = nat_lt 31 c && not (c == 34) && not (c == 92)

plain_byte : (c : ℕ) → is_unescaped c ≡ true → escape_byte c ≡ c ∷ []
unfolding escape_byte
plain_byte c h = grind (arith, nat_tests)

-- a text of such characters is written as it stands
pub escape_on_plain : (text : List ℕ) → list_all is_unescaped text ≡ true → escape text ≡ text
escape_on_plain [] h = refl
escape_on_plain (c ∷ cs) h =
    let parts = and_parts (is_unescaped c) (list_all is_unescaped cs) h in
    rw (plain_byte c parts.0, escape_on_plain cs parts.1) refl

-- ---- the parts

-- what stands in a table whose characters pass a test passes it
symbol_passes : (p : ℕ → Bool) (symbols : List ℕ) (i : ℕ) → i < length symbols → list_all p symbols ≡ true
    → p (slice_index symbols i) ≡ true
symbol_passes p [] i lt h = absurd (omega arith)
symbol_passes p (s ∷ ss) zero lt h = (and_parts (p s) (list_all p ss) h).0
symbol_passes p (s ∷ ss) (suc i) lt h = symbol_passes p ss i (omega arith) (and_parts (p s) (list_all p ss) h).1

-- one in a table of 64
symbol_of_64 : (p : ℕ → Bool) (symbols : List ℕ) (i : ℕ) → length symbols ≡ 64 → i < 64 → list_all p symbols ≡ true
    → p (slice_index symbols i) ≡ true
symbol_of_64 p symbols i size lt h = symbol_passes p symbols i (omega arith) h

-- the symbols of bytes are those of the table
symbols_pass : (p : ℕ → Bool) (t m : List ℕ) → length t ≡ 64 → list_all p t ≡ true → IsBytes m
    → list_all p (encode_symbols t m) ≡ true
unfolding encode_symbols
symbols_pass p t [] size h are = refl
symbols_pass p t (a ∷ []) size h are =
    let byte : a < 256 = are 0 in
    rw (symbol_of_64 p t (a / 4) size (omega arith) h, symbol_of_64 p t (a % 4 * 16) size (omega arith) h) refl
symbols_pass p t (a ∷ b ∷ []) size h are =
    let byte : a < 256 = are 0 in
    let next : b < 256 = are 1 in
    rw (
      symbol_of_64 p t (a / 4) size (omega arith) h,
      symbol_of_64 p t (a % 4 * 16 + b / 16) size (omega arith) h,
      symbol_of_64 p t (b % 16 * 4) size (omega arith) h,
    ) refl
symbols_pass p t (a ∷ b ∷ c ∷ rest) size h are =
    let byte : a < 256 = are 0 in
    let next : b < 256 = are 1 in
    let last : c < 256 = are 2 in
    rw (
      symbol_of_64 p t (a / 4) size (omega arith) h,
      symbol_of_64 p t (a % 4 * 16 + b / 16) size (omega arith) h,
      symbol_of_64 p t (b % 16 * 4 + c / 64) size (omega arith) h,
      symbol_of_64 p t (c % 64) size (omega arith) h,
    )
    (symbols_pass p t rest size h (λ i. are (suc (suc (suc i)))))

part_is_plain : (bytes : List ℕ) → IsBytes bytes → list_all is_unescaped (base64url bytes) ≡ true
unfolding base64url
part_is_plain bytes are =
    rw append-nil (symbols_pass is_unescaped (engine_symbols url_safe_no_pad) bytes refl refl are)

part_is_ascii : (bytes : List ℕ) → IsAscii (base64url bytes)
unfolding base64url
part_is_ascii bytes = IsAscii-encode_of url_safe_no_pad bytes

-- ---- the text

-- two texts of such characters, joined by a full stop
joined_is_plain : (a b : List ℕ) → list_all is_unescaped a ≡ true → list_all is_unescaped b ≡ true
    → list_all is_unescaped (a ++ 46 ∷ b) ≡ true
joined_is_plain a b ha hb = rw (list_all-append is_unescaped a (46 ∷ b), ha, hb) refl

joined_is_ascii : (a b : List ℕ) → IsAscii a → IsAscii b → IsAscii (a ++ 46 ∷ b)
joined_is_ascii a b ha hb = IsAscii-append a (46 ∷ b) ha (IsAscii-cons 46 b (omega arith) hb)

pub compact_is_plain : (most : ℕ) (text : List ℕ) (parts : Parts) → IsCompact most text parts
    → list_all is_unescaped text ≡ true
compact_is_plain most text parts is =
    rw (is.layout)
    (joined_is_plain (signing_input parts.header parts.payload) (base64url (signature_bytes parts.signature))
    (joined_is_plain (base64url parts.header) (base64url parts.payload) (part_is_plain parts.header is.header)
    (part_is_plain parts.payload is.payload))
    (part_is_plain (signature_bytes parts.signature) is.signature.bytes))

pub compact_is_ascii : (most : ℕ) (text : List ℕ) (parts : Parts) → IsCompact most text parts → IsAscii text
compact_is_ascii most text parts is =
    rw (is.layout)
    (joined_is_ascii (signing_input parts.header parts.payload) (base64url (signature_bytes parts.signature))
    (joined_is_ascii (base64url parts.header) (base64url parts.payload) (part_is_ascii parts.header)
    (part_is_ascii parts.payload))
    (part_is_ascii (signature_bytes parts.signature)))

-- a text in the compact layout is UTF-8
pub compact_is_utf8 : (most : ℕ) (text : List ℕ) (parts : Parts) → IsCompact most text parts → IsUtf8 text
compact_is_utf8 most text parts is = IsUtf8-from_ascii text (compact_is_ascii most text parts is)

-- and written in JSON as it is
pub escape_on_compact : (most : ℕ) (text : List ℕ) (parts : Parts) → IsCompact most text parts → escape text ≡ text
escape_on_compact most text parts is = escape_on_plain text (compact_is_plain most text parts is)
