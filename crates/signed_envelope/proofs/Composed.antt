-- What is composed is signed.
use Rattle.std.proofs.Common.{◌≡◌, ℕ, ◌≤◌, Bool, true, false, List, [], ◌∷◌, length, codes, nat_lt, ltb-true, append_assoc, lit≤, Some, refl, arith}
use Rattle.std.proofs.lemmas.Bool.{and_parts}
use Rattle.std.proofs.lemmas.Str.{IsUtf8-from_ascii}
use Rattle.std.proofs.lemmas.Str.Ascii.{IsAscii-cons, IsAscii-nil}
use Rattle.std.proofs.lemmas.List.Sums.{take_while-cons}
use Rattle.std.specs.List.{list_all, take_while}
use Rattle.std.proofs.lemmas.Bool.Decides.{nat_tests}
use Rattle.std.specs.Str.{IsAscii, IsUtf8, chars}
use Rattle.json.specs.Print.{escape, escape_byte}
use Rattle.ebl_base.specs.PlatformCode.{code_of, code_text, is_code_character}
use Rattle.ebl_base.specs.declared.platform_code.PlatformCode.{PlatformCode}
use Rattle.ebl_base.specs.declared.signature.Signature.{Signature}
use Rattle.canonical_json.specs.Canon.{canon}
use Rattle.canonical_json.specs.Lawful.{HasTexts, IsLawful}
use Rattle.canonical_json.specs.Name.{name_cmp}
use Rattle.canonical_json.specs.Value.{Value, depth}
use Rattle.canonical_json.proofs.Readings.{canon_reads}
use Rattle.canonical_json.proofs.Texts.{IsUtf8-canon}
use Rattle.signed_envelope.specs.Compact.{signing_input}
use Rattle.signed_envelope.specs.Header.{header_text, header_value, signer_of}
use Rattle.signed_envelope.specs.KeyRing.{Keys}
use Rattle.signed_envelope.specs.SignedText.{IsComposed, IsHeader, IsSigned}
use Rattle.signed_envelope.specs.declared.alg.Alg.{Alg}
use Rattle.signed_envelope.specs.declared.alg.Alg.TheVariants.{Hs256, Es256}
use Rattle.signed_envelope.proofs.Utf8Bytes.{IsBytes-utf8}

-- ---- the header

-- a capital letter or a digit stands as itself
plain_character : (c : ℕ) → is_code_character c ≡ true → escape_byte c ≡ c ∷ []
unfolding escape_byte
plain_character c h = grind (arith, nat_tests)

-- and so does a code
plain_code : (text : List ℕ) → list_all is_code_character text ≡ true → escape text ≡ text
plain_code [] h = refl
plain_code (c ∷ cs) h =
    let parts = and_parts (is_code_character c) (list_all is_code_character cs) h in
    rw (plain_character c parts.0, plain_code cs parts.1) refl

front_passes_at : (p : ℕ → Bool) (x : ℕ) (xs : List ℕ) (b : Bool) → p x ≡ b → list_all p (take_while p xs) ≡ true
    → list_all p (take_while p (x ∷ xs)) ≡ true
front_passes_at p x xs true e h = rw (take_while-cons p x xs, e) (rw (e, h) refl)
front_passes_at p x xs false e h = rw (take_while-cons p x xs, e) refl

-- the characters that pass a test from the front on pass it
front_passes : (p : ℕ → Bool) (xs : List ℕ) → list_all p (take_while p xs) ≡ true
front_passes p [] = refl
front_passes p (x ∷ xs) = front_passes_at p x xs (p x) refl (front_passes p xs)

-- the characters of a code
code_characters : (who : PlatformCode) → list_all is_code_character (code_text who) ≡ true
code_characters who = front_passes is_code_character who.bytes

-- are ASCII
code_is_ascii : (text : List ℕ) → list_all is_code_character text ≡ true → IsAscii text
code_is_ascii [] h = IsAscii-nil
code_is_ascii (c ∷ cs) h =
    let parts = and_parts (is_code_character c) (list_all is_code_character cs) h in
    IsAscii-cons c cs (grind (arith, nat_tests, parts.0)) (code_is_ascii cs parts.1)

-- characters below 128 are ASCII
all_ascii : (text : List ℕ) → list_all (λ c. nat_lt c 128) text ≡ true → IsAscii text
all_ascii [] h = IsAscii-nil
all_ascii (c ∷ cs) h =
    let parts = and_parts (nat_lt c 128) (list_all (λ c. nat_lt c 128) cs) h in
    IsAscii-cons c cs (ltb-true c 128 parts.0) (all_ascii cs parts.1)

-- the header that is written is canonical
pub header_is_canonical : (alg : Alg) (who : PlatformCode) → header_text alg who ≡ canon (header_value alg who)
unfolding escape_byte
header_is_canonical Hs256 who =
    rw (plain_code (code_text who) (code_characters who), append_assoc (code_text who) (34 ∷ []) (125 ∷ [])) refl
header_is_canonical Es256 who =
    rw (plain_code (code_text who) (code_characters who), append_assoc (code_text who) (34 ∷ []) (125 ∷ [])) refl

-- its names are in order
header_is_lawful : (alg : Alg) (who : PlatformCode) → IsLawful (header_value alg who)
unfolding name_cmp chars
header_is_lawful alg who = refl

-- a text whose characters are below 128, which computes
ascii_text : (text : List ℕ) → list_all (λ c. nat_lt c 128) text ≡ true → IsUtf8 text
ascii_text text h = IsUtf8-from_ascii text (all_ascii text h)

-- its texts are ASCII
header_has_texts : (alg : Alg) (who : PlatformCode) → HasTexts (header_value alg who)
header_has_texts Hs256 who =
    (ascii_text (codes "alg") refl, ascii_text (codes "HS256") refl, (ascii_text (codes "kid") refl, IsUtf8-from_ascii (code_text who) (code_is_ascii (code_text who) (code_characters who)), tt))
header_has_texts Es256 who =
    (ascii_text (codes "alg") refl, ascii_text (codes "ES256") refl, (ascii_text (codes "kid") refl, IsUtf8-from_ascii (code_text who) (code_is_ascii (code_text who) (code_characters who)), tt))

-- it is UTF-8
header_utf8 : (alg : Alg) (who : PlatformCode) → IsUtf8 (header_text alg who)
header_utf8 alg who = rw (header_is_canonical alg who) (IsUtf8-canon (header_value alg who) (header_is_lawful alg who) (header_has_texts alg who))

-- it names the platform
header_names : (alg : Alg) (who : PlatformCode) → code_of (code_text who) ≡ Some who → signer_of alg (header_value alg who) ≡ Some who
header_names Hs256 who h = h
header_names Es256 who h = h

-- it reads so
pub header_reads : (alg : Alg) (who : PlatformCode) → code_of (code_text who) ≡ Some who → IsHeader alg (header_text alg who) (header_value alg who) who
header_reads alg who h = record {
  reads = rw (header_is_canonical alg who)
      (canon_reads (header_value alg who) (header_is_lawful alg who) (header_has_texts alg who) (lit≤ tt));
  signer = header_names alg who h;
}

-- ---- the text

-- a composed text is signed
pub composed_is_signed : (keys : Keys) (most : ℕ) (text : List ℕ) (who : PlatformCode) (value : Value) (signature : Signature)
    → IsComposed keys text who value signature → length text ≤ most → code_of (code_text who) ≡ Some who
    → IsLawful value → HasTexts value → depth value ≤ 127 → IsSigned keys most text who value
composed_is_signed keys most text who value signature is fits code lawful texts deep =
    let header = header_reads keys.alg who code in
    let payload = canon_reads value lawful texts deep in
    record {
      parts = record {
        header = header_text keys.alg who;
        payload = canon value;
        signature = signature;
        input_len = length (signing_input (header_text keys.alg who) (canon value));
      };
      compact = record {
        layout = is.layout;
        fits = fits;
        header = IsBytes-utf8 (header_text keys.alg who) (header_utf8 keys.alg who);
        payload = IsBytes-utf8 (canon value) (IsUtf8-canon value lawful texts);
        signature = is.form;
        input_len = refl;
      };
      head = header_value keys.alg who;
      header = header;
      not_critical = refl;
      verified = is.signs;
      payload = payload;
    }
