-- A text has one signer and one payload, under whatever keys; and no signed text begins as a JSON object does.
use Rattle.std.proofs.Common.{◌≡◌, ℕ, zero, suc, Bool, true, false, cond, ◌/◌, ◌==◌, List, [], ◌∷◌, ◌++◌, slice_index, Some, None, Ok, refl, sym, ap, subst, ◌∙◌}
use Rattle.std.proofs.Math.Bool.{not}
use Rattle.std.specs.Prelude.{codes, option_and_then}
use Rattle.std.specs.List.{list_all}
use Rattle.std.proofs.lemmas.Bool.{and_parts}
use Rattle.std.proofs.lemmas.List.{append-nil, append_assoc}
use Rattle.base64.specs.Rfc4648.{encode_symbols}
use Rattle.base64.specs.GeneralPurpose.{engine_symbols}
use Rattle.base64.specs.Engines.{url_safe_no_pad}
use Rattle.canonical_json.specs.Field.{text_of}
use Rattle.canonical_json.specs.Value.{Value}
use Rattle.canonical_json.specs.Reading.{Reads}
use Rattle.canonical_json.proofs.Parts.{Reads_once}
use Rattle.ebl_base.specs.PlatformCode.{code_of}
use Rattle.ebl_base.specs.Signature.{signature_bytes}
use Rattle.ebl_base.specs.declared.platform_code.PlatformCode.{PlatformCode}
use Rattle.signed_envelope.specs.KeyRing.{Keys}
use Rattle.signed_envelope.specs.Compact.{base64url}
use Rattle.signed_envelope.specs.Header.{names_alg, signer_of}
use Rattle.signed_envelope.specs.SignedText.{IsSigned}
use Rattle.signed_envelope.specs.declared.alg.Alg.{Alg}
use Rattle.signed_envelope.specs.declared.compact.Parts.{Parts}
use Rattle.signed_envelope.proofs.Readings.{same_parts}
use Rattle.pint_responses.specs.Reading.{response_of}
use Rattle.pint_responses.specs.Sealed.{IsSealed}
use Rattle.pint_responses.specs.declared.response.Response.{Response}
use Rattle.platform_machine.specs.Hearing.{begins_object}

-- ---- one signer

-- whatever the algorithm, the signer is the platform that the header names
named_by : (alg : Alg) (head : Value) (who : PlatformCode) → signer_of alg head ≡ Some who
    → option_and_then code_of (text_of (codes "kid") head) ≡ Some who
named_by alg head who is = on_test (names_alg alg head) is
  where
    on_test : (b : Bool) → cond b (option_and_then code_of (text_of (codes "kid") head)) None ≡ Some who
        → option_and_then code_of (text_of (codes "kid") head) ≡ Some who
    on_test true is = is
    on_test false is = cc is

pub signed_once : (k l : Keys) (most : ℕ) (text : List ℕ) (p q : PlatformCode) (v w : Value)
    → IsSigned k most text p v → IsSigned l most text q w → (p ≡ q) × (v ≡ w)
signed_once k l most text p q v w a b =
    let parts : a.parts ≡ b.parts = same_parts most text a.parts b.parts a.compact b.compact in
    let head : a.head ≡ b.head = Reads_once b.parts.header a.head b.head
    (subst (λ (x : Parts). Reads x.header a.head) parts a.header.reads) b.header.reads in
    let named = sym (named_by k.alg a.head p a.header.signer)
    ∙ ap (λ (x : Value). option_and_then code_of (text_of (codes "kid") x)) head
    ∙ named_by l.alg b.head q b.header.signer in (
      cc named,
      Reads_once b.parts.payload v w (subst (λ (x : Parts). Reads x.payload v) parts a.payload) b.payload,
    )

pub sealed_once : (k l : Keys) (text : List ℕ) (p q : PlatformCode) (r t : Response)
    → IsSealed k text p r → IsSealed l text q t → (p ≡ q) × (r ≡ t)
sealed_once k l text p q r t a b =
    let (same, payload) = signed_once k l 65536 text p q a.payload b.payload a.signed b.signed in
    let both : Ok r ≡ Ok t = sym a.response ∙ ap response_of payload ∙ b.response in
    (same, cc both)

-- ---- no object

-- a byte that isn't the first of an object
abbrev is_other : ℕ → Bool
is_other byte = not (byte == 123)

symbol_is_other : (symbols : List ℕ) (i : ℕ) → list_all is_other symbols ≡ true
    → is_other (slice_index symbols i) ≡ true
symbol_is_other [] i h = refl
symbol_is_other (s ∷ ss) zero h = (and_parts (is_other s) (list_all is_other ss) h).0
symbol_is_other (s ∷ ss) (suc i) h = symbol_is_other ss i (and_parts (is_other s) (list_all is_other ss) h).1

other : (byte : ℕ) → is_other byte ≡ true → (byte == 123) ≡ false
other byte is = on_test (byte == 123) is
  where
    on_test : (b : Bool) → not b ≡ true → b ≡ false
    on_test true is_not = cc is_not
    on_test false is_not = refl

-- the first symbol of a message is one of the table
first_is_other : (symbols m rest : List ℕ) → list_all is_other symbols ≡ true
    → begins_object (encode_symbols symbols m ++ 46 ∷ rest) ≡ false
unfolding encode_symbols
first_is_other t [] rest h = refl
first_is_other t (a ∷ []) rest h = other (slice_index t (a / 4)) (symbol_is_other t (a / 4) h)
first_is_other t (a ∷ b ∷ []) rest h = other (slice_index t (a / 4)) (symbol_is_other t (a / 4) h)
first_is_other t (a ∷ b ∷ c ∷ m) rest h = other (slice_index t (a / 4)) (symbol_is_other t (a / 4) h)

part_is_other : (header rest : List ℕ) → begins_object (base64url header ++ 46 ∷ rest) ≡ false
unfolding base64url
part_is_other header rest = rw append-nil (first_is_other (engine_symbols url_safe_no_pad) header rest refl)

pub signed_is_no_object : (keys : Keys) (most : ℕ) (text : List ℕ) (who : PlatformCode) (value : Value)
    → IsSigned keys most text who value → begins_object text ≡ false
signed_is_no_object keys most text who value s =
    ap begins_object
    (s.compact.layout
    ∙ append_assoc (base64url s.parts.header) (46 ∷ base64url s.parts.payload)
    (46 ∷ base64url (signature_bytes s.parts.signature)))
    ∙ part_is_other s.parts.header
    (base64url s.parts.payload ++ 46 ∷ base64url (signature_bytes s.parts.signature))
