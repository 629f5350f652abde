-- How long a composed text is.
use Rattle.std.proofs.Common.{◌≡◌, ℕ, ◌+◌, ◌*◌, ◌≤◌, Bool, true, false, List, [], ◌∷◌, ◌++◌, Some, None, codes, cond, length, ◌==◌, refl, arith, lit≤, append-nil, length-append}
use Rattle.std.specs.List.{list_all}
use Rattle.std.proofs.lemmas.Bool.{and_parts}
use Rattle.std.proofs.lemmas.Bool.Decides.{nat_tests}
use Rattle.base64.specs.Rfc4648.{encode_symbols}
use Rattle.base64.specs.GeneralPurpose.{engine_symbols}
use Rattle.base64.specs.Engines.{url_safe_no_pad}
use Rattle.ebl_base.specs.PlatformCode.{code_of, code_text, is_code, is_code_character}
use Rattle.ebl_base.specs.Signature.{IsSignature, is_signature, signature_bytes, signature_of}
use Rattle.ebl_base.specs.declared.platform_code.PlatformCode.{PlatformCode}
use Rattle.ebl_base.specs.declared.signature.Signature as signature
use Rattle.canonical_json.specs.Canon.{canon}
use Rattle.canonical_json.specs.Value.{Value}
use Rattle.signed_envelope.specs.Alg.{alg_text}
use Rattle.signed_envelope.specs.Compact.{base64url, compact_text, signing_input}
use Rattle.signed_envelope.specs.Header.{header_text}
use Rattle.signed_envelope.specs.KeyRing.{Keys}
use Rattle.signed_envelope.specs.SignedText.{IsComposed}
use Rattle.signed_envelope.specs.declared.alg.Alg.{Alg}
use Rattle.signed_envelope.specs.declared.alg.Alg.TheVariants.{Hs256, Es256}

-- ---- base64url

-- three bytes are four symbols
length-encode_symbols : (t m : List ℕ) → 3 * length (encode_symbols t m) ≤ 4 * length m + 2
unfolding encode_symbols
length-encode_symbols t [] = lit≤ tt
length-encode_symbols t (a ∷ []) = lit≤ tt
length-encode_symbols t (a ∷ b ∷ []) = lit≤ tt
length-encode_symbols t (a ∷ b ∷ c ∷ rest) = let e = length-encode_symbols t rest in omega (arith, e)

length-base64url : (bytes : List ℕ) → 3 * length (base64url bytes) ≤ 4 * length bytes + 2
unfolding base64url
length-base64url bytes = rw append-nil (length-encode_symbols (engine_symbols url_safe_no_pad) bytes)

pub length-compact_text : (header payload signed : List ℕ)
    → 3 * length (compact_text header payload signed) ≤ 4 * (length header + length payload + length signed) + 12
length-compact_text header payload signed =
    omega (
      arith,
      length-append (signing_input header payload) (46 ∷ base64url signed),
      length-append (base64url header) (46 ∷ base64url payload),
      length-base64url header,
      length-base64url payload,
      length-base64url signed,
    )

-- ---- the composed text

length-alg_text : (alg : Alg) → length (alg_text alg) ≡ 5
length-alg_text Hs256 = refl
length-alg_text Es256 = refl

pub length-header : (alg : Alg) (who : PlatformCode) → length (code_text who) ≤ 4 → length (header_text alg who) ≤ 28
length-header alg who h =
    let a = codes "{\"alg\":\"" in
    let b = codes "\",\"kid\":\"" in
    let z = codes "\"}" in
    let one = length-append (((a ++ alg_text alg) ++ b) ++ code_text who) z in
    let two = length-append ((a ++ alg_text alg) ++ b) (code_text who) in
    let three = length-append (a ++ alg_text alg) b in
    let four = length-append a (alg_text alg) in
    let five : length a ≡ 8 = refl in
    let six : length b ≡ 9 = refl in
    let seven : length z ≡ 2 = refl in
    omega (arith, one, two, three, four, five, six, seven, length-alg_text alg, h)

length-signature_bytes : (s : signature.Signature) → IsSignature s → length (signature_bytes s) ≤ 64
length-signature_bytes s h = by_test (is_signature (signature_bytes s)) refl h.made
  where
    by_test : (b : Bool) → is_signature (signature_bytes s) ≡ b → signature_of (signature_bytes s) ≡ Some s
        → length (signature_bytes s) ≤ 64
    by_test true e f = grind (arith)
    by_test false e f = cc (rw e at f)

-- four bytes for each three of the payload, the header and the signature
pub length-composed : (keys : Keys) (text : List ℕ) (who : PlatformCode) (value : Value) (s : signature.Signature)
    → IsComposed keys text who value s → length (code_text who) ≤ 4 → 3 * length text ≤ 4 * length (canon value) + 380
length-composed keys text who value s is code =
    let header = length-header keys.alg who code in
    let signed = length-signature_bytes s is.form in
    let whole = length-compact_text (header_text keys.alg who) (canon value) (signature_bytes s) in
    rw (is.layout) (omega (arith, whole, header, signed))

-- a code that its own text stands for has four characters
pub length-code_text : (who : PlatformCode) → code_of (code_text who) ≡ Some who → length (code_text who) ≤ 4
length-code_text who h = by_test (is_code (code_text who)) refl h
  where
    by_test : (b : Bool) → is_code (code_text who) ≡ b → cond b (Some (record { bytes = code_text who })) None ≡ Some who
        → length (code_text who) ≤ 4
    by_test true e f =
        let parts = and_parts (length (code_text who) == 4) (list_all is_code_character (code_text who)) e in
        grind (arith, nat_tests, parts.0)
    by_test false e f = cc
