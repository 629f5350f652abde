-- How the causes of the parts of a text become those of the text.
use Rattle.std.proofs.Common.{◌≡◌, ℕ, true, false, List, ◌∷◌, take, Option, Some, refl, sym, arith}
use Rattle.std.proofs.Math.Bool.{not}
use Rattle.std.proofs.lemmas.List.{take_at}
use Rattle.ebl_base.specs.PlatformCode.{code_eq}
use Rattle.ebl_base.proofs.SameLemmas.{code_eq-Decides}
use Rattle.ebl_base.specs.Signature.{signature_bytes}
use Rattle.ebl_base.specs.declared.platform_code.PlatformCode.{PlatformCode}
use Rattle.canonical_json.specs.Value.{Value}
use Rattle.signed_envelope.specs.Compact.{IsCompact, base64url, signing_input}
use Rattle.signed_envelope.specs.KeyRing.{Keys}
use Rattle.signed_envelope.specs.Refusal.{IsRefused, is_asked}
use Rattle.signed_envelope.specs.Steps.{HasSigner, IsHeaderRefused, IsPayload, IsPayloadRefused}
use Rattle.signed_envelope.specs.SignedText.{IsSigned}
use Rattle.signed_envelope.specs.declared.compact.Parts.{Parts}
use Rattle.signed_envelope.specs.declared.fault.BadSigned.{BadSigned}
use Rattle.signed_envelope.specs.declared.fault.BadSigned.TheVariants.{NotCompact, HeaderForm, Critical, WrongKey, Wrong, PayloadForm, NoMemory}

-- codes that compare as equal are the same
pub same_code : (a b : PlatformCode) → false ≡ not (code_eq a b) → a ≡ b
same_code a b h =
    let equal : code_eq a b ≡ true = grind (arith) in
    (code_eq-Decides a b).0 equal

-- a platform is what was asked for, if it was
pub asked_is_asked : (who : PlatformCode) → is_asked (Some who) who ≡ true
asked_is_asked who = (code_eq-Decides who who).1 refl

-- the signing input is the front of the text
pub input_of : (most : ℕ) (text : List ℕ) (parts : Parts) → IsCompact most text parts
    → take parts.input_len text ≡ signing_input parts.header parts.payload
input_of most text parts is =
    rw (is.layout) (take_at (signing_input parts.header parts.payload) (46 ∷ base64url (signature_bytes parts.signature)) parts.input_len (sym is.input_len))

-- a header that is refused
pub refused_by_header : (keys : Keys) (most : ℕ) (asked : Option PlatformCode) (text : List ℕ) (parts : Parts) (e : BadSigned)
    → IsCompact most text parts → IsHeaderRefused keys.alg parts.header e → IsRefused keys most asked text e
refused_by_header keys most asked text parts NotCompact is h = absurd h
refused_by_header keys most asked text parts HeaderForm is h = (parts, is, h)
refused_by_header keys most asked text parts Critical is h =
    (parts, h.1, record { compact = is; head = h.0; header = h.2; crit = h.3 })
refused_by_header keys most asked text parts WrongKey is h = absurd h
refused_by_header keys most asked text parts Wrong is h = absurd h
refused_by_header keys most asked text parts PayloadForm is h = absurd h
refused_by_header keys most asked text parts NoMemory is h = tt

-- another platform than was asked for
pub refused_by_platform : (keys : Keys) (most : ℕ) (asked : Option PlatformCode) (text : List ℕ) (parts : Parts) (who : PlatformCode)
    → IsCompact most text parts → HasSigner keys.alg parts.header who → is_asked asked who ≡ false
    → IsRefused keys most asked text WrongKey
refused_by_platform keys most asked text parts who is h other =
    (parts, who, record { compact = is; head = h.0; header = h.1; crit = h.2 }, other)

-- a payload that is refused
pub refused_by_payload : (keys : Keys) (most : ℕ) (asked : Option PlatformCode) (text : List ℕ) (parts : Parts) (who : PlatformCode) (e : BadSigned)
    → IsCompact most text parts → HasSigner keys.alg parts.header who → is_asked asked who ≡ true
    → IsPayloadRefused keys text parts who e → IsRefused keys most asked text e
refused_by_payload keys most asked text parts who NotCompact is h for cause = absurd cause
refused_by_payload keys most asked text parts who HeaderForm is h for cause = absurd cause
refused_by_payload keys most asked text parts who Critical is h for cause = absurd cause
refused_by_payload keys most asked text parts who WrongKey is h for cause = absurd cause
refused_by_payload keys most asked text parts who Wrong is h for cause =
    let input = input_of most text parts is in
    (parts, who, record { compact = is; head = h.0; header = h.1; crit = h.2 }, for, rw input at cause)
refused_by_payload keys most asked text parts who PayloadForm is h for cause =
    let input = input_of most text parts is in
    (parts, who, record { compact = is; head = h.0; header = h.1; crit = h.2 }, for, rw input at cause.0, cause.1)
refused_by_payload keys most asked text parts who NoMemory is h for cause = tt

-- a text that is taken
pub signed_by_payload : (keys : Keys) (most : ℕ) (text : List ℕ) (parts : Parts) (who : PlatformCode) (value : Value)
    → IsCompact most text parts → HasSigner keys.alg parts.header who → IsPayload keys text parts who value
    → IsSigned keys most text who value
signed_by_payload keys most text parts who value is h taken =
    let input = input_of most text parts is in
    record {
      parts = parts;
      compact = is;
      head = h.0;
      header = h.1;
      not_critical = h.2;
      verified = rw input at taken.verified;
      payload = taken.reads;
    }
