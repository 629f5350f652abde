-- What a signed text is (RFC 7515), under a ring of keys.
use Rattle.std.specs.Prelude.{◌≡◌, ℕ, ◌<◌, Bool, true, false, List, Some, length}
use Rattle.ebl_base.specs.Signature.{IsSignature, signature_bytes}
use Rattle.ebl_base.specs.declared.platform_code.PlatformCode.{PlatformCode}
use Rattle.ebl_base.specs.declared.signature.Signature.{Signature}
use Rattle.canonical_json.specs.Value.{Value}
use Rattle.canonical_json.specs.Canon.{canon}
use Rattle.canonical_json.specs.Reading.{Reads}
use Rattle.signed_envelope.specs.Compact.{IsCompact, compact_text, signing_input}
use Rattle.signed_envelope.specs.Header.{has_crit, header_text, signer_of}
use Rattle.signed_envelope.specs.KeyRing.{Keys}
use Rattle.signed_envelope.specs.declared.alg.Alg.{Alg}
use Rattle.signed_envelope.specs.declared.compact.Parts.{Parts}

-- the header reads as this value, which names the platform under the algorithm
pub record IsHeader (alg : Alg) (header : List ℕ) (head : Value) (who : PlatformCode) : Type 0 where
  pub reads : Reads header head
  pub signer : signer_of alg head ≡ Some who

-- the keys take the signature of the parts as the platform's
abbrev pub is_verified : Keys → Parts → PlatformCode → Bool
is_verified keys parts who = keys.signs who (signing_input parts.header parts.payload) parts.signature

-- the text is signed by the platform, and its payload reads as the value
pub record IsSigned (keys : Keys) (most : ℕ) (text : List ℕ) (who : PlatformCode) (value : Value) : Type 0 where
  pub parts : Parts
  pub compact : IsCompact most text parts
  pub head : Value
  pub header : IsHeader keys.alg parts.header head who
  pub not_critical : has_crit head ≡ false
  pub verified : is_verified keys parts who ≡ true
  pub payload : Reads parts.payload value

-- the text of a header, a value and a signature
abbrev pub signed_text : Alg → PlatformCode → Value → Signature → List ℕ
signed_text alg who value signature = compact_text (header_text alg who) (canon value) (signature_bytes signature)

-- the text is composed of the product's header, the value's canonical text and a signature of the platform
pub record IsComposed (keys : Keys) (text : List ℕ) (who : PlatformCode) (value : Value) (signature : Signature)
    : Type 0 where
  pub layout : text ≡ signed_text keys.alg who value signature
  pub signs : keys.signs who (signing_input (header_text keys.alg who) (canon value)) signature ≡ true
  pub form : IsSignature signature

-- the text with some signature that the keys take as the platform's is longer than the limit
pub record IsTooLong (keys : Keys) (most : ℕ) (who : PlatformCode) (value : Value) : Type 0 where
  pub text : List ℕ
  pub signature : Signature
  pub composed : IsComposed keys text who value signature
  pub longer : most < length text
