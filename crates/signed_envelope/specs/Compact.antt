-- The compact layout of a signed text (RFC 7515, sections 3.1 and 7.1).
use Rattle.std.specs.Prelude.{◌≡◌, ℕ, ◌≤◌, ◌==◌, true, not, List, ◌∷◌, ◌++◌, length}
use Rattle.std.specs.List.{list_all}
use Rattle.base64.specs.GeneralPurpose.{IsBytes, encode_of}
use Rattle.base64.specs.Engines.{url_safe_no_pad}
use Rattle.ebl_base.specs.Signature.{IsSignature, signature_bytes}
use Rattle.signed_envelope.specs.declared.compact.Parts.{Parts}

-- base64url without padding (RFC 7515, section 2; RFC 4648, section 5), which spells bytes in one way
unfoldable pub base64url : List ℕ → List ℕ
base64url bytes = encode_of url_safe_no_pad bytes

-- what is signed: the first two parts joined by a full stop (RFC 7515, section 5.1)
abbrev pub signing_input : List ℕ → List ℕ → List ℕ
signing_input header payload = base64url header ++ 46 ∷ base64url payload

-- the three parts joined by full stops
abbrev pub compact_text : List ℕ → List ℕ → List ℕ → List ℕ
compact_text header payload signature = signing_input header payload ++ 46 ∷ base64url signature

-- the text has no full stop
abbrev pub HasNoStop : List ℕ → Type 0
HasNoStop text = list_all (λ byte. not (byte == 46)) text ≡ true

-- the text is these parts in the compact layout, within the limit
pub record IsCompact (most : ℕ) (text : List ℕ) (parts : Parts) : Type 0 where
  pub layout : text ≡ compact_text parts.header parts.payload (signature_bytes parts.signature)
  pub fits : length text ≤ most
  pub header : IsBytes parts.header
  pub payload : IsBytes parts.payload
  pub signature : IsSignature parts.signature
  pub input_len : parts.input_len ≡ length (signing_input parts.header parts.payload)

-- the text is in the compact layout, within the limit
abbrev pub IsCompactText : ℕ → List ℕ → Type 0
IsCompactText most text = (parts : Parts) × IsCompact most text parts
