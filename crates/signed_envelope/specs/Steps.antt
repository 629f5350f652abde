-- What each step of verifying a text finds: its parts, the header, the payload.
use Rattle.std.specs.Prelude.{◌≡◌, ℕ, true, false, List, take}
use Rattle.ebl_base.specs.declared.platform_code.PlatformCode.{PlatformCode}
use Rattle.canonical_json.specs.Reading.{IsUnread, Reads}
use Rattle.canonical_json.specs.Value.{Value}
use Rattle.signed_envelope.specs.Header.{has_crit}
use Rattle.signed_envelope.specs.KeyRing.{Keys}
use Rattle.signed_envelope.specs.SignedText.{IsHeader}
use Rattle.signed_envelope.specs.declared.alg.Alg.{Alg}
use Rattle.signed_envelope.specs.declared.compact.Parts.{Parts}
use Rattle.signed_envelope.specs.declared.fault.BadSigned.{BadSigned}
use Rattle.signed_envelope.specs.declared.fault.BadSigned.TheVariants.{NotCompact, HeaderForm, Critical, Wrong, PayloadForm, NoMemory}
use Rattle.signed_envelope.specs.declared.fault.SplitFault.{SplitFault}
use Rattle.signed_envelope.specs.declared.fault.SplitFault.TheVariants as split

-- a text that has no parts
abbrev pub split_refusal : SplitFault → BadSigned
split_refusal split.NotCompact = NotCompact
split_refusal split.NoMemory = NoMemory

-- the header names the platform, and has no `crit`
abbrev pub HasSigner : Alg → List ℕ → PlatformCode → Type 0
HasSigner alg header who = (head : Value) × IsHeader alg header head who × (has_crit head ≡ false)

-- why a header is refused: no header of this algorithm, or a `crit`
abbrev pub IsHeaderRefused : Alg → List ℕ → BadSigned → Type 0
IsHeaderRefused alg header HeaderForm = (head : Value) (who : PlatformCode) → ¬ IsHeader alg header head who
IsHeaderRefused alg header Critical =
    (head : Value) × (who : PlatformCode) × IsHeader alg header head who × (has_crit head ≡ true)
IsHeaderRefused alg header NoMemory = Unit {0}
IsHeaderRefused alg header other = ⊥

-- the signature of the parts is the platform's for the front of the text, and their payload reads as the value
pub record IsPayload (keys : Keys) (text : List ℕ) (parts : Parts) (who : PlatformCode) (value : Value) : Type 0 where
  pub verified : keys.signs who (take parts.input_len text) parts.signature ≡ true
  pub reads : Reads parts.payload value

-- why a payload is refused: a signature that the keys don't take, or no value
abbrev pub IsPayloadRefused : Keys → List ℕ → Parts → PlatformCode → BadSigned → Type 0
IsPayloadRefused keys text parts who Wrong = keys.signs who (take parts.input_len text) parts.signature ≡ false
IsPayloadRefused keys text parts who PayloadForm =
    (keys.signs who (take parts.input_len text) parts.signature ≡ true) × IsUnread parts.payload
IsPayloadRefused keys text parts who NoMemory = Unit {0}
IsPayloadRefused keys text parts who other = ⊥
