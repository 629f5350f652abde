-- Why a text is not taken as signed: the first cause that applies.
use Rattle.std.specs.Prelude.{◌≡◌, ℕ, Bool, true, false, List, Option, Some, None, codes}
use Rattle.ebl_base.specs.PlatformCode.{code_eq}
use Rattle.ebl_base.specs.declared.platform_code.PlatformCode.{PlatformCode}
use Rattle.canonical_json.specs.Value.{Value}
use Rattle.canonical_json.specs.Reading.{IsUnread}
use Rattle.signed_envelope.specs.Compact.{IsCompact}
use Rattle.signed_envelope.specs.Header.{has_crit}
use Rattle.signed_envelope.specs.KeyRing.{Keys}
use Rattle.signed_envelope.specs.SignedText.{IsHeader, is_verified}
use Rattle.signed_envelope.specs.declared.alg.Alg.{Alg}
use Rattle.signed_envelope.specs.declared.compact.Parts.{Parts}
use Rattle.signed_envelope.specs.declared.fault.BadSigned.{BadSigned}
use Rattle.signed_envelope.specs.declared.fault.BadSigned.TheVariants.{NotCompact, HeaderForm, Critical, WrongKey, Wrong, PayloadForm, NoMemory}

-- the platform is the one that was asked for; where none was, each is
abbrev pub is_asked : Option PlatformCode → PlatformCode → Bool
is_asked None who = true
is_asked (Some asked) who = code_eq asked who

-- the parts of the text, with a header that names the platform and has no `crit`, or has one
pub record IsNamed (alg : Alg) (most : ℕ) (text : List ℕ) (parts : Parts) (who : PlatformCode) (critical : Bool)
    : Type 0 where
  pub compact : IsCompact most text parts
  pub head : Value
  pub header : IsHeader alg parts.header head who
  pub crit : has_crit head ≡ critical

-- no parts; then no header of this algorithm; then a `crit`; then another platform than was asked for;
-- then a signature that the keys don't take; then a payload that doesn't read
abbrev pub IsRefused : Keys → ℕ → Option PlatformCode → List ℕ → BadSigned → Type 0
IsRefused keys most asked text NotCompact = (parts : Parts) → ¬ IsCompact most text parts
IsRefused keys most asked text HeaderForm =
    (parts : Parts) × IsCompact most text parts
    × ((head : Value) (who : PlatformCode) → ¬ IsHeader keys.alg parts.header head who)
IsRefused keys most asked text Critical =
    (parts : Parts) × (who : PlatformCode) × IsNamed keys.alg most text parts who true
IsRefused keys most asked text WrongKey =
    (parts : Parts) × (who : PlatformCode) × IsNamed keys.alg most text parts who false
    × (is_asked asked who ≡ false)
IsRefused keys most asked text Wrong =
    (parts : Parts) × (who : PlatformCode) × IsNamed keys.alg most text parts who false
    × (is_asked asked who ≡ true) × (is_verified keys parts who ≡ false)
IsRefused keys most asked text PayloadForm =
    (parts : Parts) × (who : PlatformCode) × IsNamed keys.alg most text parts who false
    × (is_asked asked who ≡ true) × (is_verified keys parts who ≡ true) × IsUnread parts.payload
IsRefused keys most asked text NoMemory = Unit {0}

-- the word of a cause
abbrev pub cause_text : BadSigned → List ℕ
cause_text NotCompact = codes "NOT_COMPACT"
cause_text HeaderForm = codes "HEADER_FORM"
cause_text Critical = codes "CRITICAL"
cause_text WrongKey = codes "WRONG_KEY"
cause_text Wrong = codes "WRONG"
cause_text PayloadForm = codes "PAYLOAD_FORM"
cause_text NoMemory = codes "NO_MEMORY"
