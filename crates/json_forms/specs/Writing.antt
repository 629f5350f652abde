-- Small forms as they are written.
use Rattle.std.specs.Prelude.{◌≡◌, length, ℕ, pos, List, Option, Some, None, map, min}
use Rattle.canonical_json.specs.Value.{Value, int, text, list, Values, Members, member}
use Rattle.canonical_json.specs.View.{values_of}
use Rattle.document_checksum.specs.Text.{checksum_text}
use Rattle.ebl_base.specs.PlatformCode.{code_text}
use Rattle.ebl_base.specs.Party.{party_text}
use Rattle.ebl_base.specs.declared.limits.TheConstants.{MAX_WHOLE_NUMBER}
use Rattle.ebl_base.specs.declared.checksum.Checksum.{Checksum}
use Rattle.ebl_base.specs.declared.platform_code.PlatformCode.{PlatformCode}
use Rattle.ebl_base.specs.declared.party.Party.{Party}
use Rattle.ebl_base.specs.declared.signed_text.SignedText.{SignedText}

-- each item of a list, written in one way
abbrev pub each_written : {T : Type 0} → (T → Value) → List T → Values
each_written write xs = values_of (map write xs)

-- a whole number
abbrev pub number_value : ℕ → Value
number_value n = int (pos n)

-- a whole number as it is written: past 2^53 - 1, the greatest of canonical JSON (RFC 7493, section 2.2), as that
abbrev pub capped_value : ℕ → Value
capped_value n = number_value (min n MAX_WHOLE_NUMBER)

-- a platform code is its text
abbrev pub platform_value : PlatformCode → Value
platform_value platform = text (code_text platform)

-- a party is its text
abbrev pub party_value : Party → Value
party_value party = text (party_text party)

-- a signed text is a text
abbrev pub signed_value : SignedText → Value
signed_value signed = text signed.0

-- a checksum is its text
abbrev pub checksum_value : Checksum → Value
checksum_value checksum = text (checksum_text checksum)

-- the text of a checksum has its 64 digits, as each has that code makes
abbrev pub HasDigits : Checksum → Type 0
HasDigits checksum = length (checksum_text checksum) ≡ 64

-- checksums, in their order
abbrev pub checksums_value : List Checksum → Value
checksums_value checksums = list (each_written checksum_value checksums)

-- a member that may be left out, in front of those that follow
abbrev pub optional_member : {T : Type 0} → List ℕ → (T → Value) → Option T → Members → Members
optional_member name write None ms = ms
optional_member name write (Some x) ms = member name (write x) ms
