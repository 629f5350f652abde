-- Which responses can be sealed, and which are well-formed.
use Rattle.std.specs.Prelude.{◌≡◌, ℕ, ◌≤◌, ◌-◌, Bool, true, List, Option, Some, None, All, length, nat_le}
use Rattle.ebl_base.specs.Code.{response_code_eq}
use Rattle.ebl_base.specs.Reason.{code_for, reason_index}
use Rattle.ebl_base.specs.declared.checksum.Checksum.{Checksum}
use Rattle.ebl_base.specs.declared.code.Code.{Code}
use Rattle.ebl_base.specs.declared.limits.TheConstants.{MAX_CHAIN_ENTRIES, MAX_DOCUMENTS, MAX_SIGNED_TEXT}
use Rattle.ebl_base.specs.declared.reason.Reason.{Reason}
use Rattle.ebl_base.specs.declared.signed_text.SignedText.{SignedText}
use Rattle.document_checksum.specs.Digest.{IsChecksum}
use Rattle.std.specs.Str.{IsUtf8}
use Rattle.json_forms.specs.Writing.{HasDigits}
use Rattle.signed_envelope.specs.Compact.{IsCompactText}
use Rattle.pint_responses.specs.declared.response.Response.{Response}

-- a text in the compact layout, within 16,384 bytes
abbrev pub IsEvidence : List ℕ → Type 0
IsEvidence text = IsCompactText MAX_SIGNED_TEXT text

-- so is the text, if there is one
abbrev pub IsOptionalEvidence : Option SignedText → Type 0
IsOptionalEvidence None = Unit {0}
IsOptionalEvidence (Some text) = IsEvidence text.0

-- the response can be sealed, whatever its code and reason are
pub record IsSealable (r : Response) : Type 0 where
  pub missing : length r.missing ≤ MAX_DOCUMENTS
  pub own : IsOptionalEvidence r.evidence.own
  pub theirs : IsOptionalEvidence r.evidence.theirs

-- for private clauses: the text of a checksum, if there is one, has its 64 digits
abbrev pub HasOptionalDigits : Option Checksum → Type 0
HasOptionalDigits None = Unit {0}
HasOptionalDigits (Some checksum) = HasDigits checksum

-- and so do those of a response
pub record HaveDigits (r : Response) : Type 0 where
  pub bill : HasOptionalDigits r.bill
  pub last : HasOptionalDigits r.last
  pub missing : All HasDigits r.missing

-- a reason comes with the code
abbrev pub comes_with : Code → Reason → Bool
comes_with code reason = response_code_eq (code_for reason) code

-- the place of an entry is from 0 to 63
abbrev pub is_place : Option ℕ → Bool
is_place None = true
is_place (Some place) = nat_le place (MAX_CHAIN_ENTRIES - 1)

-- the reason, if there is one, comes with the code, and is of one of 64 entries
abbrev pub IsReasonOf : Code → Option Reason → Type 0
IsReasonOf code None = Unit {0}
IsReasonOf code (Some reason) = (comes_with code reason ≡ true) × (is_place (reason_index reason) ≡ true)

-- a checksum of 32 bytes, if there is one
abbrev pub IsOptionalChecksum : Option Checksum → Type 0
IsOptionalChecksum None = Unit {0}
IsOptionalChecksum (Some checksum) = IsChecksum checksum

-- a text is UTF-8, if there is one
abbrev pub IsOptionalUtf8 : Option SignedText → Type 0
IsOptionalUtf8 None = Unit {0}
IsOptionalUtf8 (Some text) = IsUtf8 text.0

-- a well-formed response
pub record IsAllowed (r : Response) : Type 0 where
  pub bill : IsOptionalChecksum r.bill
  pub last : IsOptionalChecksum r.last
  pub reason : IsReasonOf r.code r.reason
  pub missing : All IsChecksum r.missing
  pub own : IsOptionalUtf8 r.evidence.own
  pub theirs : IsOptionalUtf8 r.evidence.theirs
