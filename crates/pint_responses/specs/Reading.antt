-- Which values are responses, and which member of another value is the first that is wrong.
use Rattle.std.specs.Prelude.{◌≡◌, ℕ, ◌-◌, List, Option, Some, None, Result, Ok, Err, codes, option_and_then, option_map, is_some, if◌then◌else◌}
use Rattle.canonical_json.specs.Value.{Value}
use Rattle.canonical_json.specs.Field.{as_text, flag_of, list_of, member_of, text_of}
use Rattle.json_forms.specs.Reading.{all_of, checksum_in, optional, optional_checksum, required, required_number, then_read, unless_malformed, signed_in}
use Rattle.json_forms.specs.declared.reading.Malformed.{Malformed}
use Rattle.ebl_base.specs.Code.{response_code_of}
use Rattle.ebl_base.specs.Reason.{reason_at, reason_index, reason_of}
use Rattle.ebl_base.specs.declared.checksum.Checksum.{Checksum}
use Rattle.ebl_base.specs.declared.code.Code.{Code}
use Rattle.ebl_base.specs.declared.evidence.Evidence.{Evidence}
use Rattle.ebl_base.specs.declared.limits.TheConstants.{MAX_CHAIN_ENTRIES}
use Rattle.ebl_base.specs.declared.reason.Reason.{Reason}
use Rattle.ebl_base.specs.declared.signed_text.SignedText.{SignedText}
use Rattle.pint_responses.specs.Response.{comes_with}
use Rattle.pint_responses.specs.declared.fault.ResponseField.{ResponseField}
use Rattle.pint_responses.specs.declared.fault.ResponseField.TheVariants as fields
use Rattle.pint_responses.specs.declared.fault.UnsealFault.{UnsealFault}
use Rattle.pint_responses.specs.declared.fault.UnsealFault.TheVariants.{Signature, Form, NoMemory}
use Rattle.pint_responses.specs.declared.response.Response.{Response}

-- the code under its name
abbrev pub required_code : Value → Option Code
required_code v = option_and_then response_code_of (text_of (codes "responseCode") v)

-- a reason that comes with the code
abbrev pub with_code : Code → Reason → Option Reason
with_code code reason = if comes_with code reason then Some reason else None

-- the reason that a text is, which comes with the code
abbrev pub reason_in : Code → Value → Option Reason
reason_in code v = option_and_then (λ text. option_and_then (with_code code) (reason_of text)) (as_text v)

-- the reason under its name, if there is one
abbrev pub optional_reason : Code → Value → Result (Option Reason) Malformed
optional_reason code v = optional (reason_in code) (member_of (codes "reason") v)

-- a reason of no entry, where there is no index
abbrev pub without_index : Value → Option Reason → Option (Option Reason)
without_index v reason = if is_some (member_of (codes "index") v) then None else Some reason

-- a reason at the entry that the index names, where it is of one
abbrev pub at_index : Value → Reason → Option ℕ → Option (Option Reason)
at_index v reason None = without_index v (Some reason)
at_index v reason (Some first) =
    option_map (λ place. Some (reason_at place reason)) (required_number (codes "index") 0 (MAX_CHAIN_ENTRIES - 1) v)

-- the reason with its index
abbrev pub indexed : Value → Option Reason → Option (Option Reason)
indexed v None = without_index v None
indexed v (Some reason) = at_index v reason (reason_index reason)

-- the reason with its index, or which of the two members is wrong
abbrev pub reason_under : Code → Value → Result (Option Reason) ResponseField
reason_under code v =
    unless_malformed fields.Reason (optional_reason code v) (λ reason. required fields.Index (indexed v reason) Ok)

-- the checksums under `missing`
abbrev pub required_missing : Value → Option (List Checksum)
required_missing v = option_and_then (all_of checksum_in) (list_of (codes "missing") v)

-- the text under a name, if there is one
abbrev pub optional_signed : List ℕ → Value → Result (Option SignedText) Malformed
optional_signed name v = optional signed_in (member_of name v)

-- the two entries that are shown, or which of them is wrong
abbrev pub evidence_of : Value → Result Evidence ResponseField
evidence_of v =
    unless_malformed fields.Own (optional_signed (codes "own") v) (λ own.
    unless_malformed fields.Theirs (optional_signed (codes "theirs") v) (λ theirs.
    Ok (record { own = own; theirs = theirs })))

-- the response that a value is, or the first member that is absent or malformed; further members are ignored
abbrev pub response_of : Value → Result Response ResponseField
response_of v =
    required fields.ResponseCode (required_code v) (λ code.
    unless_malformed fields.Bill (optional_checksum (codes "bill") v) (λ bill.
    unless_malformed fields.Last (optional_checksum (codes "last") v) (λ last.
    required fields.Standing (flag_of (codes "standing") v) (λ standing.
    then_read (reason_under code v) (λ reason.
    required fields.Missing (required_missing v) (λ missing.
    then_read (evidence_of v) (λ evidence.
    Ok (record {
      code = code;
      bill = bill;
      last = last;
      standing = standing;
      reason = reason;
      missing = missing;
      evidence = evidence;
    }))))))))

-- the fault is the first wrong member, or memory ran out
abbrev pub IsFormFault : {T : Type 0} → Result T ResponseField → UnsealFault → Type 0
IsFormFault read (Signature why) = ⊥
IsFormFault read (Form field) = read ≡ Err field
IsFormFault read NoMemory = Unit {0}
