-- Which JSON values are commands, and the first wrong member of another value.
use Rattle.std.specs.Prelude.{◌≡◌, ℕ, Bool, true, false, List, Result, Ok, Err, codes, if◌then◌else◌}
use Rattle.std.specs.Str.{bytes_eq}
use Rattle.ebl_base.specs.declared.limits.TheConstants.{MAX_DOCUMENT_MEDIA, MAX_DOCUMENT_NAME}
use Rattle.canonical_json.specs.Value.{Value}
use Rattle.canonical_json.specs.Field.{member_of, text_of}
use Rattle.json_forms.specs.Reading.{required, unless_malformed, required_checksum, optional_party}
use Rattle.json_forms.specs.Bytes.{required_bytes}
use Rattle.envelope_manifest.specs.Piece.{required_plain_text}
use Rattle.ebl_base.specs.Kind.{kind_of}
use Rattle.ebl_base.specs.declared.kind.Kind.{Kind}
use Rattle.ebl_base.specs.declared.kind.Kind.TheVariants as kinds
use Rattle.holder_commands.specs.declared.fault.CommandField.{CommandField}
use Rattle.holder_commands.specs.declared.fault.CommandField.TheVariants as fields
use Rattle.holder_commands.specs.declared.fault.CommandFault.{CommandFault}
use Rattle.holder_commands.specs.declared.fault.CommandFault.TheVariants.{CommandForm, NoMemory}
use Rattle.holder_commands.specs.Command.{CommandRecord, signs, acts, attaches}

-- SIGN alone begins a bill: it brings a document, and every other kind names a bill
abbrev pub begins_a_bill : Kind → Bool
begins_a_bill kinds.Sign = true
begins_a_bill kind = false

-- the document to sign is any value
abbrev pub signing_of : Value → Result CommandRecord CommandField
signing_of v =
    required fields.Document (member_of (codes "document") v) (λ document.
    Ok (signs document))

-- a transaction of this kind on a bill
abbrev pub act_of : Kind → Value → Result CommandRecord CommandField
act_of kind v =
    required fields.Bill (required_checksum (codes "bill") v) (λ bill.
    unless_malformed fields.Recipient (optional_party (codes "recipient") v) (λ recipient.
    Ok (acts bill kind recipient)))

-- an additional document for a bill
abbrev pub attachment_of : Value → Result CommandRecord CommandField
attachment_of v =
    required fields.Bill (required_checksum (codes "bill") v) (λ bill.
    required fields.Name (required_plain_text (codes "name") MAX_DOCUMENT_NAME v) (λ name.
    required fields.Media (required_plain_text (codes "media") MAX_DOCUMENT_MEDIA v) (λ media.
    required fields.Bytes (required_bytes (codes "bytes") v) (λ bytes.
    Ok (attaches bill name media bytes)))))

-- what a value asks that names a kind
abbrev pub deed_of : Kind → Value → Result CommandRecord CommandField
deed_of kind v = if begins_a_bill kind then signing_of v else act_of kind v

-- what a value asks under this word: ATTACH, or the text of a kind
abbrev pub word_of : List ℕ → Value → Result CommandRecord CommandField
word_of word v =
    if bytes_eq word (codes "ATTACH") then attachment_of v
    else required fields.Do (kind_of word) (λ kind. deed_of kind v)

-- the command that a value is, or the first member that is absent or malformed
abbrev pub command_of : Value → Result CommandRecord CommandField
command_of v = required fields.Do (text_of (codes "do") v) (λ word. word_of word v)

-- the fault is the first wrong member, or memory ran out
abbrev pub IsFault : Result CommandRecord CommandField → CommandFault → Type 0
IsFault read (CommandForm field) = read ≡ Err field
IsFault read NoMemory = Unit {0}
