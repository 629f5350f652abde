-- Which JSON values are documents of bills, and why another value isn't.
use Rattle.std.specs.Prelude.{◌≡◌, ℕ, Bool, true, false, List, Result, Ok, Err, codes, length, nat_le, if◌then◌else◌}
use Rattle.canonical_json.specs.Value.{Value}
use Rattle.canonical_json.specs.Canon.{canon}
use Rattle.canonical_json.specs.Field.{flag_of}
use Rattle.json_forms.specs.Reading.{required, required_carrier_code, required_provider}
use Rattle.transport_document.specs.declared.fault.DocumentField.TheVariants as fields
use Rattle.transport_document.specs.declared.fault.DocumentFault.{DocumentFault}
use Rattle.transport_document.specs.declared.fault.DocumentFault.TheVariants.{DocumentForm, NotTitle, TooLarge, NoMemory}
use Rattle.ebl_base.specs.declared.carrier_code.CarrierCode.{CarrierCode}
use Rattle.ebl_base.specs.declared.limits.TheConstants.{MAX_TRANSPORT_DOCUMENT}
use Rattle.ebl_base.specs.declared.provider.Provider.{Provider}
use Rattle.transport_document.specs.Members.{required_reference, required_title}
use Rattle.transport_document.specs.DocumentRecord.{DocumentRecord}

-- the document with this text, which has at most 262,144 bytes
abbrev pub within_limit : List ℕ → CarrierCode → Provider → Result DocumentRecord DocumentFault
within_limit text code provider =
    if nat_le (length text) MAX_TRANSPORT_DOCUMENT then Ok (record { text = text; provider = provider; code = code })
    else Err TooLarge

-- a sea waybill gives no title
abbrev pub title_of : Bool → Result DocumentRecord DocumentFault → Result DocumentRecord DocumentFault
title_of true document = document
title_of false document = Err NotTitle

-- the document that a value is, or the first fault: of the members in their order, of the type, of the text's length
abbrev pub document_of : Value → Result DocumentRecord DocumentFault
document_of v =
    required (DocumentForm fields.TransportDocumentReference) (required_reference v) (λ reference.
    required (DocumentForm fields.CarrierCode) (required_carrier_code (codes "carrierCode") v) (λ code.
    required (DocumentForm fields.CarrierCodeListProvider) (required_provider (codes "carrierCodeListProvider") v) (λ provider.
    required (DocumentForm fields.TransportDocumentTypeCode) (required_title v) (λ title.
    required (DocumentForm fields.IsToOrder) (flag_of (codes "isToOrder") v) (λ order.
    title_of title (within_limit (canon v) code provider))))))

-- the fault is the first one, or memory ran out
abbrev pub IsFault : Result DocumentRecord DocumentFault → DocumentFault → Type 0
IsFault read (DocumentForm field) = read ≡ Err (DocumentForm field)
IsFault read NotTitle = read ≡ Err NotTitle
IsFault read TooLarge = read ≡ Err TooLarge
IsFault read NoMemory = Unit {0}
