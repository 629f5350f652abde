-- The text of a document is that of the value that it was.
use Rattle.std.proofs.Common.{◌≡◌, ℕ, Bool, true, false, List, Result, Ok, Err, codes, cond, length, nat_le, sym, ap, ◌∙◌}
use Rattle.canonical_json.specs.Value.{Value}
use Rattle.canonical_json.specs.Canon.{canon}
use Rattle.canonical_json.specs.Field.{flag_of}
use Rattle.ebl_base.specs.declared.carrier_code.CarrierCode.{CarrierCode}
use Rattle.ebl_base.specs.declared.provider.Provider.{Provider}
use Rattle.json_forms.specs.Reading.{required_carrier_code, required_provider}
use Rattle.json_forms.proofs.ReadForms.{required-parts}
use Rattle.transport_document.specs.declared.fault.DocumentFault.{DocumentFault}
use Rattle.transport_document.specs.declared.fault.DocumentFault.TheVariants.{DocumentForm, TooLarge}
use Rattle.transport_document.specs.declared.fault.DocumentField.TheVariants as fields
use Rattle.transport_document.specs.Members.{required_reference, required_title}
use Rattle.transport_document.specs.DocumentRecord.{DocumentRecord}
use Rattle.transport_document.specs.Reading.{within_limit, title_of, document_of}

-- a document within the limit is the one that was made
text-kept : (small : Bool) (made document : DocumentRecord)
    → cond small (Ok made) (Err TooLarge) ≡ Ok document → document.text ≡ made.text
text-kept true made document h =
    let same : made ≡ document = cc in
    ap (λ (d : DocumentRecord). d.text) (sym same)
text-kept false made document h = cc

-- a document is a bill of lading within the limit
within-title : (title : Bool) (within : Result DocumentRecord DocumentFault) (document : DocumentRecord)
    → title_of title within ≡ Ok document → within ≡ Ok document
within-title true within document h = h
within-title false within document h = cc

-- the text of a document is canonical
pub text-document_of : (v : Value) (document : DocumentRecord)
    → document_of v ≡ Ok document → document.text ≡ canon v
text-document_of v document h =
    let reference = required-parts (DocumentForm fields.TransportDocumentReference) (required_reference v) _ document h in
    let code = required-parts (DocumentForm fields.CarrierCode) (required_carrier_code (codes "carrierCode") v) _
    document reference.2 in
    let provider = required-parts (DocumentForm fields.CarrierCodeListProvider)
    (required_provider (codes "carrierCodeListProvider") v) _ document code.2 in
    let title = required-parts (DocumentForm fields.TransportDocumentTypeCode) (required_title v) _ document provider.2 in
    let order = required-parts (DocumentForm fields.IsToOrder) (flag_of (codes "isToOrder") v) _ document title.2 in
    let made : DocumentRecord = record { text = canon v; provider = provider.0; code = code.0 } in
    text-kept (nat_le (length (canon v)) 262144) made document
    (within-title title.0 (within_limit (canon v) code.0 provider.0) document order.2)

-- one value is one document
pub one_document : (v w : Value) (a b : DocumentRecord)
    → document_of v ≡ Ok a → document_of w ≡ Ok b → v ≡ w → a ≡ b
one_document v w a b first second same =
    let ends : Ok a ≡ Ok b = sym first ∙ ap document_of same ∙ second in
    cc
