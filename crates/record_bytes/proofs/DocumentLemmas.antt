-- What a document's text is, and how long it is.
use Rattle.std.proofs.Common.{◌≡◌, ◌≢◌, ◌≤◌, ◌<◌, ◌^◌, ℕ, Bool, true, false, nat_le, List, Result, Ok, Err, codes, cond, length, refl, sym, ap, ◌∙◌, subst, arith}
use Rattle.std.proofs.lemmas.Bool.Decides.{nat_tests}
use Rattle.canonical_json.specs.Value.{Value, depth}
use Rattle.canonical_json.specs.Canon.{canon}
use Rattle.canonical_json.specs.Lawful.{IsLawful, HasTexts}
use Rattle.canonical_json.specs.Field.{flag_of}
use Rattle.canonical_json.specs.Reading.{IsUnread, Reads}
use Rattle.canonical_json.proofs.Parts.{Reads_once}
use Rattle.canonical_json.proofs.Readings.{canon_reads}
use Rattle.ebl_base.specs.declared.carrier_code.CarrierCode.{CarrierCode}
use Rattle.ebl_base.specs.declared.checksum.Checksum.{Checksum}
use Rattle.ebl_base.specs.declared.provider.Provider.{Provider}
use Rattle.json_forms.specs.Reading.{required_carrier_code, required_provider}
use Rattle.json_forms.proofs.ReadForms.{required-parts}
use Rattle.transport_document.specs.declared.fault.DocumentFault.{DocumentFault}
use Rattle.transport_document.specs.declared.fault.DocumentFault.TheVariants.{DocumentForm, TooLarge}
use Rattle.transport_document.specs.declared.fault.DocumentField.TheVariants as fields
use Rattle.transport_document.specs.Members.{required_reference, required_title}
use Rattle.transport_document.specs.DocumentRecord.{DocumentRecord, bill_of}
use Rattle.transport_document.specs.Reading.{within_limit, title_of, document_of}
use Rattle.transport_document.proofs.DocumentLemmas.{text-document_of}
use Rattle.bill_diary.specs.Texts.{IsDocumentOf}
use Rattle.record_bytes.specs.Fields.{IsShort}

within : (small : Bool) (made document : DocumentRecord) → cond small (Ok made) (Err TooLarge) ≡ Ok document → small ≡ true
within true made document h = cc
within false made document h = cc

titled : (title : Bool) (read : Result DocumentRecord DocumentFault) (document : DocumentRecord)
    → title_of title read ≡ Ok document → read ≡ Ok document
titled true read document h = h
titled false read document h = cc

-- the text of a document has at most 262,144 bytes
pub document_fits : (v : Value) (document : DocumentRecord) → document_of v ≡ Ok document
    → length document.text ≤ 262144
document_fits v document h =
    let reference = required-parts (DocumentForm fields.TransportDocumentReference) (required_reference v) _ document h in
    let code = required-parts (DocumentForm fields.CarrierCode) (required_carrier_code (codes "carrierCode") v) _
    document reference.2 in
    let provider = required-parts (DocumentForm fields.CarrierCodeListProvider)
    (required_provider (codes "carrierCodeListProvider") v) _ document code.2 in
    let title = required-parts (DocumentForm fields.TransportDocumentTypeCode) (required_title v) _ document provider.2 in
    let order = required-parts (DocumentForm fields.IsToOrder) (flag_of (codes "isToOrder") v) _ document title.2 in
    let made : DocumentRecord = record { text = canon v; provider = provider.0; code = code.0 } in
    let test : nat_le (length (canon v)) 262144 ≡ true = within (nat_le (length (canon v)) 262144) made document
    (titled title.0 (within_limit (canon v) code.0 provider.0) document order.2) in
    let small : length (canon v) ≤ 262144 = grind (arith, nat_tests, test) in
    omega (arith, small, ap length (text-document_of v document h))

pub document_short : (bill : Checksum) (text : List ℕ) → IsDocumentOf bill text → length text ≤ 262144
document_short bill text is =
    omega (arith, document_fits is.value is.document is.reads, ap length is.text_is)

-- a document is read from its text
pub document_reads : (bill : Checksum) (text : List ℕ) (is : IsDocumentOf bill text) → Reads text is.value
document_reads bill text is =
    subst (λ (t : List ℕ). Reads t is.value) (sym (text-document_of is.value is.document is.reads) ∙ is.text_is)
    (canon_reads is.value is.lawful is.texts (omega (arith, is.nests)))

-- what the text of a document reads as is that document's value
pub document_said : (bill : Checksum) (text : List ℕ) (v : Value) → Reads text v → (is : IsDocumentOf bill text)
    → document_of v ≡ Ok is.document
document_said bill text v reads is =
    ap document_of (Reads_once text v is.value reads (document_reads bill text is)) ∙ is.reads

pub no_bill_unread : (text : List ℕ) → IsUnread text → (bill : Checksum) → ¬ IsDocumentOf bill text
no_bill_unread text unread bill is = unread is.value (document_reads bill text is)

pub no_bill_deep : (text : List ℕ) (v : Value) → Reads text v → nat_le (depth v) 126 ≡ false → (bill : Checksum)
    → ¬ IsDocumentOf bill text
no_bill_deep text v reads deep bill is =
    let same : is.value ≡ v = Reads_once text is.value v (document_reads bill text is) reads in
    let flat : depth v ≤ 126 = subst (λ (w : Value). depth w ≤ 126) same is.nests in
    grind (arith, nat_tests, flat, deep)

pub no_bill_said : (text : List ℕ) (v : Value) → Reads text v → ((d : DocumentRecord) → ¬ (document_of v ≡ Ok d))
    → (bill : Checksum) → ¬ IsDocumentOf bill text
no_bill_said text v reads never bill is = never is.document (document_said bill text v reads is)

pub bill_differs : (text : List ℕ) (v : Value) (document : DocumentRecord) → Reads text v
    → document_of v ≡ Ok document → document.text ≢ text → (bill : Checksum) → ¬ IsDocumentOf bill text
bill_differs text v document reads said differs bill is =
    let both : Ok document ≡ Ok is.document = sym said ∙ document_said bill text v reads is in
    let same : document ≡ is.document = cc both in
    differs (ap (λ (d : DocumentRecord). d.text) same ∙ is.text_is)
