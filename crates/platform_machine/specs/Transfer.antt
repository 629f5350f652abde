-- A transfer that is under way from here: what it consists of, its start, and the uploads that follow.
use Rattle.std.specs.Prelude.{◌≡◌, ◌≢◌, ℕ, List, [], ◌∷◌, ◌++◌, Option, Some, None, Result, Ok, Err, if◌then◌else◌, option_map, option_and_then}
use Rattle.std.specs.List.{flat_map}
use Rattle.std.specs.Option.{option_to_list}
use Rattle.std.specs.Set.{is_member}
use Rattle.ebl_base.specs.Checksum.{checksum_eq}
use Rattle.ebl_base.specs.Reference.{reference_of}
use Rattle.ebl_base.specs.declared.checksum.Checksum.{Checksum}
use Rattle.ebl_base.specs.declared.chain.ChainLink.{ChainLink}
use Rattle.ebl_base.specs.declared.platform_code.PlatformCode.{PlatformCode}
use Rattle.ebl_base.specs.declared.reference.Reference.{Reference}
use Rattle.ebl_base.specs.declared.signed_text.SignedText.{SignedText}
use Rattle.canonical_json.specs.Value.{Value}
use Rattle.canonical_json.specs.Canon.{canon}
use Rattle.canonical_json.specs.Reading.{value_in}
use Rattle.canonical_json.specs.declared.fault.ReadError.{ReadError}
use Rattle.envelope_manifest.specs.Body.{BodyRecord, body_in, body_value}
use Rattle.envelope_manifest.specs.declared.fault.BodyField.{BodyField}
use Rattle.envelope_manifest.specs.declared.manifest.Manifest.{Manifest}
use Rattle.envelope_manifest.specs.declared.piece.Piece.{Piece}
use Rattle.bill_chain.specs.Chain.{destination}
use Rattle.transfer_chain.specs.Checked.{texts_of}
use Rattle.platform_requests.specs.declared.message.Message.{Message}
use Rattle.platform_requests.specs.declared.message.Message.TheVariants as messages
use Rattle.bill_diary.specs.declared.record.Record.{Record}
use Rattle.bill_diary.specs.declared.record.Record.TheVariants.{Parted}
use Rattle.bill_diary.specs.declared.bill_place.BillPlace.TheVariants.{Parting}
use Rattle.bill_diary.specs.Place.{place_of}
use Rattle.bill_diary.specs.Searches.{first_bytes, last_body, last_parted_record, signed_text}

-- ---- a transfer from here

-- the chain with the entry that is parting at its end, that entry, the manifest with its text, and where the entry
-- moves possession
pub record TransferRecord : Type 0 where
  pub chain : List ChainLink
  pub entry : ChainLink
  pub manifest : Manifest
  pub manifest_text : SignedText
  pub to : PlatformCode

-- the transfer of a bill that is parting, by the records of the bill
pub record IsUnderWay (bill : Checksum) (h : List Record) (t : TransferRecord) : Type 0 where
  pub known : List ChainLink
  pub parting : place_of h ≡ Parting known t.entry
  pub chain_is : t.chain ≡ known ++ t.entry ∷ []
  pub goes : destination t.chain ≡ Some t.to
  pub parted : last_parted_record h ≡ Some (Parted bill t.entry t.manifest t.manifest_text)

-- the bill isn't parting
abbrev pub NothingUnderWay : List Record → Type 0
NothingUnderWay h = (known : List ChainLink) (entry : ChainLink) → place_of h ≢ Parting known entry

-- ---- its start

-- what a text is, if it is a value; what a body is, if it is one
abbrev pub if_read : Result Value ReadError → Option Value
if_read (Ok v) = Some v
if_read (Err fault) = None

abbrev pub if_body : Result BodyRecord BodyField → Option BodyRecord
if_body (Ok parts) = Some parts
if_body (Err field) = None

-- the document of a body
abbrev pub document_of_body : List ℕ → Option Value
document_of_body body = option_map (λ parts. parts.document) (if_body (body_in body))

-- the document of a bill, by its records: the one that was signed here, or else the one that came with the last body
abbrev pub document_with : Option (List ℕ) → Option (List ℕ) → Option Value
document_with (Some text) body = if_read (value_in text)
document_with None body = option_and_then document_of_body body

abbrev pub document_in : List Record → Option Value
document_in h = document_with (signed_text h) (last_body h)

-- the body of a start: the canonical text of the bill's document, the manifest's text, and the texts of the whole chain
pub record IsStartBody (h : List Record) (chain : List ChainLink) (manifest_text : SignedText) (body : List ℕ)
    : Type 0 where
  pub parts : BodyRecord
  pub text_is : body ≡ canon (body_value parts)
  pub document_is : document_in h ≡ Some parts.document
  pub manifest_is : parts.manifest ≡ manifest_text
  pub chain_is : parts.chain ≡ texts_of chain

-- the start, and nothing else, is sent
pub record SendsStart (bill : Checksum) (h : List Record) (chain : List ChainLink) (manifest_text : SignedText)
    (to : PlatformCode) (sent : List Message) : Type 0 where
  pub body : List ℕ
  pub body_is : IsStartBody h chain manifest_text body
  pub sent_is : sent ≡ messages.Start to bill body ∷ []

-- ---- its uploads

-- the reference under which its documents are sent
abbrev pub reference_at : Checksum → TransferRecord → Reference
reference_at bill t = reference_of bill t.entry.name

-- the document of the manifest, if it is asked for, with the bytes that were there first
abbrev pub put_of : Checksum → List Record → TransferRecord → List Checksum → Piece → Option Message
put_of bill h t missing piece =
    if is_member checksum_eq missing piece.checksum
    then option_map (λ bytes. messages.Put t.to bill (reference_at bill t) piece.checksum bytes)
    (first_bytes piece.checksum h)
    else None

-- those that are asked for, in the manifest's order, and then the finish
abbrev pub uploads_of : Checksum → List Record → TransferRecord → List Checksum → List Message
uploads_of bill h t missing =
    flat_map (λ piece. option_to_list (put_of bill h t missing piece)) t.manifest.documents
    ++ messages.Finish t.to bill (reference_at bill t) ∷ []
