-- The names and values in a record are those of its texts.
use Rattle.std.specs.Prelude.{◌≡◌, ℕ, ◌≤◌, List, [], ◌∷◌, Ok, IfSome, map}
use Rattle.ebl_base.specs.declared.checksum.Checksum.{Checksum}
use Rattle.ebl_base.specs.declared.chain.ChainLink.{ChainLink}
use Rattle.ebl_base.specs.declared.evidence.Evidence.{Evidence}
use Rattle.ebl_base.specs.declared.limits.TheConstants.{MAX_SIGNED_TEXT}
use Rattle.ebl_base.specs.declared.signed_text.SignedText.{SignedText}
use Rattle.canonical_json.specs.Value.{Value, depth}
use Rattle.canonical_json.specs.Canon.{canon}
use Rattle.canonical_json.specs.Lawful.{IsLawful, HasTexts}
use Rattle.canonical_json.specs.Reading.{Reads}
use Rattle.document_checksum.specs.Digest.{checksum_of}
use Rattle.signed_envelope.specs.Compact as envelopes
use Rattle.signed_envelope.specs.Compact.{IsCompact}
use Rattle.signed_envelope.specs.declared.compact.Parts.{Parts}
use Rattle.transport_document.specs.DocumentRecord.{DocumentRecord, bill_of}
use Rattle.transport_document.specs.Reading.{document_of}
use Rattle.chain_entry.specs.Reading.{entry_of}
use Rattle.envelope_manifest.specs.Body.{BodyRecord, body_of, body_value}
use Rattle.envelope_manifest.specs.Manifest.{manifest_of}
use Rattle.envelope_manifest.specs.declared.manifest.Manifest.{Manifest}

-- the text is in the compact layout within 16,384 bytes, and its payload reads as the value
pub record HasPayload (text : SignedText) (payload : Value) : Type 0 where
  pub parts : Parts
  pub compact : IsCompact MAX_SIGNED_TEXT text.0 parts
  pub reads : Reads parts.payload payload

-- a link's name is its text's, and its entry is the one that the text's payload reads as
pub record LinkIsItsText (link : ChainLink) : Type 0 where
  pub name : link.name ≡ checksum_of link.text.0
  pub payload : Value
  pub has_payload : HasPayload link.text payload
  pub reads_as : entry_of payload ≡ Ok link.entry

-- each link of a chain is its text
abbrev pub LinksAreTheirTexts : List ChainLink → Type 0
LinksAreTheirTexts [] = Unit {0}
LinksAreTheirTexts (link ∷ links) = LinkIsItsText link × LinksAreTheirTexts links

-- a manifest is the one that its text's payload reads as
pub record ManifestIsItsText (text : SignedText) (manifest : Manifest) : Type 0 where
  pub payload : Value
  pub has_payload : HasPayload text payload
  pub reads_as : manifest_of payload ≡ Ok manifest

-- the text is in the compact layout within 16,384 bytes
abbrev pub IsCompactText : SignedText → Type 0
IsCompactText text = envelopes.IsCompactText MAX_SIGNED_TEXT text.0

-- each text of the evidence is
pub record AreCompact (evidence : Evidence) : Type 0 where
  pub own : IfSome evidence.own IsCompactText
  pub theirs : IfSome evidence.theirs IsCompactText

-- the text is the canonical text of a document of this bill, which nests at most 126 deep, so that it reads back
-- within a body too
pub record IsDocumentOf (bill : Checksum) (text : List ℕ) : Type 0 where
  pub value : Value
  pub lawful : IsLawful value
  pub texts : HasTexts value
  pub nests : depth value ≤ 126
  pub document : DocumentRecord
  pub reads : document_of value ≡ Ok document
  pub text_is : document.text ≡ text
  pub names : bill_of document ≡ bill

-- the text reads as a body with a document of this bill, this manifest's text, and the texts of this chain; and it is
-- the canonical text of that body's written form, which has no further member
pub record IsBodyOf (bill : Checksum) (chain : List ChainLink) (manifest : Manifest) (body : List ℕ) : Type 0 where
  pub value : Value
  pub reads : Reads body value
  pub parts : BodyRecord
  pub reads_as : body_of value ≡ Ok parts
  pub text_is : canon (body_value parts) ≡ body
  pub document_is : IsDocumentOf bill (canon parts.document)
  pub manifest_is : ManifestIsItsText parts.manifest manifest
  pub chain_is : parts.chain ≡ map (λ link. link.text) chain
