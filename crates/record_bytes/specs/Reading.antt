-- What the steps of a reading find: exactly what the bytes spell, or that they spell nothing of the kind.
use Rattle.std.specs.Prelude.{◌≡◌, ℕ, ◌+◌, ◌≤◌, List, ◌∷◌, ◌++◌, Option, Some, None, Ok, map}
use Rattle.ebl_base.specs.declared.checksum.Checksum.{Checksum}
use Rattle.ebl_base.specs.declared.chain.ChainLink.{ChainLink}
use Rattle.ebl_base.specs.declared.entry.Entry.{Entry}
use Rattle.ebl_base.specs.declared.evidence.Evidence.{Evidence}
use Rattle.ebl_base.specs.declared.signed_text.SignedText.{SignedText}
use Rattle.ebl_base.specs.declared.transaction.Transaction.{Transaction}
use Rattle.document_checksum.specs.Digest.{IsChecksum}
use Rattle.canonical_json.specs.Canon.{canon}
use Rattle.canonical_json.specs.Value.{Value, depth}
use Rattle.chain_entry.specs.Reading.{entry_of}
use Rattle.chain_entry.specs.Form.{IsTransaction}
use Rattle.chain_entry.specs.Writing.{transaction_value}
use Rattle.envelope_manifest.specs.Body.{IsBody, ReadsAs, body_value}
use Rattle.envelope_manifest.specs.Piece.{IsPiece, piece_value}
use Rattle.envelope_manifest.specs.declared.piece.Piece.{Piece}
use Rattle.transport_document.specs.DocumentRecord.{DocumentRecord}
use Rattle.transport_document.specs.Reading.{document_of}
use Rattle.bill_diary.specs.declared.record.Record.{Record}
use Rattle.bill_diary.specs.declared.frame.Frame.{Frame}
use Rattle.bill_diary.specs.Texts.{HasPayload, LinkIsItsText, LinksAreTheirTexts, IsCompactText, AreCompact}
use Rattle.record_bytes.specs.Fields.{IsShort, text_bytes, count_of, marked, evidence_bytes}
use Rattle.record_bytes.specs.Forms.{AreNames, HasSpelling}
use Rattle.record_bytes.specs.Grammar.{tag_of, fields_of}

-- what was found passes; where nothing was, nothing passes
abbrev pub Finds : {T : Type 0} → (T → Type 0) → Option T → Type 0
Finds {T = T} P None = (x : T) → ¬ P x
Finds {T = T} P (Some x) = P x

-- the bytes begin with this text, and end with these
pub record BeginsWithText (bytes text rest : List ℕ) : Type 0 where
  pub short : IsShort text
  pub bytes_are : bytes ≡ text_bytes text ++ rest

-- the bytes begin with this name
pub record BeginsWithName (bytes : List ℕ) (name : Checksum) (rest : List ℕ) : Type 0 where
  pub form : IsChecksum name
  pub bytes_are : bytes ≡ name.0 ++ rest

-- the bytes are this text
pub record IsText (bytes text : List ℕ) : Type 0 where
  pub short : IsShort text
  pub bytes_are : bytes ≡ text_bytes text

-- the bytes are these two texts
pub record AreTexts (bytes first second : List ℕ) : Type 0 where
  pub first_short : IsShort first
  pub second_short : IsShort second
  pub bytes_are : bytes ≡ text_bytes first ++ text_bytes second

-- the bytes begin with the names of a bill and an entry
pub record BeginsWithNames (bytes : List ℕ) (bill entry : Checksum) (rest : List ℕ) : Type 0 where
  pub names : AreNames bill entry
  pub bytes_are : bytes ≡ bill.0 ++ (entry.0 ++ rest)

-- the bytes are the names of a bill and an entry
pub record AreTwoNames (bytes : List ℕ) (bill entry : Checksum) : Type 0 where
  pub names : AreNames bill entry
  pub bytes_are : bytes ≡ bill.0 ++ entry.0

-- the text is that of the transaction
pub record IsTransactionText (text : List ℕ) (t : Transaction) : Type 0 where
  pub form : IsTransaction t
  pub text_is : text ≡ canon (transaction_value t)

-- the text is that of the listed document
pub record IsPieceText (text : List ℕ) (piece : Piece) : Type 0 where
  pub form : IsPiece piece
  pub text_is : text ≡ canon (piece_value piece)

-- the text has these bytes, and is in the compact layout
pub record IsCompactOf (bytes : List ℕ) (text : SignedText) : Type 0 where
  pub bytes_are : text.0 ≡ bytes
  pub compact : IsCompactText text

-- the bytes are those of a text in the compact layout
pub record IsCompactField (bytes : List ℕ) (text : SignedText) : Type 0 where
  pub compact : IsCompactText text
  pub bytes_are : bytes ≡ text_bytes text.0

-- the same, behind the byte of their text
pub record IsTheirs (bytes : List ℕ) (text : SignedText) : Type 0 where
  pub compact : IsCompactText text
  pub bytes_are : bytes ≡ 2 ∷ text_bytes text.0

-- the bytes behind a count are those of the texts of evidence
pub record IsMarked (count : ℕ) (bytes : List ℕ) (evidence : Evidence) : Type 0 where
  pub form : AreCompact evidence
  pub count_is : count ≡ count_of evidence.own + count_of evidence.theirs
  pub bytes_are : bytes ≡ marked 1 evidence.own ++ marked 2 evidence.theirs

-- the bytes are those of the evidence
pub record IsEvidenceText (bytes : List ℕ) (evidence : Evidence) : Type 0 where
  pub form : AreCompact evidence
  pub bytes_are : bytes ≡ evidence_bytes evidence

-- ---- texts and what they say

-- the payload of the text reads as the entry
pub record SaysEntry (text : SignedText) (entry : Entry) : Type 0 where
  pub payload : Value
  pub has_payload : HasPayload text payload
  pub reads_as : entry_of payload ≡ Ok entry

-- the link has this text, which says its entry
pub record IsLinkOf (text : SignedText) (link : ChainLink) : Type 0 where
  pub text_is : link.text ≡ text
  pub link_is : LinkIsItsText link

-- the chain's links have these texts, which say their entries
pub record AreLinksOf (texts : List SignedText) (links : List ChainLink) : Type 0 where
  pub texts_are : texts ≡ map (λ link. link.text) links
  pub links_are : LinksAreTheirTexts links

-- the bytes are the written form of a body with this document, which has no further member
pub record IsBodyWith (bytes : List ℕ) (document : DocumentRecord) (manifest : SignedText) (chain : List SignedText)
    : Type 0 where
  pub value : Value
  pub reads : ReadsAs bytes (record { document = value; manifest = manifest; chain = chain })
  pub text_is : canon (body_value (record { document = value; manifest = manifest; chain = chain })) ≡ bytes
  pub form : IsBody (record { document = value; manifest = manifest; chain = chain })
  pub nests : depth value ≤ 126
  pub said : document_of value ≡ Ok document

-- ---- records

-- the fields are those of a record of this kind
pub record AreFields (tag : ℕ) (fields : List ℕ) (r : Record) : Type 0 where
  pub kind : tag_of r ≡ tag
  pub form : HasSpelling r
  pub fields_are : fields ≡ fields_of r
