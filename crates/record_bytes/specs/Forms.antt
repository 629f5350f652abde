-- Which records have a spelling: their names and values are those of their texts, within the limits.
use Rattle.std.specs.Prelude.{◌≡◌, ℕ, ◌≤◌, List, length}
use Rattle.ebl_base.specs.Reason.{code_for}
use Rattle.ebl_base.specs.declared.checksum.Checksum.{Checksum}
use Rattle.ebl_base.specs.declared.chain.ChainLink.{ChainLink}
use Rattle.ebl_base.specs.declared.code.Code.{Code}
use Rattle.ebl_base.specs.declared.evidence.Evidence.{Evidence}
use Rattle.ebl_base.specs.declared.limits.TheConstants.{MAX_CHAIN_ENTRIES}
use Rattle.ebl_base.specs.declared.reason.Reason.{Reason}
use Rattle.ebl_base.specs.declared.reason.Reason.TheVariants as reasons
use Rattle.ebl_base.specs.declared.signed_text.SignedText.{SignedText}
use Rattle.ebl_base.specs.declared.transaction.Transaction.{Transaction}
use Rattle.document_checksum.specs.Digest.{IsChecksum}
use Rattle.chain_entry.specs.Form.{IsTransaction}
use Rattle.envelope_manifest.specs.Piece.{IsPiece}
use Rattle.envelope_manifest.specs.declared.manifest.Manifest.{Manifest}
use Rattle.envelope_manifest.specs.declared.piece.Piece.{Piece}
use Rattle.bill_diary.specs.declared.record.Record.{Record}
use Rattle.bill_diary.specs.declared.record.Record.TheVariants.{Signed, Acted, Attached, Parted, Settled, Regained, Begun, Stored, Taken, Declined}
use Rattle.bill_diary.specs.Texts.{LinkIsItsText, LinksAreTheirTexts, ManifestIsItsText, AreCompact, IsDocumentOf, IsBodyOf}
use Rattle.record_bytes.specs.Fields.{IsShort}

-- ---- each record

-- the bill is that of the document, and the transaction is well-formed
pub record IsSigned (bill : Checksum) (document : List ℕ) (t : Transaction) : Type 0 where
  pub document_is : IsDocumentOf bill document
  pub form : IsTransaction t

pub record IsActed (bill : Checksum) (t : Transaction) : Type 0 where
  pub bill_is : IsChecksum bill
  pub form : IsTransaction t

pub record IsAttached (bill : Checksum) (piece : Piece) (bytes : List ℕ) : Type 0 where
  pub bill_is : IsChecksum bill
  pub form : IsPiece piece
  pub short : IsShort bytes

-- the link and the manifest are those of their texts
pub record IsParted (bill : Checksum) (link : ChainLink) (manifest : Manifest) (text : SignedText) : Type 0 where
  pub bill_is : IsChecksum bill
  pub link_is : LinkIsItsText link
  pub manifest_is : ManifestIsItsText text manifest

-- a bill and an entry by their names
pub record AreNames (bill entry : Checksum) : Type 0 where
  pub bill_is : IsChecksum bill
  pub entry_is : IsChecksum entry

-- bill, chain and manifest are those of the body, whose chain has 1 to 64 texts
pub record IsBegun (bill : Checksum) (chain : List ChainLink) (manifest : Manifest) (body : List ℕ) : Type 0 where
  pub body_is : IsBodyOf bill chain manifest body
  pub links_are : LinksAreTheirTexts chain
  pub some : 1 ≤ length chain
  pub most : length chain ≤ MAX_CHAIN_ENTRIES
  pub short : IsShort body

pub record IsStored (bill entry checksum : Checksum) (bytes : List ℕ) : Type 0 where
  pub names : AreNames bill entry
  pub checksum_is : IsChecksum checksum
  pub short : IsShort bytes

-- an entry is declined for its possessor, who isn't known, or for its chain, which parts from the known one
abbrev pub IsCause : Reason → Type 0
IsCause reasons.Party = Unit {0}
IsCause reasons.Parts = Unit {0}
IsCause reason = ⊥

-- the code is that of the reason, and each text of the evidence is in the compact layout
pub record IsDeclined (bill entry : Checksum) (code : Code) (reason : Reason) (evidence : Evidence) : Type 0 where
  pub names : AreNames bill entry
  pub cause : IsCause reason
  pub code_is : code ≡ code_for reason
  pub evidence_is : AreCompact evidence

-- ---- records

-- a record has a spelling
abbrev pub HasSpelling : Record → Type 0
HasSpelling (Signed bill document t) = IsSigned bill document t
HasSpelling (Acted bill t) = IsActed bill t
HasSpelling (Attached bill piece bytes) = IsAttached bill piece bytes
HasSpelling (Parted bill link manifest text) = IsParted bill link manifest text
HasSpelling (Settled bill entry) = AreNames bill entry
HasSpelling (Regained bill entry) = AreNames bill entry
HasSpelling (Begun bill chain manifest body) = IsBegun bill chain manifest body
HasSpelling (Stored bill entry checksum bytes) = IsStored bill entry checksum bytes
HasSpelling (Taken bill entry) = AreNames bill entry
HasSpelling (Declined bill entry code reason evidence) = IsDeclined bill entry code reason evidence

-- the names that stand in a record's bytes have 32 bytes each, as all that code holds do
abbrev pub HasNames : Record → Type 0
HasNames (Signed bill document t) = Unit {0}
HasNames (Acted bill t) = IsChecksum bill
HasNames (Attached bill piece bytes) = IsChecksum bill
HasNames (Parted bill link manifest text) = IsChecksum bill
HasNames (Settled bill entry) = AreNames bill entry
HasNames (Regained bill entry) = AreNames bill entry
HasNames (Begun bill chain manifest body) = Unit {0}
HasNames (Stored bill entry checksum bytes) = AreNames bill entry × IsChecksum checksum
HasNames (Taken bill entry) = AreNames bill entry
HasNames (Declined bill entry code reason evidence) = AreNames bill entry
