-- The parts of a record whose fields some bytes are.
use Rattle.std.proofs.Common.{◌≡◌, ◌≢◌, ◌⊎◌, ℕ, ◌<◌, List, [], ◌∷◌, ◌++◌, length, refl, sym, ◌∙◌, ap, arith}
use Rattle.ebl_base.specs.declared.checksum.Checksum.{Checksum}
use Rattle.ebl_base.specs.declared.chain.ChainLink.{ChainLink}
use Rattle.ebl_base.specs.declared.code.Code.{Code}
use Rattle.ebl_base.specs.declared.evidence.Evidence.{Evidence}
use Rattle.ebl_base.specs.declared.reason.Reason.{Reason}
use Rattle.ebl_base.specs.declared.signed_text.SignedText.{SignedText}
use Rattle.ebl_base.specs.declared.transaction.Transaction.{Transaction}
use Rattle.canonical_json.specs.Canon.{canon}
use Rattle.chain_entry.specs.Writing.{transaction_value}
use Rattle.chain_entry.proofs.LengthLemmas.{transaction_length}
use Rattle.envelope_manifest.specs.Piece.{piece_value}
use Rattle.envelope_manifest.specs.declared.manifest.Manifest.{Manifest}
use Rattle.envelope_manifest.specs.declared.piece.Piece.{Piece}
use Rattle.envelope_manifest.proofs.LengthLemmas.{piece_length}
use Rattle.bill_diary.specs.declared.record.Record.{Record}
use Rattle.bill_diary.specs.declared.record.Record.TheVariants.{Signed, Acted, Attached, Parted, Settled, Regained, Begun, Stored, Taken, Declined}
use Rattle.bill_diary.specs.Texts.{LinkIsItsText, ManifestIsItsText}
use Rattle.record_bytes.specs.Fields.{text_bytes, IsShort, evidence_bytes}
use Rattle.record_bytes.specs.Forms.{AreNames, IsSigned, IsActed, IsAttached, IsParted, IsBegun, IsStored, IsDeclined}
use Rattle.record_bytes.specs.Grammar.{cause_byte}
use Rattle.record_bytes.specs.Reading.{BeginsWithName, BeginsWithNames, IsText, AreTexts, AreTwoNames, AreFields}
use Rattle.record_bytes.proofs.DocumentLemmas.{document_short}

pub record SignedParts (fields : List ℕ) : Type 0 where
  pub bill : Checksum
  pub document : List ℕ
  pub t : Transaction
  pub form : IsSigned bill document t
  pub texts : AreTexts fields document (canon (transaction_value t))

pub signed_parts : (fields : List ℕ) (r : Record) → AreFields 1 fields r → SignedParts fields
signed_parts fields (Signed bill document t) are = record {
  bill = bill;
  document = document;
  t = t;
  form = are.form;
  texts = record {
    first_short = omega (arith, document_short bill document are.form.document_is);
    second_short = omega (arith, transaction_length t are.form.form);
    bytes_are = are.fields_are;
  };
}
signed_parts fields r are = absurd (omega (arith, are.kind))

pub record ActedParts (fields : List ℕ) : Type 0 where
  pub bill : Checksum
  pub t : Transaction
  pub form : IsActed bill t
  pub begins : BeginsWithName fields bill (text_bytes (canon (transaction_value t)))
  pub text : IsText (text_bytes (canon (transaction_value t))) (canon (transaction_value t))

pub acted_parts : (fields : List ℕ) (r : Record) → AreFields 2 fields r → ActedParts fields
acted_parts fields (Acted bill t) are = record {
  bill = bill;
  t = t;
  form = are.form;
  begins = record { form = are.form.bill_is; bytes_are = are.fields_are };
  text = record { short = omega (arith, transaction_length t are.form.form); bytes_are = refl };
}
acted_parts fields r are = absurd (omega (arith, are.kind))

pub record AttachedParts (fields : List ℕ) : Type 0 where
  pub bill : Checksum
  pub piece : Piece
  pub bytes : List ℕ
  pub form : IsAttached bill piece bytes
  pub begins : BeginsWithName fields bill (text_bytes (canon (piece_value piece)) ++ text_bytes bytes)
  pub texts : AreTexts (text_bytes (canon (piece_value piece)) ++ text_bytes bytes) (canon (piece_value piece)) bytes

pub attached_parts : (fields : List ℕ) (r : Record) → AreFields 3 fields r → AttachedParts fields
attached_parts fields (Attached bill piece bytes) are = record {
  bill = bill;
  piece = piece;
  bytes = bytes;
  form = are.form;
  begins = record { form = are.form.bill_is; bytes_are = are.fields_are };
  texts = record {
    first_short = omega (arith, piece_length piece are.form.form);
    second_short = are.form.short;
    bytes_are = refl;
  };
}
attached_parts fields r are = absurd (omega (arith, are.kind))

-- a link's text, and a manifest's, have at most 16,384 bytes
pub link_short : (link : ChainLink) → LinkIsItsText link → IsShort link.text.0
link_short link is = let fits = is.has_payload.compact.fits in omega (arith, fits)

pub manifest_short : (text : SignedText) (manifest : Manifest) → ManifestIsItsText text manifest → IsShort text.0
manifest_short text manifest is = let fits = is.has_payload.compact.fits in omega (arith, fits)

pub record PartedParts (fields : List ℕ) : Type 0 where
  pub bill : Checksum
  pub link : ChainLink
  pub manifest : Manifest
  pub text : SignedText
  pub form : IsParted bill link manifest text
  pub begins : BeginsWithName fields bill (text_bytes link.text.0 ++ text_bytes text.0)
  pub texts : AreTexts (text_bytes link.text.0 ++ text_bytes text.0) link.text.0 text.0

pub parted_parts : (fields : List ℕ) (r : Record) → AreFields 4 fields r → PartedParts fields
parted_parts fields (Parted bill link manifest text) are = record {
  bill = bill;
  link = link;
  manifest = manifest;
  text = text;
  form = are.form;
  begins = record { form = are.form.bill_is; bytes_are = are.fields_are };
  texts = record {
    first_short = link_short link are.form.link_is;
    second_short = manifest_short text manifest are.form.manifest_is;
    bytes_are = refl;
  };
}
parted_parts fields r are = absurd (omega (arith, are.kind))

pub record BegunParts (fields : List ℕ) : Type 0 where
  pub bill : Checksum
  pub chain : List ChainLink
  pub manifest : Manifest
  pub body : List ℕ
  pub form : IsBegun bill chain manifest body
  pub text : IsText fields body

pub begun_parts : (fields : List ℕ) (r : Record) → AreFields 7 fields r → BegunParts fields
begun_parts fields (Begun bill chain manifest body) are = record {
  bill = bill;
  chain = chain;
  manifest = manifest;
  body = body;
  form = are.form;
  text = record { short = are.form.short; bytes_are = are.fields_are };
}
begun_parts fields r are = absurd (omega (arith, are.kind))

pub record StoredParts (fields : List ℕ) : Type 0 where
  pub bill : Checksum
  pub entry : Checksum
  pub checksum : Checksum
  pub bytes : List ℕ
  pub form : IsStored bill entry checksum bytes
  pub begins : BeginsWithNames fields bill entry (checksum.0 ++ text_bytes bytes)
  pub then : BeginsWithName (checksum.0 ++ text_bytes bytes) checksum (text_bytes bytes)
  pub text : IsText (text_bytes bytes) bytes

pub stored_parts : (fields : List ℕ) (r : Record) → AreFields 8 fields r → StoredParts fields
stored_parts fields (Stored bill entry checksum bytes) are = record {
  bill = bill;
  entry = entry;
  checksum = checksum;
  bytes = bytes;
  form = are.form;
  begins = record { names = are.form.names; bytes_are = are.fields_are };
  then = record { form = are.form.checksum_is; bytes_are = refl };
  text = record { short = are.form.short; bytes_are = refl };
}
stored_parts fields r are = absurd (omega (arith, are.kind))

pub record DeclinedParts (fields : List ℕ) : Type 0 where
  pub bill : Checksum
  pub entry : Checksum
  pub code : Code
  pub reason : Reason
  pub evidence : Evidence
  pub form : IsDeclined bill entry code reason evidence
  pub begins : BeginsWithNames fields bill entry (cause_byte reason ∷ evidence_bytes evidence)

pub declined_parts : (fields : List ℕ) (r : Record) → AreFields 10 fields r → DeclinedParts fields
declined_parts fields (Declined bill entry code reason evidence) are = record {
  bill = bill;
  entry = entry;
  code = code;
  reason = reason;
  evidence = evidence;
  form = are.form;
  begins = record { names = are.form.names; bytes_are = are.fields_are };
}
declined_parts fields r are = absurd (omega (arith, are.kind))
