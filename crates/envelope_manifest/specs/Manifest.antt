-- What a platform says of a bill that it sends: which JSON values are a manifest, and how one is written.
use Rattle.std.specs.Prelude.{◌≡◌, ℕ, ◌≤◌, List, [], ◌∷◌, Bool, true, not, ◌&&◌, IsTrue, Option, Some, None, Result, Ok, Err, codes, length, map, nat_le, sum_by, option_and_then, if◌then◌else◌}
use Rattle.std.specs.Set.{is_member}
use Rattle.canonical_json.specs.Value.{Value, Values, list, object, no_members, member}
use Rattle.document_checksum.specs.Digest.{IsChecksum}
use Rattle.json_forms.specs.Reading.{required_checksum, required_items, all_of, required}
use Rattle.json_forms.specs.Writing.{checksum_value, each_written}
use Rattle.ebl_base.specs.Checksum.{checksum_eq}
use Rattle.ebl_base.specs.declared.checksum.Checksum.{Checksum}
use Rattle.ebl_base.specs.declared.limits.TheConstants.{MAX_DOCUMENTS, MAX_DOCUMENTS_SIZE}
use Rattle.envelope_manifest.specs.declared.fault.ManifestField.{ManifestField}
use Rattle.envelope_manifest.specs.declared.fault.ManifestField.TheVariants.{Bill, Last, Documents}
use Rattle.envelope_manifest.specs.declared.fault.ManifestFault.{ManifestFault}
use Rattle.envelope_manifest.specs.declared.fault.ManifestFault.TheVariants.{ManifestForm, NoMemory}
use Rattle.envelope_manifest.specs.declared.piece.Piece.{Piece}
use Rattle.envelope_manifest.specs.declared.manifest.Manifest.{Manifest}
use Rattle.envelope_manifest.specs.Piece.{piece_in, piece_value, IsPiece}

-- no checksum comes twice
abbrev pub are_distinct : List Checksum → Bool
are_distinct [] = true
are_distinct (checksum ∷ checksums) = not (is_member checksum_eq checksums checksum) && are_distinct checksums

-- the checksums of the listed documents
abbrev pub checksums_of : List Piece → List Checksum
checksums_of pieces = map (λ piece. piece.checksum) pieces

-- how many bytes the listed documents have together
abbrev pub total_size : List Piece → ℕ
total_size pieces = sum_by (λ piece. piece.size) pieces

-- distinct documents, together of at most 4,194,304 bytes
abbrev pub go_together : List Piece → Bool
go_together pieces = are_distinct (checksums_of pieces) && nat_le (total_size pieces) MAX_DOCUMENTS_SIZE

-- the listed documents, where they go together
abbrev pub together : List Piece → Option (List Piece)
together pieces = if go_together pieces then Some pieces else None

-- the documents that some values list
abbrev pub pieces_in : Values → Option (List Piece)
pieces_in values = option_and_then together (all_of piece_in values)

-- at most 16 of them
abbrev pub required_pieces : Value → Option (List Piece)
required_pieces v = option_and_then pieces_in (required_items (codes "documents") 0 MAX_DOCUMENTS v)

-- the manifest that a value is, or the first field that is absent or malformed
abbrev pub manifest_of : Value → Result Manifest ManifestField
manifest_of v =
    required Bill (required_checksum (codes "bill") v) (λ bill.
    required Last (required_checksum (codes "last") v) (λ last.
    required Documents (required_pieces v) (λ documents.
    Ok (record { bill = bill; last = last; documents = documents }))))

-- the fault is the first wrong field, or memory ran out
abbrev pub IsFault : {T : Type 0} → Result T ManifestField → ManifestFault → Type 0
IsFault read (ManifestForm field) = read ≡ Err field
IsFault read NoMemory = Unit {0}

-- each listed document that is well-formed
abbrev pub ArePieces : List Piece → Type 0
ArePieces [] = Unit {0}
ArePieces (piece ∷ pieces) = IsPiece piece × ArePieces pieces

-- the listed documents as a manifest allows them
pub record AreDocuments (pieces : List Piece) : Type 0 where
  pub count : length pieces ≤ MAX_DOCUMENTS
  pub each : ArePieces pieces
  pub together : IsTrue (go_together pieces)

-- a well-formed manifest
pub record IsManifest (manifest : Manifest) : Type 0 where
  pub bill : IsChecksum manifest.bill
  pub last : IsChecksum manifest.last
  pub documents : AreDocuments manifest.documents

-- the written form, with the names in order
abbrev pub manifest_value : Manifest → Value
manifest_value manifest =
    object (member (codes "bill") (checksum_value manifest.bill)
    (member (codes "documents") (list (each_written piece_value manifest.documents))
    (member (codes "last") (checksum_value manifest.last) no_members)))
