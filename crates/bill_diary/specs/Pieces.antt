-- The additional documents of a bill: those listed for it, and those whose bytes are there.
use Rattle.std.specs.Prelude.{Bool, false, not, ℕ, List, [], ◌∷◌, ◌++◌, Option, Some, None, filter, bytes_eq}
use Rattle.std.specs.List.{list_any, filter_map}
use Rattle.std.specs.Option.{option_map_or}
use Rattle.ebl_base.specs.Checksum.{checksum_eq}
use Rattle.ebl_base.specs.declared.checksum.Checksum.{Checksum}
use Rattle.envelope_manifest.specs.declared.piece.Piece.{Piece}
use Rattle.envelope_manifest.specs.declared.manifest.Manifest.{Manifest}
use Rattle.envelope_manifest.specs.Manifest.{checksums_of}
pub use Rattle.upload_state.specs.Piece.{Fits}
use Rattle.bill_diary.specs.declared.record.Record.{Record}
use Rattle.bill_diary.specs.declared.record.Record.TheVariants.{Attached, Stored, Taken}
use Rattle.bill_diary.specs.Known.{last_begun}

-- the documents of a bill: those of the manifest of its last Taken, followed by those attached since
abbrev pub pieces_of : List Record → List Piece
pieces_of [] = []
pieces_of (Attached bill piece bytes ∷ h) = pieces_of h ++ piece ∷ []
pieces_of (Taken bill entry ∷ h) = option_map_or (λ came. came.manifest.documents) (last_begun entry h) []
pieces_of (r ∷ h) = pieces_of h

-- whether a document with this checksum is among some that are listed
abbrev pub lists : List Piece → Checksum → Bool
lists pieces checksum = list_any (λ piece. checksum_eq piece.checksum checksum) pieces

-- whether a record brought the bytes of this checksum
abbrev pub brings : Checksum → Record → Bool
brings checksum (Attached bill piece bytes) = checksum_eq piece.checksum checksum
brings checksum (Stored bill entry other bytes) = checksum_eq other checksum
brings checksum r = false

-- whether the bytes of this checksum are there for the bill: attached, or stored
abbrev pub is_there : List Record → Checksum → Bool
is_there h checksum = list_any (brings checksum) h

-- the checksum of the bytes that a record brought, if it did
abbrev pub brought_by : Record → Option Checksum
brought_by (Attached bill piece bytes) = Some piece.checksum
brought_by (Stored bill entry checksum bytes) = Some checksum
brought_by r = None

-- the checksums of the bytes that are there for the bill
abbrev pub brought : List Record → List Checksum
brought h = filter_map brought_by h

-- whether a record brought these bytes
abbrev pub brings_bytes : List ℕ → Record → Bool
brings_bytes bytes (Attached bill piece other) = bytes_eq other bytes
brings_bytes bytes (Stored bill entry checksum other) = bytes_eq other bytes
brings_bytes bytes r = false

-- whether these bytes are there for the bill: attached, or stored
abbrev pub are_there : List Record → List ℕ → Bool
are_there h bytes = list_any (brings_bytes bytes) h

-- the checksums of a manifest's documents that aren't there, in its order
abbrev pub missing_of : Manifest → List Record → List Checksum
missing_of manifest h =
    filter (λ checksum. not (is_there h checksum)) (checksums_of manifest.documents)
