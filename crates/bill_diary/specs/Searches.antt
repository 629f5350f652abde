-- What a diary is searched for: a Parted, the bytes of a document, and the document of a bill.
use Rattle.std.specs.Prelude.{ℕ, Bool, ◌&&◌, List, [], ◌∷◌, Option, Some, None, find, if◌then◌else◌}
use Rattle.std.specs.Option.{option_or, option_map_or}
use Rattle.ebl_base.specs.Checksum.{checksum_eq}
use Rattle.ebl_base.specs.declared.checksum.Checksum.{Checksum}
use Rattle.envelope_manifest.specs.declared.piece.Piece.{Piece}
use Rattle.bill_diary.specs.declared.record.Record.{Record}
use Rattle.bill_diary.specs.declared.record.Record.TheVariants.{Signed, Attached, Begun, Stored}
use Rattle.bill_diary.specs.declared.frame.Frame.{Frame}
use Rattle.bill_diary.specs.declared.frame.Frame.TheVariants.{One, BegunTaken}
use Rattle.bill_diary.specs.History.{bill_of}
use Rattle.bill_diary.specs.Known.{last_begun}
use Rattle.bill_diary.specs.Sound.{is_parted}

-- the last Parted
abbrev pub last_parted_record : List Record → Option Record
last_parted_record h = find is_parted h

-- the bytes of this checksum that a record brought
abbrev pub bytes_in : Checksum → Record → Option (List ℕ)
bytes_in checksum (Attached bill piece bytes) = if checksum_eq piece.checksum checksum then Some bytes else None
bytes_in checksum (Stored bill entry other bytes) = if checksum_eq other checksum then Some bytes else None
bytes_in checksum r = None

-- the bytes of this checksum that were there first
abbrev pub first_bytes : Checksum → List Record → Option (List ℕ)
first_bytes checksum [] = None
first_bytes checksum (r ∷ h) = option_or (first_bytes checksum h) (bytes_in checksum r)

-- the text of the document that was signed
abbrev pub signed_text : List Record → Option (List ℕ)
signed_text [] = None
signed_text (Signed bill document transaction ∷ h) = Some document
signed_text (r ∷ h) = signed_text h

-- the body that came last
abbrev pub last_body : List Record → Option (List ℕ)
last_body [] = None
last_body (Begun bill chain manifest body ∷ h) = Some body
last_body (r ∷ h) = last_body h

-- ---- how often a bill was parted

-- the record that a frame keeps
abbrev pub kept_in : Frame → Record
kept_in (One r) = r
kept_in (BegunTaken begun) = begun

-- whether a record is a Parted of a bill
abbrev pub parts_bill : Checksum → Record → Bool
parts_bill bill r = is_parted r && checksum_eq (bill_of r) bill

-- ---- the documents of a bill

-- those that came with the last Begun of an entry
abbrev pub listed : Checksum → List Record → List Piece
listed entry before = option_map_or (λ came. came.manifest.documents) (last_begun entry before) []

-- the one that a record attached
abbrev pub attached_by : Record → List Piece
attached_by (Attached bill piece bytes) = piece ∷ []
attached_by r = []
