-- The bytes of records and frames. A byte tells the record; its fields follow, and nothing else.
use Rattle.std.specs.Prelude.{◌≡◌, ℕ, List, [], ◌∷◌, ◌++◌}
use Rattle.std.specs.List.{flat_map}
use Rattle.ebl_base.specs.declared.reason.Reason.{Reason}
use Rattle.ebl_base.specs.declared.reason.Reason.TheVariants as reasons
use Rattle.canonical_json.specs.Canon.{canon}
use Rattle.chain_entry.specs.Writing.{transaction_value}
use Rattle.envelope_manifest.specs.Piece.{piece_value}
use Rattle.bill_diary.specs.declared.record.Record.{Record}
use Rattle.bill_diary.specs.declared.record.Record.TheVariants.{Signed, Acted, Attached, Parted, Settled, Regained, Begun, Stored, Taken, Declined}
use Rattle.bill_diary.specs.declared.frame.Frame.{Frame}
use Rattle.bill_diary.specs.declared.frame.Frame.TheVariants.{One, BegunTaken}
use Rattle.bill_diary.specs.History.{records_of}
use Rattle.bill_diary.specs.Sound.{IsFrame}
use Rattle.record_bytes.specs.Fields.{text_bytes, evidence_bytes}
use Rattle.record_bytes.specs.Forms.{HasSpelling}

-- the byte that tells which record it is
abbrev pub tag_of : Record → ℕ
tag_of (Signed bill document t) = 1
tag_of (Acted bill t) = 2
tag_of (Attached bill piece bytes) = 3
tag_of (Parted bill link manifest text) = 4
tag_of (Settled bill entry) = 5
tag_of (Regained bill entry) = 6
tag_of (Begun bill chain manifest body) = 7
tag_of (Stored bill entry checksum bytes) = 8
tag_of (Taken bill entry) = 9
tag_of (Declined bill entry code reason evidence) = 10

-- the byte that tells why an entry is declined; 0 for a reason for which none is
abbrev pub cause_byte : Reason → ℕ
cause_byte reasons.Party = 1
cause_byte reasons.Parts = 2
cause_byte reason = 0

-- the fields behind that byte. JSON is canonical, without further members; a name is its 32 bytes
abbrev pub fields_of : Record → List ℕ
fields_of (Signed bill document t) = text_bytes document ++ text_bytes (canon (transaction_value t))
fields_of (Acted bill t) = bill.0 ++ text_bytes (canon (transaction_value t))
fields_of (Attached bill piece bytes) = bill.0 ++ (text_bytes (canon (piece_value piece)) ++ text_bytes bytes)
fields_of (Parted bill link manifest text) = bill.0 ++ (text_bytes link.text.0 ++ text_bytes text.0)
fields_of (Settled bill entry) = bill.0 ++ entry.0
fields_of (Regained bill entry) = bill.0 ++ entry.0
fields_of (Begun bill chain manifest body) = text_bytes body
fields_of (Stored bill entry checksum bytes) = bill.0 ++ (entry.0 ++ (checksum.0 ++ text_bytes bytes))
fields_of (Taken bill entry) = bill.0 ++ entry.0
fields_of (Declined bill entry code reason evidence) =
    bill.0 ++ (entry.0 ++ cause_byte reason ∷ evidence_bytes evidence)

-- the bytes of a record
abbrev pub record_bytes : Record → List ℕ
record_bytes r = tag_of r ∷ fields_of r

-- the bytes of a frame: those of its records, one behind the other
abbrev pub frame_bytes : Frame → List ℕ
frame_bytes frame = flat_map record_bytes (records_of frame)

-- the record that a frame keeps
abbrev pub kept : Frame → Record
kept (One r) = r
kept (BegunTaken begun) = begun

-- the bytes are the one spelling of a frame: what is taken within it is a Begun, and its record has a spelling
pub record Spells (bytes : List ℕ) (frame : Frame) : Type 0 where
  pub is_frame : IsFrame frame
  pub form : HasSpelling (kept frame)
  pub bytes_are : bytes ≡ frame_bytes frame
