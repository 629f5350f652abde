-- How many bytes a frame has.
use Rattle.std.specs.Prelude.{ℕ, ◌+◌, List, [], ◌∷◌, Option, Some, None, length, sum_by}
use Rattle.ebl_base.specs.declared.evidence.Evidence.{Evidence}
use Rattle.ebl_base.specs.declared.signed_text.SignedText.{SignedText}
use Rattle.canonical_json.specs.Canon.{canon}
use Rattle.chain_entry.specs.Writing.{transaction_value}
use Rattle.envelope_manifest.specs.Piece.{piece_value}
use Rattle.bill_diary.specs.declared.record.Record.{Record}
use Rattle.bill_diary.specs.declared.record.Record.TheVariants.{Signed, Acted, Attached, Parted, Settled, Regained, Begun, Stored, Taken, Declined}
use Rattle.bill_diary.specs.declared.frame.Frame.{Frame}
use Rattle.bill_diary.specs.History.{records_of}

-- a text with its length in front
abbrev pub text_length : List ℕ → ℕ
text_length text = 4 + length text

-- a text that may be left out, with the byte that tells which it is
abbrev pub marked_length : Option SignedText → ℕ
marked_length None = 0
marked_length (Some text) = 1 + text_length text.0

-- a record: a byte for its kind, 32 for each name, and its texts
abbrev pub record_length : Record → ℕ
record_length (Signed bill document t) = 1 + text_length document + text_length (canon (transaction_value t))
record_length (Acted bill t) = 33 + text_length (canon (transaction_value t))
record_length (Attached bill piece bytes) = 33 + text_length (canon (piece_value piece)) + text_length bytes
record_length (Parted bill link manifest text) = 33 + text_length link.text.0 + text_length text.0
record_length (Settled bill entry) = 65
record_length (Regained bill entry) = 65
record_length (Begun bill chain manifest body) = 1 + text_length body
record_length (Stored bill entry checksum bytes) = 97 + text_length bytes
record_length (Taken bill entry) = 65
record_length (Declined bill entry code reason evidence) =
    67 + marked_length evidence.own + marked_length evidence.theirs

-- a frame: its records together
abbrev pub frame_length : Frame → ℕ
frame_length frame = sum_by record_length (records_of frame)
