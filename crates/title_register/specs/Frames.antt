-- Where in a diary the frame is that a key asks for.
use Rattle.std.specs.Prelude.{ℕ, ◌+◌, Bool, true, false, ◌&&◌, List, [], ◌∷◌, Option, Some, None, option_and_then, is_some, option_map, slice_get, unwrap_or, bytes_eq, if◌then◌else◌}
use Rattle.std.specs.List.{list_any}
use Rattle.std.specs.Option.{option_or}
use Rattle.std.specs.BTreeMap.{BTreeMap, get}
use Rattle.std.specs.declared.cmp.Ordering.{Ordering}
use Rattle.ebl_base.specs.Checksum.{checksum_eq}
use Rattle.ebl_base.specs.Reference.{reference_of}
use Rattle.ebl_base.specs.declared.checksum.Checksum.{Checksum}
use Rattle.bill_chain.specs.Chain.{last_of}
use Rattle.bill_diary.specs.declared.frame.Frame.{Frame}
use Rattle.bill_diary.specs.declared.frame.Frame.TheVariants.{One, BegunTaken}
use Rattle.bill_diary.specs.declared.record.Record.{Record}
use Rattle.bill_diary.specs.declared.record.Record.TheVariants.{Signed, Attached, Parted, Settled, Regained, Begun, Stored, Taken, Declined}
use Rattle.bill_diary.specs.History.{bill_of, records_of, taken_after}
use Rattle.bill_diary.specs.Pieces.{brings}
use Rattle.bill_diary.specs.Place.{regains, settles}
use Rattle.bill_diary.specs.Receiving.{Declination, declines, takes}
use Rattle.bill_diary.specs.Searches.{kept_in}
use Rattle.bill_diary.specs.Sound.{has_reference, is_parted}
use Rattle.title_register.specs.declared.frame_key.FrameKey.{FrameKey}
use Rattle.title_register.specs.declared.frame_key.FrameKey.TheVariants as keys
use Rattle.title_register.specs.contracts.frame_key.FrameKeyOrd.TheImpl.{ghosts}

-- ---- numbers of frames, counted from 0

-- the first that passes a test
abbrev pub first_number : (Frame → Bool) → List Frame → Option ℕ
first_number test [] = None
first_number test (frame ∷ frames) =
    if test frame then Some 0 else option_map (λ n. n + 1) (first_number test frames)

-- the last that passes it
abbrev pub last_number : (Frame → Bool) → List Frame → Option ℕ
last_number test [] = None
last_number test (frame ∷ frames) =
    option_or (option_map (λ n. n + 1) (last_number test frames)) (if test frame then Some 0 else None)

-- the record that the frame of a number keeps
abbrev pub record_numbered : List Frame → Option ℕ → Option Record
record_numbered diary number = option_map kept_in (option_and_then (slice_get diary) number)

-- ---- what a frame is asked for by

-- whether a frame has a record that passes a test
abbrev pub has : (Record → Bool) → Frame → Bool
has test frame = list_any test (records_of frame)

-- whether a record is of a bill and passes a test
abbrev pub for_bill : Checksum → (Record → Bool) → Record → Bool
for_bill bill test r = checksum_eq (bill_of r) bill && test r

-- whether a record brought the bytes of a document to a bill
abbrev pub brings_to : Checksum → Checksum → Record → Bool
brings_to bill checksum r = for_bill bill (brings checksum) r

abbrev pub is_signed : Record → Bool
is_signed (Signed bill document transaction) = true
is_signed r = false

abbrev pub is_begun : Record → Bool
is_begun (Begun bill chain manifest body) = true
is_begun r = false

-- the number of the frame that a key asks for
abbrev pub number_of : FrameKey → List Frame → Option ℕ
number_of (keys.Signed bill) diary = last_number (has (for_bill bill is_signed)) diary
number_of (keys.Parted bill) diary = last_number (has (for_bill bill is_parted)) diary
number_of (keys.Came bill) diary = last_number (has (for_bill bill is_begun)) diary
number_of (keys.Begun reference) diary = last_number (has (has_reference reference)) diary
number_of (keys.Taken entry) diary = last_number (has (takes entry)) diary
number_of (keys.Declined entry) diary = last_number (has (declines entry)) diary
number_of (keys.Settled bill entry) diary = last_number (has (for_bill bill (settles entry))) diary
number_of (keys.Regained bill entry) diary = last_number (has (for_bill bill (regains entry))) diary
number_of (keys.Document bill checksum) diary = first_number (has (brings_to bill checksum)) diary

-- the text of the document that a record signed
abbrev pub document_signed : Record → Option (List ℕ)
document_signed (Signed bill document transaction) = Some document
document_signed r = None

-- the body that a record began with
abbrev pub body_begun : Record → Option (List ℕ)
body_begun (Begun bill chain manifest body) = Some body
body_begun r = None

-- why an entry was declined, by its record
abbrev pub declination : Record → Option Declination
declination (Declined bill entry code reason evidence) =
    Some (record { code = code; reason = reason; evidence = evidence })
declination r = None

-- ---- keys

abbrev pub key_eq : FrameKey → FrameKey → Bool
key_eq (keys.Signed a) (keys.Signed b) = checksum_eq a b
key_eq (keys.Parted a) (keys.Parted b) = checksum_eq a b
key_eq (keys.Came a) (keys.Came b) = checksum_eq a b
key_eq (keys.Begun a) (keys.Begun b) = bytes_eq a.0 b.0
key_eq (keys.Taken a) (keys.Taken b) = checksum_eq a b
key_eq (keys.Declined a) (keys.Declined b) = checksum_eq a b
key_eq (keys.Settled bill entry) (keys.Settled bill2 entry2) =
    checksum_eq bill bill2 && checksum_eq entry entry2
key_eq (keys.Regained bill entry) (keys.Regained bill2 entry2) =
    checksum_eq bill bill2 && checksum_eq entry entry2
key_eq (keys.Document bill checksum) (keys.Document bill2 checksum2) =
    checksum_eq bill bill2 && checksum_eq checksum checksum2
key_eq a b = false

-- keys in the order of their kinds
abbrev pub key_cmp : FrameKey → FrameKey → Ordering
key_cmp = ghosts.cmp

-- the key by which a record is asked for; of a Begun, that of its envelope
abbrev pub key_of : Record → Option FrameKey
key_of (Signed bill document transaction) = Some (keys.Signed bill)
key_of (Attached bill piece bytes) = Some (keys.Document bill piece.checksum)
key_of (Parted bill link manifest manifest_text) = Some (keys.Parted bill)
key_of (Settled bill entry) = Some (keys.Settled bill entry)
key_of (Regained bill entry) = Some (keys.Regained bill entry)
key_of (Begun bill chain manifest body) =
    option_map (λ link. keys.Begun (reference_of bill link.name)) (last_of chain)
key_of (Stored bill entry checksum bytes) = Some (keys.Document bill checksum)
key_of (Taken bill entry) = Some (keys.Taken entry)
key_of (Declined bill entry code reason evidence) = Some (keys.Declined entry)
key_of r = None

-- the other key of a Begun: that of its bill
abbrev pub came_key : Record → Option FrameKey
came_key (Begun bill chain manifest body) = Some (keys.Came bill)
came_key r = None

-- the key of the Taken that follows in a frame
abbrev pub taken_key : Frame → Option FrameKey
taken_key (One r) = None
taken_key (BegunTaken r) = option_and_then key_of (taken_after r)

-- a key, unless it is that of a document that has a number already
abbrev pub unless_numbered : (FrameKey → Option ℕ) → Option FrameKey → Option FrameKey
unless_numbered number None = None
unless_numbered number (Some (keys.Document bill checksum)) =
    if is_some (number (keys.Document bill checksum)) then None else Some (keys.Document bill checksum)
unless_numbered number (Some key) = Some key

-- ---- numbers by key

-- whether there is room for a number under a key
abbrev pub has_key : BTreeMap FrameKey (Option ℕ) → FrameKey → Bool
has_key numbers key = is_some (get key_cmp numbers key)

-- the number under a key, if there is one
abbrev pub number_in : BTreeMap FrameKey (Option ℕ) → FrameKey → Option ℕ
number_in numbers key = unwrap_or (get key_cmp numbers key) None

-- some numbers, with one more under a key, if there is a key
abbrev pub with_number : Option FrameKey → ℕ → (FrameKey → Option ℕ) → FrameKey → Option ℕ
with_number None number numbers key = numbers key
with_number (Some new) number numbers key = if key_eq new key then Some number else numbers key
