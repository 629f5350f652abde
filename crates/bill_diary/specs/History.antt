-- The records of a diary and of one bill, newest first: what stands before a record is the rest of the list behind it.
use Rattle.std.specs.Prelude.{◌≡◌, List, [], ◌∷◌, ◌++◌, Option, Some, None, filter, option_map, reverse}
use Rattle.std.specs.List.{flat_map}
use Rattle.std.specs.Option.{option_to_list}
use Rattle.ebl_base.specs.Checksum.{checksum_eq}
use Rattle.ebl_base.specs.declared.checksum.Checksum.{Checksum}
use Rattle.bill_chain.specs.Chain.{last_of}
use Rattle.bill_diary.specs.declared.record.Record.{Record}
use Rattle.bill_diary.specs.declared.record.Record.TheVariants.{Signed, Acted, Attached, Parted, Settled, Regained, Begun, Stored, Taken, Declined}
use Rattle.bill_diary.specs.declared.frame.Frame.{Frame}
use Rattle.bill_diary.specs.declared.frame.Frame.TheVariants.{One, BegunTaken}
use Rattle.bill_diary.specs.declared.record_ref.RecordRef.{RecordRef}
use Rattle.bill_diary.specs.declared.record_ref.RecordRef.TheVariants as refs

-- the bill of a record
abbrev pub bill_of : Record → Checksum
bill_of (Signed bill document transaction) = bill
bill_of (Acted bill transaction) = bill
bill_of (Attached bill piece bytes) = bill
bill_of (Parted bill link manifest manifest_text) = bill
bill_of (Settled bill entry) = bill
bill_of (Regained bill entry) = bill
bill_of (Begun bill chain manifest body) = bill
bill_of (Stored bill entry checksum bytes) = bill
bill_of (Taken bill entry) = bill
bill_of (Declined bill entry code reason evidence) = bill

-- the Taken that follows a Begun in its frame: that of its chain's last entry
abbrev pub taken_after : Record → Option Record
taken_after (Begun bill chain manifest body) = option_map (λ link. Taken bill link.name) (last_of chain)
taken_after r = None

-- the records of a frame, in their order
abbrev pub records_of : Frame → List Record
records_of (One record1) = record1 ∷ []
records_of (BegunTaken begun) = begun ∷ option_to_list (taken_after begun)

-- the record that a reference is of
abbrev pub record_at : RecordRef → Record
record_at (refs.Kept record1) = record1.now
record_at (refs.Taken bill entry) = Taken bill entry

-- the entry of a Taken
abbrev pub taken_entry : Record → Option Checksum
taken_entry (Taken bill entry) = Some entry
taken_entry r = None

-- all records of a diary, newest first
abbrev pub newest_first : List Frame → List Record
newest_first diary = reverse (flat_map records_of diary)

-- a record is one of a diary's, between newer ones and older ones
pub record IsRecordOf (diary : List Frame) (r : Record) : Type 0 where
  pub newer : List Record
  pub older : List Record
  pub parts : newest_first diary ≡ newer ++ r ∷ older

-- the records of one bill among others
abbrev pub of_bill : Checksum → List Record → List Record
of_bill bill records = filter (λ r. checksum_eq (bill_of r) bill) records

-- the history of a bill in a diary: its records, newest first
abbrev pub history : Checksum → List Frame → List Record
history bill diary = of_bill bill (newest_first diary)
