-- How a shard finds its disk when it is opened.
use Rattle.std.specs.Prelude.{◌⊎◌, ℕ, List}
use Rattle.ebl_base.specs.declared.platform_code.PlatformCode.{PlatformCode}
use Rattle.signed_envelope.specs.KeyRing.{Keys}
use Rattle.party_roster.specs.RosterRecord.{RosterRecord}
use Rattle.bill_journal.specs.declared.fault.OpenFault.{OpenFault}
use Rattle.bill_journal.specs.declared.fault.OpenFault.TheVariants as opening
use Rattle.bill_journal.specs.declared.frame_at.FrameAt.{FrameAt}
use Rattle.bill_journal.specs.Frames.{IsDamagedAt}
use Rattle.bill_journal.specs.Places.{ReadsAs}
use Rattle.journaled_diary.specs.declared.reading.DiaryFault.{DiaryFault}
use Rattle.journaled_diary.specs.declared.reading.DiaryFault.TheVariants as faults
use Rattle.journaled_diary.specs.Reading.{IsRefusedAt}

-- the bytes are no journal of a legal diary, and this is the place that shows it: they are damaged there, or the frame
-- whose gate is there is refused
abbrev pub IsDamagedDiary : RosterRecord → Keys → PlatformCode → List ℕ → ℕ → Type 0
IsDamagedDiary roster keys me file place =
    IsDamagedAt file place
    ⊎ ((frames : List FrameAt) × (end : ℕ) × ReadsAs file frames end × IsRefusedAt roster keys me frames place)

-- as a fault of opening
abbrev pub fault_of : DiaryFault → OpenFault
fault_of (faults.Refused place) = opening.Damaged place
fault_of faults.NoMemory = opening.NoMemory
