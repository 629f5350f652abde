-- A shard on a journal, and what becomes of a request at it.
use Rattle.std.specs.Prelude.{◌≡◌, ◌⊎◌, ℕ, Bool, true, false, List, [], ◌∷◌, ◌++◌, Option, Some, None, Err}
use Rattle.ebl_base.specs.declared.moment.Moment.{Moment}
use Rattle.ebl_base.specs.declared.platform_code.PlatformCode.{PlatformCode}
use Rattle.signed_envelope.specs.KeyRing.{Keys}
use Rattle.party_roster.specs.RosterRecord.{RosterRecord}
use Rattle.holder_commands.specs.Command.{CommandRecord}
use Rattle.platform_requests.specs.Request.{RequestRecord}
use Rattle.platform_requests.specs.declared.outcome.Outcome.{Outcome}
use Rattle.platform_requests.specs.declared.reply.Reply.{Reply}
use Rattle.platform_requests.specs.declared.reply.Reply.TheVariants as replies
use Rattle.bill_diary.specs.declared.frame.Frame.{Frame}
use Rattle.bill_diary.specs.History.{newest_first}
use Rattle.bill_journal.specs.declared.fault.OpenFault.{OpenFault}
use Rattle.bill_journal.specs.declared.fault.OpenFault.TheVariants as opening
use Rattle.transfer_judge.specs.Legal.{IsLegal}
use Rattle.transfer_judge.specs.Plan.{HasAttempts}
use Rattle.platform_machine.specs.declared.step.Step.{Step}
use Rattle.platform_machine.specs.Machine.{MayBeAsked, Steps}
use Rattle.platform_machine.specs.Step.{with_frame}
use Rattle.journaled_shard.specs.declared.unwritten.Unwritten.{Unwritten}
use Rattle.journaled_shard.specs.declared.unwritten.Unwritten.TheVariants as why
use Rattle.journal_room.specs.Room.{Fits, HasRoom, IsTooLong, is_settling}
use Rattle.journaled_shard.specs.Written.{HasNamesOf, IsAdded, IsAsBefore, IsKeptOrDropped, IsOnDisk, IsRead, IsStill, IsWritten, WrittenRecord}

-- how contracts see a shard on a journal: its platform, the roster, the ring of keys, and what was written down
pub record JournaledShardRecord (D G : Type 0) : Type 0 where
  pub me : PlatformCode
  pub roster : RosterRecord
  pub ring : G
  pub written : WrittenRecord D

-- a legal diary, which stays legal where the loose frame is kept
pub record IsLegalWith (roster : RosterRecord) (keys : Keys) (me : PlatformCode) (diary : List Frame)
    (loose : Option Frame) : Type 0 where
  pub dropped : IsLegal roster keys me diary
  pub kept : (frame : Frame) → loose ≡ Some frame → IsLegal roster keys me (diary ++ frame ∷ [])

-- a diary with room, which has it where the loose frame is kept
pub record HasRoomWith (diary : List Frame) (loose : Option Frame) : Type 0 where
  pub dropped : HasRoom diary
  pub kept : (frame : Frame) → loose ≡ Some frame → Fits diary frame

-- what always holds of what a shard wrote down
pub record IsInOrder {D : Type 0} (tells : D → Bool) (seen : D → List ℕ) (may_leave : D → List ℕ → Type 0)
    (roster : RosterRecord) (keys : Keys) (me : PlatformCode) (w : WrittenRecord D) : Type 0 where
  pub legal : IsLegalWith roster keys me w.diary w.loose
  pub room : HasRoomWith w.diary w.loose
  pub named : HasNamesOf w
  pub read : w.unread ≡ false → IsRead w
  pub on_disk : tells w.journal.disk ≡ true → IsOnDisk seen may_leave w

-- the request may be asked, with the loose frame kept or dropped
abbrev pub MayBeAskedOf : {D : Type 0} → WrittenRecord D → Moment → RequestRecord → Type 0
MayBeAskedOf w now request = (h : List Frame) → IsKeptOrDropped w.diary w.loose h → MayBeAsked h now request

-- one attempt more can be counted, where the command may make one, with the loose frame kept or dropped
abbrev pub HasAttemptsOf : {D : Type 0} → WrittenRecord D → CommandRecord → Type 0
HasAttemptsOf w command =
    (h : List Frame) → IsKeptOrDropped w.diary w.loose h → HasAttempts command (newest_first h)

-- ---- what becomes of a step

-- a reply without messages
abbrev pub refusal_of : Reply → Outcome
refusal_of reply = record { reply = reply; messages = [] }

-- how it is replied that a frame was not written
abbrev pub reply_of : Unwritten → Reply
reply_of why.Full = replies.Full
reply_of why.Disk = replies.Disk
reply_of why.NoMemory = replies.NoMemory

-- how it is replied that the journal could not be read again
abbrev pub reply_for : OpenFault → Reply
reply_for opening.Disk = replies.Disk
reply_for (opening.Damaged place) = replies.Damaged place
reply_for opening.NoMemory = replies.NoMemory

-- a step's frame is written, if it has one
abbrev pub IsWrittenIfAny : {D : Type 0} → WrittenRecord D → Option Frame → WrittenRecord D → Type 0
IsWrittenIfAny before None after = IsAsBefore before after
IsWrittenIfAny before (Some frame) after = IsAdded before frame after

-- its reply and its messages are handed out
pub record IsHandedOut {D : Type 0} (before : WrittenRecord D) (step : Step) (out : Outcome) (after : WrittenRecord D)
    : Type 0 where
  pub written : IsWrittenIfAny before step.frame after
  pub reply_is : out.reply ≡ step.reply
  pub messages_are : out.messages ≡ step.messages

-- or its frame was not written: this is why
pub record IsRefusedFor {D : Type 0} (before : WrittenRecord D) (step : Step) (out : Outcome) (after : WrittenRecord D)
    : Type 0 where
  pub frame : Frame
  pub frame_is : step.frame ≡ Some frame
  pub cause : Unwritten
  pub out_is : out ≡ refusal_of (reply_of cause)
  pub written : IsWritten before frame after (Err cause)

abbrev pub CarriesOut : {D : Type 0} → WrittenRecord D → Step → Outcome → WrittenRecord D → Type 0
CarriesOut before step out after = IsHandedOut before step out after ⊎ IsRefusedFor before step out after

-- ---- what becomes of a request

-- a reply after which the journal may have to be read again: the disk failed, what it gave isn't the diary, or memory
-- ran out meanwhile
abbrev pub IsOfReading : Reply → Type 0
IsOfReading reply =
    (reply ≡ replies.Disk) ⊎ (((place : ℕ) × (reply ≡ replies.Damaged place)) ⊎ (reply ≡ replies.NoMemory))

-- the journal could not be read again: nothing is sent, and nothing else changed
pub record IsStuck {D : Type 0} (before : WrittenRecord D) (out : Outcome) (after : WrittenRecord D) : Type 0 where
  pub was : before.unread ≡ true
  pub reply_is : IsOfReading out.reply
  pub nothing_sent : out.messages ≡ []
  pub still : IsStill before after

-- the journal, which had to be read again, still has to be, and nothing else changed
abbrev pub IsStillUnread : {D : Type 0} → WrittenRecord D → WrittenRecord D → Type 0
IsStillUnread before after = (before.unread ≡ true) × IsStill before after

-- nothing was decided: the ring of keys failed, or memory ran out
pub record IsUndecided {D : Type 0} (before : WrittenRecord D) (out : Outcome) (after : WrittenRecord D) : Type 0 where
  pub reply_is : (out.reply ≡ replies.Sign) ⊎ (out.reply ≡ replies.NoMemory)
  pub nothing_sent : out.messages ≡ []
  pub same : IsAsBefore before after

-- what becomes of a request where the journal was read
abbrev pub IsJudged : {D : Type 0} → RosterRecord → Keys → PlatformCode → WrittenRecord D → Moment → RequestRecord
    → Outcome → WrittenRecord D → Type 0
IsJudged roster keys me before now request out after =
    IsUndecided before out after
    ⊎ ((step : Step) × Steps roster keys me before.diary now request step × CarriesOut before step out after)

-- and where it may have to be read again first: the loose frame is then kept or dropped; where nothing has to be read,
-- the journal stays as it is
pub record IsJudgedAfterReading {D : Type 0} (roster : RosterRecord) (keys : Keys) (me : PlatformCode)
    (before : WrittenRecord D) (now : Moment) (request : RequestRecord) (out : Outcome) (after : WrittenRecord D)
    : Type 0 where
  pub found : WrittenRecord D
  pub kept : IsKeptOrDropped before.diary before.loose found.diary
  pub untouched : before.unread ≡ false → found.journal ≡ before.journal
  pub judged : IsJudged roster keys me found now request out after

-- what becomes of a request
abbrev pub IsTaken : {D : Type 0} → RosterRecord → Keys → PlatformCode → WrittenRecord D → Moment → RequestRecord
    → Outcome → WrittenRecord D → Type 0
IsTaken roster keys me before now request out after =
    IsStuck before out after ⊎ IsJudgedAfterReading roster keys me before now request out after

-- ---- as callers see it

-- a step's frame has room, if it has one
abbrev pub FitsIfAny : List Frame → Option Frame → Type 0
FitsIfAny diary None = Unit {0}
FitsIfAny diary (Some frame) = Fits diary frame

-- reply and messages are those of one step of the machine over this diary, which then has the step's frame
pub record IsStepOn (roster : RosterRecord) (keys : Keys) (me : PlatformCode) (before : List Frame) (now : Moment)
    (request : RequestRecord) (out : Outcome) (after : List Frame) : Type 0 where
  pub frame : Option Frame
  pub steps : Steps roster keys me before now request
      (record { frame = frame; reply = out.reply; messages = out.messages })
  pub diary : after ≡ with_frame before frame
  pub fits : FitsIfAny before frame

-- one step of the machine over this diary has this frame
pub record HasStepWith (roster : RosterRecord) (keys : Keys) (me : PlatformCode) (diary : List Frame) (now : Moment)
    (request : RequestRecord) (frame : Frame) : Type 0 where
  pub step : Step
  pub steps : Steps roster keys me diary now request step
  pub frame_is : step.frame ≡ Some frame

-- the step's frame has no room behind the diary, and it settles no bill that is parting
abbrev pub HasNoRoom : RosterRecord → Keys → PlatformCode → List Frame → Moment → RequestRecord → Type 0
HasNoRoom roster keys me diary now request =
    (frame : Frame) × HasStepWith roster keys me diary now request frame × IsTooLong diary frame
    × (is_settling frame ≡ false)

-- the append of the step's frame, which has room, failed: it is loose, and the journal has to be read again
pub record IsLeftLoose {D : Type 0} (roster : RosterRecord) (keys : Keys) (me : PlatformCode) (before : WrittenRecord D)
    (now : Moment) (request : RequestRecord) (after : WrittenRecord D) : Type 0 where
  pub frame : Frame
  pub kept : IsKeptOrDropped before.diary before.loose after.diary
  pub steps : HasStepWith roster keys me after.diary now request frame
  pub fits : Fits after.diary frame
  pub loose : after.loose ≡ Some frame
  pub unread : after.unread ≡ true
