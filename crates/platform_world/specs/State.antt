-- The world as its code keeps it.
use Rattle.std.specs.Prelude.{◌≡◌, ◌≢◌, ◌≤◌, ◌+◌, ℕ, Bool, true, false, List, [], ◌∷◌, ◌++◌, All, length, Option, Some, None, IfSome}
use Rattle.std.specs.Option.{option_to_list}
use mathlib.Core.List.{IsPrefix}
use Rattle.ebl_base.specs.declared.checksum.Checksum.{Checksum}
use Rattle.ebl_base.specs.declared.moment.Moment.{Moment}
use Rattle.ebl_base.specs.declared.platform_code.PlatformCode.{PlatformCode}
use Rattle.document_checksum.specs.Digest.{IsChecksum}
use Rattle.party_roster.specs.RosterRecord.{RosterRecord, has_platform}
use Rattle.holder_commands.specs.Command.{signs}
use Rattle.platform_requests.specs.Request.{RequestRecord}
use Rattle.platform_requests.specs.Request as requests
use Rattle.platform_requests.specs.Shard.{shard_of}
use Rattle.platform_requests.specs.declared.outcome.Outcome.{Outcome}
use Rattle.platform_requests.specs.declared.reply.Reply.{Reply}
use Rattle.platform_requests.specs.declared.reply.Reply.TheVariants.{Done, NoMemory}
use Rattle.platform_machine.specs.Machine.{MayBeAsked}
use Rattle.world_script.specs.Event.{EventRecord}
use Rattle.answer_lines.specs.declared.answer.Answer.{Answer}
use Rattle.answer_lines.specs.declared.parcel.Parcel.{Parcel}
use Rattle.platform_world.specs.declared.fate.Fate.{Fate}
use Rattle.platform_world.specs.declared.fate.FateEnd.TheVariants.{Short}
use Rattle.platform_world.specs.Machine.{Counts, MachineRecord}
use Rattle.platform_world.specs.Platforms.{EachRose, PlatformsRecord, states_of, times_at}
use Rattle.world_events.specs.declared.parcels.ReplyPath.{ReplyPath}
use Rattle.world_events.specs.Happening.{Asking, Happening, asks, comes_to}
use Rattle.platform_world.specs.Run.{line_after}
use Rattle.platform_world.specs.Shard.{IsResolved}
use Rattle.world_events.specs.Parcels.{sends}
use Rattle.platform_world.specs.Step.{Happens, IsAt, IsCutShort, disk_failed_at, ring_failed_at}
use Rattle.platform_world.specs.World.{ShardState, WorldRecord, loose_frame, shard_at}

-- the shards, what was sent, the bills that were signed, and the fates of the events that were taken
pub record WorldState (M R : Type 0) : Type 0 where
  pub platforms : PlatformsRecord M R
  pub sent : List Parcel
  pub signed : List Checksum
  pub fates : List Fate

-- the world that it stands for
abbrev pub world_of : {M R : Type 0} → (M → MachineRecord) → WorldState M R → WorldRecord
world_of seen w = record {
  roster = w.platforms.roster;
  platforms = states_of seen w.platforms;
  sent = w.sent;
  signed = w.signed;
}

-- no shard has written anything, and none is loose
abbrev pub AreFresh : {M : Type 0} → (M → MachineRecord) → List M → Type 0
AreFresh seen shards = All (λ m. ((seen m).diary ≡ []) × ((seen m).loose ≡ None)) shards

-- ---- what holds after each event

-- a parcel is from a platform of the roster, and for one or for nobody
pub record IsBetweenListed (roster : RosterRecord) (parcel : Parcel) : Type 0 where
  pub from : has_platform roster parcel.from ≡ true
  pub to : IfSome parcel.to (λ to. has_platform roster to ≡ true)

-- how many frames a shard has, with its loose frame
abbrev pub frame_count : ShardState → ℕ
frame_count shard = length shard.diary + length (option_to_list (loose_frame shard))

-- each shard has at most as many frames as events were taken, parcels are between platforms of the roster, and the
-- bills that were signed are well-formed
pub record IsReached (w : WorldRecord) (events : ℕ) : Type 0 where
  pub written : (p : PlatformCode) (i : ℕ) (s : ShardState) → shard_at p i w.platforms ≡ Some s
      → frame_count s ≤ events
  pub between : All (IsBetweenListed w.roster) w.sent
  pub named : All IsChecksum w.signed

-- ---- events that may be taken

-- a request is to a listed platform, from one if from any, and its shard may be asked it at its moment, once what is
-- loose there is found out
pub record MayAsk (w : WorldRecord) (a : Asking) : Type 0 where
  pub listed : has_platform w.roster a.at ≡ true
  pub sender : IfSome a.sender (λ sender. has_platform w.roster sender.platform ≡ true)
  pub may : (now : Moment) (s found : ShardState) (kept : Bool) → IsAt a.now now
      → shard_at a.at (shard_of a.request) w.platforms ≡ Some s → IsResolved s kept found
      → MayBeAsked found.diary now a.request

-- what an event asks may be asked
abbrev pub MayTake : WorldRecord → EventRecord → Type 0
MayTake w event = (a : Asking) → comes_to w.signed w.sent event ≡ asks a → MayAsk w a

-- ---- what is signed

abbrev pub is_sign : RequestRecord → Bool
is_sign (requests.commands party (signs document)) = true
is_sign request = false

-- the bill that a reply signs, to a Sign or to another request
abbrev pub bill_by : Bool → Reply → Option Checksum
bill_by true (Done view) = Some view.bill
bill_by signing reply = None

-- ---- what an event makes of the world

-- what happens has this fate and this answer, and each count rose as often as its disk or ring failed
pub record HasFate {M R : Type 0} (seen : M → MachineRecord) (faults : Counts M) (before : WorldState M R)
    (happening : Happening) (fate : Fate) (answer : Answer) (after : WorldState M R) : Type 0 where
  pub happens : Happens (world_of seen before) happening fate answer (world_of seen after)
  pub disks : EachRose faults.disk (times_at before.platforms.roster.platforms (disk_failed_at happening fate.end))
      before.platforms.shards after.platforms.shards
  pub rings : EachRose faults.ring (times_at before.platforms.roster.platforms (ring_failed_at happening fate.end))
      before.platforms.shards after.platforms.shards

-- it happened, with some fate, which is kept
pub record HasHappened {M R : Type 0} (seen : M → MachineRecord) (faults : Counts M) (before : WorldState M R)
    (happening : Happening) (answer : Answer) (after : WorldState M R) : Type 0 where
  pub fate : Fate
  pub not_short : fate.end ≢ Short
  pub has_fate : HasFate seen faults before happening fate answer after
  pub fates_are : after.fates ≡ before.fates ++ fate ∷ []

-- so did an event
abbrev pub IsStepped : {M R : Type 0} → (M → MachineRecord) → Counts M → WorldState M R → EventRecord → Answer
    → WorldState M R → Type 0
IsStepped seen faults before event answer after =
    HasHappened seen faults before (comes_to before.signed before.sent event) answer after

-- memory ran out: the fate of what happens is kept, if it has one already; what was sent and signed before stands, in
-- front of what is new; no count fell
pub record IsCut {M R : Type 0} (seen : M → MachineRecord) (faults : Counts M) (before : WorldState M R)
    (happening : Happening) (after : WorldState M R) : Type 0 where
  pub more : List Fate
  pub fates_are : after.fates ≡ before.fates ++ more
  pub left : IsCutShort (world_of seen before) happening more (world_of seen after).platforms
  pub sent : IsPrefix before.sent after.sent
  pub signed : IsPrefix before.signed after.signed
  pub disks : EachRose faults.disk (λ k. 0) before.platforms.shards after.platforms.shards
  pub rings : EachRose faults.ring (λ k. 0) before.platforms.shards after.platforms.shards

-- an event is answered by this line, and this is the world after it
pub record IsAnswered {M R : Type 0} (seen : M → MachineRecord) (faults : Counts M) (before : WorldState M R)
    (event : EventRecord) (line : List ℕ) (after : WorldState M R) : Type 0 where
  pub answer : Answer
  pub stepped : IsStepped seen faults before event answer after
  pub line_is : line ≡ line_after (length after.fates) (world_of seen before) answer (world_of seen after)

-- ---- what an outcome makes of it

-- the reply to a request goes from a platform of the roster, and back to one, if to any
pub record IsPathBetweenListed (roster : RosterRecord) (path : ReplyPath) : Type 0 where
  pub from : has_platform roster path.from ≡ true
  pub sender : IfSome path.sender (λ sender. has_platform roster sender.platform ≡ true)

-- what an outcome sends and signs is added
pub record IsFollowed {M R : Type 0} (before : WorldState M R) (path : ReplyPath) (signing : Bool) (out : Outcome)
    (after : WorldState M R) : Type 0 where
  pub some_reply : out.reply ≢ NoMemory
  pub sent : after.sent ≡ before.sent ++ sends path.from path.sender path.kind path.brought out.reply out.messages
  pub signed : after.signed ≡ before.signed ++ option_to_list (bill_by signing out.reply)
