-- One shard of a platform as a machine.
use Rattle.std.specs.Prelude.{◌≡◌, ℕ, true, All, List, Option}
use Rattle.ebl_base.specs.declared.platform_code.PlatformCode.{PlatformCode}
use Rattle.signed_envelope.specs.KeyRing.{Keys}
use Rattle.party_roster.specs.RosterRecord.{RosterRecord, has_platform}
use Rattle.platform_requests.specs.declared.message.Message.{Message}
use Rattle.platform_requests.specs.declared.message.Message.TheVariants as messages
use Rattle.platform_requests.specs.declared.reply.Reply.{Reply}
use Rattle.platform_requests.specs.declared.reply.Reply.TheVariants as replies
use Rattle.bill_diary.specs.declared.frame.Frame.{Frame}
use Rattle.platform_world.specs.declared.fate.FateEnd.{FateEnd}
use Rattle.platform_world.specs.declared.fate.FateEnd.TheVariants.{Whole, SignFault, Failed, Stuck, Short}
use Rattle.platform_world.specs.declared.machine.Unread.{Unread}
use Rattle.platform_world.specs.declared.machine.Unread.TheVariants as unread
use Rattle.platform_world.specs.World.{ShardState}

pub record MachineRecord : Type 0 where
  pub me : PlatformCode
  pub roster : RosterRecord
  pub keys : Keys
  pub diary : List Frame
  pub loose : Option (Option Frame)

abbrev pub shard_state : MachineRecord → ShardState
shard_state m = record { keys = m.keys; diary = m.diary; loose = m.loose }

-- the same platform, under the same roster
pub record IsSameMachine (before after : MachineRecord) : Type 0 where
  pub me : after.me ≡ before.me
  pub roster : after.roster ≡ before.roster

-- counts of faults: of the disk, and of the ring that signs
pub record Counts (M : Type 0) : Type 0 where
  pub disk : M → ℕ
  pub ring : M → ℕ

-- how a request ended that a shard replied to so
abbrev pub end_by : Reply → FateEnd
end_by replies.Sign = SignFault
end_by replies.Disk = Failed
end_by replies.NoMemory = Short
end_by reply = Whole

-- how the reading of the shard of this number ended that failed so, and what is replied
abbrev pub end_of : ℕ → Unread → FateEnd
end_of i unread.Disk = Stuck i
end_of i unread.NoMemory = Short

abbrev pub reply_of : Unread → Reply
reply_of unread.Disk = replies.Disk
reply_of unread.NoMemory = replies.NoMemory

-- how often a disk failed, and a ring, where a request ended so
abbrev pub disk_times : FateEnd → ℕ
disk_times Failed = 1
disk_times (Stuck i) = 1
disk_times end = 0

abbrev pub ring_times : FateEnd → ℕ
ring_times SignFault = 1
ring_times end = 0

-- the platform that a message is for
abbrev pub receiver_of : Message → PlatformCode
receiver_of (messages.Start to bill body) = to
receiver_of (messages.Put to bill reference checksum bytes) = to
receiver_of (messages.Finish to bill reference) = to

-- each of these messages is for a platform of the roster
abbrev pub AreForListed : RosterRecord → List Message → Type 0
AreForListed roster sent = All (λ m. has_platform roster (receiver_of m) ≡ true) sent
