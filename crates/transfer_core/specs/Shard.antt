-- One shard of a platform, and what becomes of it when a request is taken.
use Rattle.std.specs.Prelude.{◌≡◌, ◌≤◌, ◌⊎◌, Bool, true, false, ◌&&◌, List, [], Option}
use Rattle.ebl_base.specs.PlatformCode.{code_eq}
use Rattle.ebl_base.specs.declared.limits.TheConstants.{MAX_CHAIN_ENTRIES}
use Rattle.ebl_base.specs.declared.checksum.Checksum.{Checksum}
use Rattle.ebl_base.specs.declared.moment.Moment.{Moment}
use Rattle.ebl_base.specs.declared.party.Party.{Party}
use Rattle.ebl_base.specs.declared.platform_code.PlatformCode.{PlatformCode}
use Rattle.signed_envelope.specs.KeyRing.{Keys}
use Rattle.party_roster.specs.RosterRecord.{RosterRecord, knows}
use Rattle.platform_requests.specs.Request.{RequestRecord}
use Rattle.platform_requests.specs.declared.outcome.Outcome.{Outcome}
use Rattle.platform_requests.specs.declared.reply.Reply.{Reply}
use Rattle.platform_requests.specs.declared.reply.Reply.TheVariants as replies
use Rattle.bill_diary.specs.declared.frame.Frame.{Frame}
use Rattle.bill_diary.specs.History.{history}
use Rattle.bill_diary.specs.Place.{place_of}
use Rattle.platform_machine.specs.declared.step.Step.{Step}
use Rattle.platform_machine.specs.Machine.{Steps}
use Rattle.platform_machine.specs.Step.{entries_at, with_frame}

-- how contracts see a shard: its platform, the roster, the ring of keys, and what was written down
pub record ShardRecord (G : Type 0) : Type 0 where
  pub me : PlatformCode
  pub roster : RosterRecord
  pub ring : G
  pub diary : List Frame

-- the party is one of this platform, and the roster knows it
abbrev pub is_own_party : PlatformCode → RosterRecord → Party → Bool
is_own_party me roster party = code_eq party.platform me && knows roster party

-- ---- replies

-- a reply that only a shard with a disk gives
abbrev pub is_of_disks : Reply → Bool
is_of_disks replies.Full = true
is_of_disks replies.Disk = true
is_of_disks (replies.Damaged place) = true
is_of_disks reply = false

-- ---- what becomes of a shard

-- the outcome is the reply and the messages of one step of the machine, and the diary is the one before, followed by
-- the step's frame, if it has one
abbrev pub IsStepped : RosterRecord → Keys → PlatformCode → List Frame → Moment → RequestRecord → Outcome → List Frame
    → Type 0
IsStepped roster keys me before now request out after =
    (frame : Option Frame)
    × Steps roster keys me before now request (record { frame = frame; reply = out.reply; messages = out.messages })
    × (after ≡ with_frame before frame)

-- nothing was written, and nothing is sent
abbrev pub IsUnchanged : List Frame → Outcome → List Frame → Type 0
IsUnchanged before out after = (after ≡ before) × (out.messages ≡ [])

-- the known chain of each bill has at most 64 entries
abbrev pub AreShort : List Frame → Type 0
AreShort diary = (bill : Checksum) → entries_at (place_of (history bill diary)) ≤ MAX_CHAIN_ENTRIES

-- a step is carried out: its frame is in the diary, its reply and its messages are handed out; or memory ran out
abbrev pub IsCarriedOut : List Frame → Step → Outcome → List Frame → Type 0
IsCarriedOut before step out after =
    ((after ≡ with_frame before step.frame) × (out.reply ≡ step.reply) × (out.messages ≡ step.messages))
    ⊎ ((out.reply ≡ replies.NoMemory) × IsUnchanged before out after)
