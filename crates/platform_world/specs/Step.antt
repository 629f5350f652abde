-- What an event is answered, and the world after it, by its fate.
use Rattle.std.specs.Prelude.{◌≡◌, ℕ, List, [], ◌∷◌, ◌++◌, Option, Some, None}
use Rattle.ebl_base.specs.declared.checksum.Checksum.{Checksum}
use Rattle.ebl_base.specs.declared.moment.Moment.{Moment}
use Rattle.ebl_base.specs.declared.platform_code.PlatformCode.{PlatformCode}
use Rattle.holder_commands.specs.Command.{signs}
use Rattle.platform_requests.specs.Request.{RequestRecord}
use Rattle.platform_requests.specs.Request as requests
use Rattle.platform_requests.specs.Shard.{shard_of}
use Rattle.platform_requests.specs.declared.outcome.Outcome.{Outcome}
use Rattle.platform_requests.specs.declared.reply.Reply.{Reply}
use Rattle.platform_requests.specs.declared.reply.Reply.TheVariants as replies
use Rattle.world_script.specs.Event.{EventRecord}
use Rattle.answer_lines.specs.declared.answer.Answer.{Answer}
use Rattle.answer_lines.specs.declared.answer.Answer.TheVariants.{Opened, Replied}
use Rattle.platform_world.specs.declared.fate.Fate.{Fate}
use Rattle.platform_world.specs.declared.fate.FateEnd.{FateEnd}
use Rattle.platform_world.specs.declared.fate.FateEnd.TheVariants.{Whole, SignFault, Failed, Stuck, Short}
use Rattle.platform_world.specs.Shard.{TakesAs}
use Rattle.platform_world.specs.Start.{AreReadAgain}
use Rattle.platform_world.specs.World.{PlatformState, ShardState, WorldRecord, shard_at, with_shard}
use Rattle.world_events.specs.Happening.{Asking, Happening, answers, asks, comes_to, starts_again}
use Rattle.world_events.specs.Parcels.{parcels_of}

-- ---- bills that were signed

-- a SIGN that is done signs its bill
abbrev pub bills_signed : RequestRecord → Reply → List Checksum
bills_signed (requests.commands party (signs document)) (replies.Done view) = view.bill ∷ []
bills_signed request reply = []

-- ---- what happens

-- the world after a shard took a request so
abbrev pub world_after : WorldRecord → Asking → ShardState → Outcome → WorldRecord
world_after w a shard out = record {
  roster = w.roster;
  platforms = with_shard a.at (shard_of a.request) shard w.platforms;
  sent = w.sent ++ parcels_of a out.reply out.messages;
  signed = w.signed ++ bills_signed a.request out.reply;
}

-- at the moment of a command; what is no command may come at any
abbrev pub IsAt : Option Moment → Moment → Type 0
IsAt None now = Unit {0}
IsAt (Some moment) now = now ≡ moment

-- the shard of a request takes it, and what its outcome sends and signs is added
pub record Takes (w : WorldRecord) (a : Asking) (fate : Fate) (answer : Answer) (after : WorldRecord) : Type 0 where
  pub shard : ShardState
  pub is_asked : shard_at a.at (shard_of a.request) w.platforms ≡ Some shard
  pub now : Moment
  pub moment : IsAt a.now now
  pub out : Outcome
  pub later : ShardState
  pub takes : TakesAs w.roster a.at (shard_of a.request) shard now a.request fate out later
  pub answer_is : answer ≡ Replied out.reply
  pub after_is : after ≡ world_after w a later out

-- what is answered to a platform's start, by how it ended
abbrev pub start_answer : FateEnd → Answer
start_answer (Stuck i) = Replied replies.Disk
start_answer Short = Replied replies.NoMemory
start_answer end = Opened

-- a platform's sixteen shards are read again from the first on
pub record StartsAgain (w : WorldRecord) (at : PlatformCode) (fate : Fate) (answer : Answer) (after : WorldRecord)
    : Type 0 where
  pub platforms : List PlatformState
  pub reads : AreReadAgain at 0 16 w.platforms fate.end fate.kept platforms
  pub answer_is : answer ≡ start_answer fate.end
  pub after_is : after ≡ record { roster = w.roster; platforms = platforms; sent = w.sent; signed = w.signed }

-- taken whole, and no loose frame was kept
abbrev pub IsWhole : Fate → Type 0
IsWhole fate = (fate.end ≡ Whole) × (fate.kept ≡ [])

-- what happens is answered so, by its fate, with this world after it: at once, and nothing changes; by the shard that
-- is asked; or by the platform that starts again. Where memory runs out (`Short`), the answer is never written
abbrev pub Happens : WorldRecord → Happening → Fate → Answer → WorldRecord → Type 0
Happens w (answers said) fate answer after = IsWhole fate × (answer ≡ said) × (after ≡ w)
Happens w (asks a) fate answer after = Takes w a fate answer after
Happens w (starts_again at) fate answer after = StartsAgain w at fate answer after

-- an event of this fate
abbrev pub IsStep : WorldRecord → EventRecord → Fate → Answer → WorldRecord → Type 0
IsStep w event fate answer after = Happens w (comes_to w.signed w.sent event) fate answer after

-- memory ran out: the platforms are as before what happens, or as after the whole of it by its fate, if it has one;
-- what it sends and signs may be missing
abbrev pub IsCutShort : WorldRecord → Happening → List Fate → List PlatformState → Type 0
IsCutShort w happening [] left = left ≡ w.platforms
IsCutShort w happening (fate ∷ more) left =
    (more ≡ []) × (answer : Answer) × (after : WorldRecord) × Happens w happening fate answer after
    × (left ≡ after.platforms)

-- ---- faults

-- a platform's shard, by its number
pub record FailedShard : Type 0 where
  pub platform : PlatformCode
  pub number : ℕ

-- where the disk failed, if what happens ended so: at the shard that was asked, or at the first of those read again
-- that couldn't be read
abbrev pub disk_failed_at : Happening → FateEnd → Option FailedShard
disk_failed_at (asks a) Failed = Some (record { platform = a.at; number = shard_of a.request })
disk_failed_at (asks a) (Stuck i) = Some (record { platform = a.at; number = shard_of a.request })
disk_failed_at (starts_again at) (Stuck i) = Some (record { platform = at; number = i })
disk_failed_at happening end = None

-- where the ring failed to sign
abbrev pub ring_failed_at : Happening → FateEnd → Option FailedShard
ring_failed_at (asks a) SignFault = Some (record { platform = a.at; number = shard_of a.request })
ring_failed_at happening end = None
