-- What becomes of one shard: of its loose frame, when its journal is read again, and of a request.
use Rattle.std.specs.Prelude.{◌≡◌, ◌⊎◌, ℕ, Bool, true, false, List, [], ◌∷◌, ◌++◌, Option, Some, None, if◌then◌else◌}
use Rattle.ebl_base.specs.declared.moment.Moment.{Moment}
use Rattle.ebl_base.specs.declared.platform_code.PlatformCode.{PlatformCode}
use Rattle.party_roster.specs.RosterRecord.{RosterRecord}
use Rattle.platform_requests.specs.Request.{RequestRecord}
use Rattle.platform_requests.specs.declared.outcome.Outcome.{Outcome}
use Rattle.platform_requests.specs.declared.reply.Reply.{Reply}
use Rattle.platform_requests.specs.declared.reply.Reply.TheVariants as replies
use Rattle.bill_diary.specs.declared.frame.Frame.{Frame}
use Rattle.platform_machine.specs.declared.step.Step.{Step}
use Rattle.platform_machine.specs.Machine.{MayBeAsked, Steps}
use Rattle.platform_machine.specs.Step.{with_frame}
use Rattle.journaled_shard.specs.Shard.{FitsIfAny, HasNoRoom, HasStepWith, refusal_of}
use Rattle.journaled_shard.specs.Written.{Fits}
use Rattle.platform_world.specs.declared.fate.Fate.{Fate}
use Rattle.platform_world.specs.declared.fate.FateEnd.{FateEnd}
use Rattle.platform_world.specs.declared.fate.FateEnd.TheVariants.{Whole, SignFault, Failed, Stuck, Short}
use Rattle.platform_world.specs.World.{ShardState, loose_frame}

-- ---- loose shards

-- what is loose is found out: a loose frame is kept, and joins the diary; or it is dropped, where there is one
abbrev pub IsResolved : ShardState → Bool → ShardState → Type 0
IsResolved shard true found =
    (frame : Frame) × (shard.loose ≡ Some (Some frame))
    × (found ≡ record { keys = shard.keys; diary = shard.diary ++ frame ∷ []; loose = None })
IsResolved shard false found = found ≡ record { keys = shard.keys; diary = shard.diary; loose = None }

-- the number of a shard, where its loose frame was kept
abbrev pub kept_at : Bool → ℕ → List ℕ
kept_at kept i = if kept then i ∷ [] else []

-- loose, with the loose frame that it had, if it had one
abbrev pub loosened : ShardState → ShardState
loosened shard = record { keys = shard.keys; diary = shard.diary; loose = Some (loose_frame shard) }

-- ---- a request at a shard that isn't loose

-- it is taken whole: the frame of its step, if it has one, has room, and joins the diary
pub record IsTakenWhole (roster : RosterRecord) (p : PlatformCode) (shard : ShardState) (now : Moment)
    (request : RequestRecord) (out : Outcome) (after : ShardState) : Type 0 where
  pub step : Step
  pub steps : Steps roster shard.keys p shard.diary now request step
  pub fits : FitsIfAny shard.diary step.frame
  pub reply_is : out.reply ≡ step.reply
  pub messages_are : out.messages ≡ step.messages
  pub after_is : after ≡ record { keys = shard.keys; diary = with_frame shard.diary step.frame; loose = shard.loose }

-- the frame of its step has no room, and nothing changes
pub record IsFull (roster : RosterRecord) (p : PlatformCode) (shard : ShardState) (now : Moment)
    (request : RequestRecord) (out : Outcome) (after : ShardState) : Type 0 where
  pub no_room : HasNoRoom roster shard.keys p shard.diary now request
  pub out_is : out ≡ refusal_of replies.Full
  pub after_is : after ≡ shard

-- the disk fails while the frame of its step, which has room, is written: the frame is loose, and nothing is sent
pub record IsNotWritten (roster : RosterRecord) (p : PlatformCode) (shard : ShardState) (now : Moment)
    (request : RequestRecord) (out : Outcome) (after : ShardState) : Type 0 where
  pub frame : Frame
  pub steps : HasStepWith roster shard.keys p shard.diary now request frame
  pub fits : Fits shard.diary frame
  pub out_is : out ≡ refusal_of replies.Disk
  pub after_is : after ≡ record { keys = shard.keys; diary = shard.diary; loose = Some (Some frame) }

-- it is refused for a failure, and nothing changes
abbrev pub IsRefused : Reply → ShardState → Outcome → ShardState → Type 0
IsRefused reply shard out after = (out ≡ refusal_of reply) × (after ≡ shard)

-- what a request comes to, by how it ends
abbrev pub EndsAs : RosterRecord → PlatformCode → ShardState → Moment → RequestRecord → FateEnd → Outcome → ShardState
    → Type 0
EndsAs roster p shard now request Whole out after =
    IsTakenWhole roster p shard now request out after ⊎ IsFull roster p shard now request out after
EndsAs roster p shard now request SignFault out after = IsRefused replies.Sign shard out after
EndsAs roster p shard now request Failed out after = IsNotWritten roster p shard now request out after
EndsAs roster p shard now request (Stuck i) out after = ⊥
EndsAs roster p shard now request Short out after = IsRefused replies.NoMemory shard out after

-- ---- a request at any shard

-- a loose shard isn't read, since its disk failed or memory ran out: nothing changes
pub record IsUnread (i : ℕ) (shard : ShardState) (fate : Fate) (out : Outcome) (after : ShardState) : Type 0 where
  pub mark : Option Frame
  pub was_loose : shard.loose ≡ Some mark
  pub reply : Reply
  pub cause : ((fate.end ≡ Stuck i) × (reply ≡ replies.Disk)) ⊎ ((fate.end ≡ Short) × (reply ≡ replies.NoMemory))
  pub none_kept : fate.kept ≡ []
  pub refused : IsRefused reply shard out after

-- what is loose is found out, and then the shard, which may be asked it, takes the request
pub record IsAskedOnceRead (roster : RosterRecord) (p : PlatformCode) (i : ℕ) (shard : ShardState) (now : Moment)
    (request : RequestRecord) (fate : Fate) (out : Outcome) (after : ShardState) : Type 0 where
  pub kept : Bool
  pub found : ShardState
  pub resolved : IsResolved shard kept found
  pub kept_are : fate.kept ≡ kept_at kept i
  pub may : MayBeAsked found.diary now request
  pub ends : EndsAs roster p found now request fate.end out after

-- what a request to the shard of this number comes to, by its fate
abbrev pub TakesAs : RosterRecord → PlatformCode → ℕ → ShardState → Moment → RequestRecord → Fate → Outcome
    → ShardState → Type 0
TakesAs roster p i shard now request fate out after =
    IsUnread i shard fate out after ⊎ IsAskedOnceRead roster p i shard now request fate out after
