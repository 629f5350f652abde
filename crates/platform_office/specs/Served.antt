-- What becomes of a request at a shard of an office.
use Rattle.std.specs.Prelude.{◌≡◌, ℕ, Bool, true, false, List, [], All}
use Rattle.ebl_base.specs.declared.moment.Moment.{Moment}
use Rattle.ebl_base.specs.declared.platform_code.PlatformCode.{PlatformCode}
use Rattle.signed_envelope.specs.KeyRing.{Keys}
use Rattle.party_roster.specs.RosterRecord.{RosterRecord}
use Rattle.platform_requests.specs.Request.{RequestRecord, commands, starts, puts, finishes, start_replies, finish_replies, resends, asks}
use Rattle.platform_requests.specs.declared.outcome.Outcome.{Outcome}
use Rattle.platform_requests.specs.declared.reply.Reply.{Reply}
use Rattle.platform_requests.specs.declared.reply.Reply.TheVariants as replies
use Rattle.bill_diary.specs.declared.frame.Frame.{Frame}
use Rattle.transfer_judge.specs.Legal.{IsLegal}
use Rattle.transfer_judge.specs.PlannedTexts.{IsHandedIn}
use Rattle.platform_machine.specs.Complete.{is_failure, is_refusal}
use Rattle.journaled_shard.specs.Shard.{HasNoRoom, IsStepOn}
use Rattle.platform_office.specs.declared.post.Post.{Post}
use Rattle.platform_office.specs.Post.{IsOfShard}

-- what an office may be asked at a moment: a command has its form, and so have its party and the moment, and the
-- document that it signs nests at most 126 deep; every other request may be any bytes
abbrev pub MayBeServed : Moment → RequestRecord → Type 0
MayBeServed now (commands party command) = IsHandedIn party command now
MayBeServed now (starts body) = Unit {0}
MayBeServed now (puts reference checksum bytes) = Unit {0}
MayBeServed now (finishes reference) = Unit {0}
MayBeServed now (start_replies bill bytes) = Unit {0}
MayBeServed now (finish_replies bill bytes) = Unit {0}
MayBeServed now (resends bill) = Unit {0}
MayBeServed now (asks bill) = Unit {0}

-- the reply is a fault of the disk
abbrev pub is_disk : Reply → Bool
is_disk replies.Disk = true
is_disk reply = false

-- the reply is a fault of the ring of keys
abbrev pub is_sign : Reply → Bool
is_sign replies.Sign = true
is_sign reply = false

-- what becomes of a request over the frames before it: reply, messages and frame are those of one step of the
-- platform's machine; or the request was refused, nothing is sent and nothing is written. The diary stays legal, with
-- the shard's bills alone
pub record IsServed (roster : RosterRecord) (keys : Keys) (me : PlatformCode) (tells : Bool) (number : ℕ) (now : Moment)
    (request : RequestRecord) (before after : List Frame) (out : Outcome) : Type 0 where
  pub step : is_failure out.reply ≡ false
      → IsStepOn roster keys me before now request out after
  pub refused : is_refusal out.reply ≡ true → (after ≡ before) × (out.messages ≡ [])
  pub full : out.reply ≡ replies.Full → HasNoRoom roster keys me before now request
  pub undamaged : (place : ℕ) → tells ≡ true → out.reply ≡ replies.Damaged place → ⊥
  pub legal : IsLegal roster keys me after
  pub own : All (IsOfShard number) after

-- and so at a shard of this post
abbrev pub IsServedBy : {D G : Type 0} → (D → Bool) → (G → Keys) → Post D G → Moment → RequestRecord → List Frame
    → List Frame → Outcome → Type 0
IsServedBy tells keys post = IsServed post.roster (keys post.rack.ring) post.me (tells post.rack.disk) post.number
