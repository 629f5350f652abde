-- A shard as a desk: what it may be asked, and its runs.
use Rattle.std.specs.Prelude.{◌≡◌, ◌≤◌, ℕ, true, false, List, [], ◌∷◌}
use Rattle.ebl_base.specs.Faults.{Rose}
use Rattle.ebl_base.specs.Moment.{IsMoment}
use Rattle.ebl_base.specs.Party.{IsParty}
use Rattle.ebl_base.specs.declared.moment.Moment.{Moment}
use Rattle.signed_envelope.specs.KeyRing.{Keys}
use Rattle.platform_requests.specs.Desk.{Call}
use Rattle.platform_requests.specs.Request.{RequestRecord, commands, starts, puts, finishes, start_replies, finish_replies, resends, asks}
use Rattle.platform_requests.specs.declared.reply.Reply.TheVariants as replies
use Rattle.bill_diary.specs.declared.frame.Frame.{Frame}
use Rattle.bill_diary.specs.History.{newest_first}
use Rattle.transfer_judge.specs.Plan.{HasAttempts}
use Rattle.platform_machine.specs.Complete.{is_failure, is_refusal}
use Rattle.transfer_core.specs.Shard.{IsStepped, IsUnchanged, ShardRecord, is_of_disks}

-- what a shard asks of a request beyond what any desk does: of a command that party and moment are well-formed, and
-- that one attempt more of its bill can be counted
abbrev pub IsAskable : List Frame → Moment → RequestRecord → Type 0
IsAskable diary now (commands party command) = IsParty party × IsMoment now × HasAttempts command (newest_first diary)
IsAskable diary now (starts body) = Unit {0}
IsAskable diary now (puts reference checksum bytes) = Unit {0}
IsAskable diary now (finishes reference) = Unit {0}
IsAskable diary now (start_replies bill bytes) = Unit {0}
IsAskable diary now (finish_replies bill bytes) = Unit {0}
IsAskable diary now (resends bill) = Unit {0}
IsAskable diary now (asks bill) = Unit {0}

-- the call is taken: it is one step of the machine, unless the ring fails or memory runs out; a refusal changes
-- nothing; platform, roster and keys stay
pub record IsTaken {G : Type 0} (keys : G → Keys) (faults : G → ℕ) (before : ShardRecord G) (call : Call)
    (after : ShardRecord G) : Type 0 where
  pub step : is_failure call.outcome.reply ≡ false → IsStepped before.roster (keys before.ring) before.me before.diary
      call.now call.request call.outcome after.diary
  pub refused : is_refusal call.outcome.reply ≡ true → IsUnchanged before.diary call.outcome after.diary
  pub sign : call.outcome.reply ≡ replies.Sign → Rose (faults before.ring) (faults after.ring)
  pub no_disk : is_of_disks call.outcome.reply ≡ false
  pub me : after.me ≡ before.me
  pub roster : after.roster ≡ before.roster
  pub same : keys after.ring ≡ keys before.ring
  pub later : faults before.ring ≤ faults after.ring

-- the calls are taken, one after the other
abbrev pub AreTaken : {G : Type 0} → (G → Keys) → (G → ℕ) → ShardRecord G → List Call → ShardRecord G → Type 0
AreTaken keys faults start [] end = start ≡ end
AreTaken {G = G} keys faults start (call ∷ calls) end =
    (next : ShardRecord G) × IsTaken keys faults start call next × AreTaken keys faults next calls end
