-- Runs of all platforms: one event after another, from the opening on.
use Rattle.std.specs.Prelude.{◌≡◌, ◌⊎◌, ℕ, List, Option, Some, None}
use Rattle.ebl_base.specs.declared.moment.Moment.{Moment}
use Rattle.ebl_base.specs.declared.platform_code.PlatformCode.{PlatformCode}
use Rattle.party_roster.specs.RosterRecord.{RosterRecord}
use Rattle.platform_requests.specs.Request.{RequestRecord}
use Rattle.platform_requests.specs.Shard.{shard_of}
use Rattle.bill_diary.specs.declared.frame.Frame.{Frame}
use Rattle.platform_machine.specs.declared.step.Step.{Step}
use Rattle.platform_machine.specs.Machine.{MayBeAsked, Steps}
use Rattle.closed_family.specs.Chains.{IsAmong}
use Rattle.run_safety.specs.Network.{Sent, Network, diary_of, longer_family, written, opening}
use Rattle.run_safety.specs.Steady.{Rings}
use Rattle.run_safety.specs.Honest.{Comes}
use Rattle.run_safety.specs.Sending.{IsSentBy}

-- ---- a request

-- a shard without a loose frame takes a request of its own, which was sent or is honest, and this is what it comes to
pub record Asked (roster : RosterRecord) (rings : Rings) (n : Network) : Type 0 where
  pub p : PlatformCode
  pub i : ℕ
  pub diary : List Frame
  pub has_diary : diary_of n.family p i ≡ Some diary
  pub not_loose : n.loose p i ≡ None
  pub now : Moment
  pub request : RequestRecord
  pub goes_here : shard_of request ≡ i
  pub may : MayBeAsked diary now request
  pub comes : Comes roster rings n.sent request
  pub step : Step
  pub steps : Steps roster (rings p i) p diary now request step

-- ---- what becomes of it

-- the loose frame of this shard is now that one, and all others are as before
pub record LooseIs (before : Network) (p : PlatformCode) (i : ℕ) (frame : Option Frame) (after : Network) : Type 0 where
  pub here : after.loose p i ≡ frame
  pub elsewhere : (q : PlatformCode) (k : ℕ) → ((q ≡ p) × (k ≡ i) → ⊥) → after.loose q k ≡ before.loose q k

-- nothing is sent but what was sent before
abbrev pub SendsNothing : Network → Network → Type 0
SendsNothing before after = (s : Sent) → IsAmong s after.sent → IsAmong s before.sent

-- whole: the frame is written, and the step's messages and its reply are sent
pub record IsWhole (roster : RosterRecord) (rings : Rings) (before after : Network) : Type 0 where
  pub asked : Asked roster rings before
  pub family_is : after.family ≡ written asked.p asked.i asked.step.frame before.family
  pub loose_is : (q : PlatformCode) (k : ℕ) → after.loose q k ≡ before.loose q k
  pub sends : (s : Sent) → IsAmong s after.sent → IsAmong s before.sent ⊎ IsSentBy asked.p asked.step s

-- failed: the frame is loose, if there is one, and nothing is sent
pub record IsFailed (roster : RosterRecord) (rings : Rings) (before after : Network) : Type 0 where
  pub asked : Asked roster rings before
  pub family_is : after.family ≡ before.family
  pub loose_is : LooseIs before asked.p asked.i asked.step.frame after
  pub sends : SendsNothing before after

-- kept: a loose frame is found to stand
pub record IsKept (before after : Network) : Type 0 where
  pub p : PlatformCode
  pub i : ℕ
  pub diary : List Frame
  pub has_diary : diary_of before.family p i ≡ Some diary
  pub frame : Frame
  pub was_loose : before.loose p i ≡ Some frame
  pub family_is : after.family ≡ longer_family p i frame before.family
  pub loose_is : LooseIs before p i None after
  pub sends : SendsNothing before after

-- dropped: a loose frame is found not to stand
pub record IsDropped (before after : Network) : Type 0 where
  pub p : PlatformCode
  pub i : ℕ
  pub family_is : after.family ≡ before.family
  pub loose_is : LooseIs before p i None after
  pub sends : SendsNothing before after

-- a signature that fails, a disk that can't be read and a delivery of nothing change nothing: they need no case
abbrev pub Happens : RosterRecord → Rings → Network → Network → Type 0
Happens roster rings before after =
    IsWhole roster rings before after ⊎ IsFailed roster rings before after ⊎ IsKept before after
    ⊎ IsDropped before after

-- ---- runs

pub data Reaches (roster : RosterRecord) (rings : Rings) : Network → Type 0 where
  at_opening : Reaches roster rings (opening roster)
  after_event : (before after : Network) → Reaches roster rings before → Happens roster rings before after
      → Reaches roster rings after

-- a later moment of the same run
pub data LeadsTo (roster : RosterRecord) (rings : Rings) (n : Network) : Network → Type 0 where
  at_once : LeadsTo roster rings n n
  and_on : (before after : Network) → LeadsTo roster rings n before → Happens roster rings before after
      → LeadsTo roster rings n after
