-- What the calls of a shard on a journal are to whom sees it as a machine.
use Rattle.std.proofs.Common.{◌≡◌, ◌⊎◌, inl, inr, ℕ, Bool, true, false, List, [], Option, Some, None, refl, sym, ap, subst, ◌∙◌}
use Rattle.ebl_base.specs.declared.moment.Moment.{Moment}
use Rattle.ebl_base.specs.declared.platform_code.PlatformCode.{PlatformCode}
use Rattle.signed_envelope.specs.KeyRing.{Keys}
use Rattle.party_roster.specs.RosterRecord.{RosterRecord}
use Rattle.platform_requests.specs.Request.{RequestRecord}
use Rattle.platform_requests.specs.declared.outcome.Outcome.{Outcome}
use Rattle.platform_requests.specs.declared.reply.Reply.{Reply}
use Rattle.platform_requests.specs.declared.reply.Reply.TheVariants as replies
use Rattle.bill_diary.specs.declared.frame.Frame.{Frame}
use Rattle.bill_diary.specs.Sound.{IsSound}
use Rattle.transfer_judge.specs.Legal.{IsLegal}
use Rattle.platform_machine.specs.Complete.{is_failure, is_refusal}
use Rattle.platform_machine.specs.Machine.{MayBeAsked}
use Rattle.answer_lines.specs.Lines.{IsWritable}
use Rattle.answer_lines.specs.declared.answer.Answer.TheVariants.{Replied}
use Rattle.journaled_shard.specs.Shard.{HasNoRoom, HasStepWith, IsLeftLoose, IsOfReading, IsStepOn, IsStillUnread, MayBeAskedOf, refusal_of}
use Rattle.journaled_shard.specs.Written.{Fits, IsKeptOrDropped, IsRead, WrittenRecord}
use Rattle.platform_world.specs.declared.fate.FateEnd.{FateEnd}
use Rattle.platform_world.specs.declared.fate.FateEnd.TheVariants.{Whole}
use Rattle.platform_world.specs.Journaled.{loose_mark}
use Rattle.platform_world.specs.Machine.{AreForListed, end_by}
use Rattle.platform_world.specs.Shard.{EndsAs, IsTakenWhole}
use Rattle.platform_world.specs.World.{ShardState}
use Rattle.platform_world.proofs.Listed.{none_listed, steps_listed}
use Rattle.platform_world.proofs.Writable.{failure_writes, steps_write}

-- ---- how it is seen

abbrev pub seen_as : {D : Type 0} → Keys → WrittenRecord D → ShardState
seen_as keys w = record { keys = keys; diary = w.diary; loose = loose_mark w.unread w.loose }

-- nothing is loose where it was read
abbrev pub IsMarked : {D : Type 0} → WrittenRecord D → Type 0
IsMarked w = w.unread ≡ false → w.loose ≡ None

read_mark : {D : Type 0} (w : WrittenRecord D) → IsRead w → loose_mark w.unread w.loose ≡ None
read_mark w read = ap (λ (b : Bool). loose_mark b w.loose) read.read

unmarked : (unread : Bool) (loose : Option Frame) → loose_mark unread loose ≡ None → unread ≡ false
unmarked true loose is = cc is
unmarked false loose is = refl

abbrev state_with : Keys → List Frame → Option (Option Frame) → ShardState
state_with keys diary loose = record { keys = keys; diary = diary; loose = loose }

same_state : (keys other : Keys) (diary after : List Frame) (loose mark : Option (Option Frame)) → other ≡ keys
    → after ≡ diary → mark ≡ loose
    → state_with other after mark ≡ state_with keys diary loose
same_state keys other diary after loose mark same_keys same_diary same_mark =
    λ i. state_with (same_keys i) (same_diary i) (same_mark i)

-- ---- a request

abbrev of_reading : Reply → Bool
of_reading replies.Disk = true
of_reading (replies.Damaged place) = true
of_reading replies.NoMemory = true
of_reading reply = false

not_of_reading : (reply : Reply) → of_reading reply ≡ false → ¬ IsOfReading reply
not_of_reading reply other (inl is) = let clash : true ≡ false = sym (ap of_reading is) ∙ other in cc clash
not_of_reading reply other (inr (inl (place, is))) =
    let clash : true ≡ false = sym (ap of_reading is) ∙ other in cc clash
not_of_reading reply other (inr (inr is)) = let clash : true ≡ false = sym (ap of_reading is) ∙ other in cc clash

-- a failure is a refusal
failure_refuses : (reply : Reply) → is_failure reply ≡ true → is_refusal reply ≡ true
failure_refuses (replies.Done view) is = is
failure_refuses (replies.Started reference missing) is = is
failure_refuses replies.Stored is = is
failure_refuses (replies.Answer response text) is = is
failure_refuses replies.UnknownReference is = refl
failure_refuses replies.NotOurs is = refl
failure_refuses (replies.Document fault) is = refl
failure_refuses replies.NotCarrier is = refl
failure_refuses replies.KnownBill is = refl
failure_refuses (replies.NotHere place) is = refl
failure_refuses (replies.NoParty party) is = refl
failure_refuses (replies.NotAllowed rule) is = refl
failure_refuses (replies.Limit limit) is = refl
failure_refuses (replies.Ignored reason) is = refl
failure_refuses (replies.NotParting place) is = refl
failure_refuses replies.Sign is = refl
failure_refuses replies.Full is = refl
failure_refuses replies.Disk is = refl
failure_refuses (replies.Damaged place) is = refl
failure_refuses replies.NoMemory is = refl

refused_so : (out : Outcome) (reply : Reply) → out.reply ≡ reply → out.messages ≡ [] → out ≡ refusal_of reply
refused_so out reply said none = λ i. record { reply = said i; messages = none i }

-- it may be asked, where nothing is loose
pub may_of : {D : Type 0} (w : WrittenRecord D) (now : Moment) (request : RequestRecord) → IsMarked w
    → loose_mark w.unread w.loose ≡ None → MayBeAsked w.diary now request → MayBeAskedOf w now request
may_of w now request marked read may h found =
    let none : w.loose ≡ None = marked (unmarked w.unread w.loose read) in
    let same : h ≡ w.diary = subst (λ (l : Option Frame). IsKeptOrDropped w.diary l h) none found in
    subst (λ (d : List Frame). MayBeAsked d now request) (sym same) may

module _ {D : Type 0} (roster : RosterRecord) (me : PlatformCode) (keys other : Keys) (before after : WrittenRecord D)
    (now : Moment) (request : RequestRecord) (out : Outcome) (same : other ≡ keys) (marked : IsMarked before)
    (read_before : loose_mark before.unread before.loose ≡ None) where
  was_read : before.unread ≡ false
  was_read = unmarked before.unread before.loose read_before

  same_diary : (h : List Frame) → IsKeptOrDropped before.diary before.loose h → h ≡ before.diary
  same_diary h found =
      subst (λ (l : Option Frame). IsKeptOrDropped before.diary l h) (marked was_read) found

  as_before : after.diary ≡ before.diary → IsRead after → seen_as other after ≡ seen_as keys before
  as_before is read =
      same_state keys other before.diary after.diary (loose_mark before.unread before.loose)
      (loose_mark after.unread after.loose) same is (read_mark after read ∙ sym read_before)

  abbrev pub StepsSo : Type 0
  StepsSo = is_failure out.reply ≡ false → (h : List Frame) × IsKeptOrDropped before.diary before.loose h
      × IsStepOn roster keys me h now request out after.diary

  abbrev pub RefusedSo : Type 0
  RefusedSo = is_refusal out.reply ≡ true → IsKeptOrDropped before.diary before.loose after.diary × (out.messages ≡ [])

  stepped : is_failure out.reply ≡ false → StepsSo → IsStepOn roster keys me before.diary now request out after.diary
  stepped fine steps =
      let (h, found, on) = steps fine in
      subst (λ (d : List Frame). IsStepOn roster keys me d now request out after.diary) (same_diary h found) on

  whole : IsStepOn roster keys me before.diary now request out after.diary → IsRead after
      → IsTakenWhole roster me (seen_as keys before) now request out (seen_as other after)
  whole on read = record {
    step = record { frame = on.frame; reply = out.reply; messages = out.messages };
    steps = on.steps;
    fits = on.fits;
    reply_is = refl;
    messages_are = refl;
    after_is = same_state keys other _ after.diary (loose_mark before.unread before.loose)
        (loose_mark after.unread after.loose) same on.diary (read_mark after read ∙ sym read_before);
  }

  abbrev pub ReadSo : Type 0
  ReadSo = ¬ IsOfReading out.reply → IsRead after

  abbrev pub FullSo : Type 0
  FullSo = out.reply ≡ replies.Full → IsKeptOrDropped before.diary before.loose after.diary
      × HasNoRoom roster keys me after.diary now request

  abbrev pub DiskSo : Type 0
  DiskSo = out.reply ≡ replies.Disk
      → IsStillUnread before after ⊎ IsLeftLoose roster keys me before now request after

  abbrev pub ShortSo : Type 0
  ShortSo = out.reply ≡ replies.NoMemory → IsStillUnread before after ⊎ IsRead after

  not_still : {X : Type 0} → IsStillUnread before after → X
  not_still (was, still) = absurd (let clash : true ≡ false = sym was ∙ was_read in cc clash)

  -- what a request comes to where the shard was read, by its reply
  pub ends_so : StepsSo → RefusedSo → ReadSo → FullSo → DiskSo → ShortSo
      → ((place : ℕ) → out.reply ≡ replies.Damaged place → ⊥)
      → EndsAs roster me (seen_as keys before) now request (end_by out.reply) out (seen_as other after)
  ends_so steps refused read full disk short undamaged = on_reply out.reply refl
    where
      Ends : FateEnd → Type 0
      Ends end = EndsAs roster me (seen_as keys before) now request end out (seen_as other after)

      fine : (reply : Reply) → out.reply ≡ reply → is_failure reply ≡ false → of_reading reply ≡ false → Ends Whole
      fine reply is ok other_reply =
          inl (whole (stepped (ap is_failure is ∙ ok) steps) (read (not_of_reading out.reply (ap of_reading is ∙ other_reply))))

      refused_as : (reply : Reply) → out.reply ≡ reply → is_refusal reply ≡ true
          → (out ≡ refusal_of reply) × (after.diary ≡ before.diary)
      refused_as reply is refusal =
          let (found, none) = refused (ap is_refusal is ∙ refusal) in
          (refused_so out reply is none, same_diary after.diary found)

      on_sign : out.reply ≡ replies.Sign → Ends (end_by replies.Sign)
      on_sign is =
          let (out_is, diary) = refused_as replies.Sign is refl in
          (out_is, as_before diary (read (not_of_reading out.reply (ap of_reading is))))

      on_full : out.reply ≡ replies.Full → Ends Whole
      on_full is =
          let (out_is, diary) = refused_as replies.Full is refl in
          inr (record {
            no_room = subst (λ (d : List Frame). HasNoRoom roster keys me d now request) diary (full is).1;
            out_is = out_is;
            after_is = as_before diary (read (not_of_reading out.reply (ap of_reading is)));
          })

      on_disk : out.reply ≡ replies.Disk → Ends (end_by replies.Disk)
      on_disk is = on_cause (disk is)
        where
          on_cause : IsStillUnread before after ⊎ IsLeftLoose roster keys me before now request after
              → Ends (end_by replies.Disk)
          on_cause (inl still) = not_still still
          on_cause (inr left) =
              let diary = same_diary after.diary left.kept in
              record {
                frame = left.frame;
                steps = subst (λ (d : List Frame). HasStepWith roster keys me d now request left.frame) diary left.steps;
                fits = subst (λ (d : List Frame). Fits d left.frame) diary left.fits;
                out_is = (refused_as replies.Disk is refl).0;
                after_is = same_state keys other before.diary after.diary (Some (Some left.frame))
                    (loose_mark after.unread after.loose) same diary
                    (ap (λ (b : Bool). loose_mark b after.loose) left.unread
                    ∙ ap (λ (l : Option Frame). Some l) left.loose);
              }

      on_short : out.reply ≡ replies.NoMemory → Ends (end_by replies.NoMemory)
      on_short is = on_cause (short is)
        where
          on_cause : IsStillUnread before after ⊎ IsRead after → Ends (end_by replies.NoMemory)
          on_cause (inl still) = not_still still
          on_cause (inr is_read) =
              let (out_is, diary) = refused_as replies.NoMemory is refl in
              (out_is, as_before diary is_read)

      on_reply : (reply : Reply) → out.reply ≡ reply → Ends (end_by reply)
      on_reply (replies.Done view) is = fine (replies.Done view) is refl refl
      on_reply (replies.Started reference missing) is = fine (replies.Started reference missing) is refl refl
      on_reply replies.Stored is = fine replies.Stored is refl refl
      on_reply (replies.Answer response text) is = fine (replies.Answer response text) is refl refl
      on_reply replies.UnknownReference is = fine replies.UnknownReference is refl refl
      on_reply replies.NotOurs is = fine replies.NotOurs is refl refl
      on_reply (replies.Document fault) is = fine (replies.Document fault) is refl refl
      on_reply replies.NotCarrier is = fine replies.NotCarrier is refl refl
      on_reply replies.KnownBill is = fine replies.KnownBill is refl refl
      on_reply (replies.NotHere place) is = fine (replies.NotHere place) is refl refl
      on_reply (replies.NoParty party) is = fine (replies.NoParty party) is refl refl
      on_reply (replies.NotAllowed rule) is = fine (replies.NotAllowed rule) is refl refl
      on_reply (replies.Limit limit) is = fine (replies.Limit limit) is refl refl
      on_reply (replies.Ignored reason) is = fine (replies.Ignored reason) is refl refl
      on_reply (replies.NotParting place) is = fine (replies.NotParting place) is refl refl
      on_reply replies.Sign is = on_sign is
      on_reply replies.Full is = on_full is
      on_reply replies.Disk is = on_disk is
      on_reply (replies.Damaged place) is = absurd (undamaged place is)
      on_reply replies.NoMemory is = on_short is

  -- its messages are for platforms of the roster
  pub listed_so : StepsSo → RefusedSo → IsLegal roster keys me after.diary → AreForListed roster out.messages
  listed_so steps refused legal = on_kind (is_failure out.reply) refl
    where
      on_kind : (fails : Bool) → is_failure out.reply ≡ fails → AreForListed roster out.messages
      on_kind false is =
          let on = stepped is steps in
          steps_listed roster keys me before.diary
          (record { frame = on.frame; reply = out.reply; messages = out.messages })
          (subst (IsLegal roster keys me) on.diary legal) now request on.steps
      on_kind true is = none_listed roster out.messages (refused (failure_refuses out.reply is)).1

  -- and its reply can be written
  pub writable_so : StepsSo → IsSound me before.diary → IsWritable (Replied out.reply)
  writable_so steps sound = on_kind (is_failure out.reply) refl
    where
      on_kind : (fails : Bool) → is_failure out.reply ≡ fails → IsWritable (Replied out.reply)
      on_kind false is =
          let on = stepped is steps in
          steps_write roster keys me before.diary now request
          (record { frame = on.frame; reply = out.reply; messages = out.messages }) sound on.steps
      on_kind true is = failure_writes out.reply is

-- under the platform, the roster and the keys that it had before
pub legal_same : (me other : PlatformCode) (roster roster_after : RosterRecord) (keys keys_after : Keys)
    (diary : List Frame) → other ≡ me → roster_after ≡ roster → keys_after ≡ keys
    → IsLegal roster_after keys_after other diary → IsLegal roster keys me diary
legal_same me other roster roster_after keys keys_after diary same_me same_roster same_keys legal =
    subst (λ (p : PlatformCode). IsLegal roster keys p diary) same_me
    (subst (λ (k : Keys). IsLegal roster k other diary) same_keys
    (subst (λ (r : RosterRecord). IsLegal r keys_after other diary) same_roster legal))
