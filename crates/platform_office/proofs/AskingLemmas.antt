-- What a reply says of the diary afterwards, and that a shard stays at its post.
use Rattle.std.proofs.Common.{◌≡◌, ◌≢◌, ◌⊎◌, inl, inr, ⊎_elim, ℕ, ◌+◌, ◌<◌, ◌≤◌, Bool, true, false, List, [], ◌∷◌, ◌++◌, length, take, Option, Some, None, refl, sym, ap, subst, ◌∙◌, arith, All}
use Rattle.std.specs.Prelude.{IfSome, is_some}
use Rattle.std.specs.Option.{option_to_list}
use Rattle.std.proofs.lemmas.List.{append-nil, length-append}
use Rattle.std.proofs.lemmas.List.Elements.{All-append, All-cons, All-nil}
use Rattle.std.proofs.Math.Seq.{take-append_seam}
use mathlib.Core.List.{IsPrefix}
use Rattle.ebl_base.specs.declared.moment.Moment.{Moment}
use Rattle.ebl_base.specs.declared.platform_code.PlatformCode.{PlatformCode}
use Rattle.signed_envelope.specs.KeyRing.{Keys}
use Rattle.party_roster.specs.RosterRecord.{RosterRecord}
use Rattle.platform_requests.specs.Request.{RequestRecord}
use Rattle.platform_requests.specs.Shard.{shard_of}
use Rattle.platform_requests.specs.declared.outcome.Outcome.{Outcome}
use Rattle.platform_requests.specs.declared.reply.Reply.{Reply}
use Rattle.platform_requests.specs.declared.reply.Reply.TheVariants as replies
use Rattle.bill_diary.specs.declared.frame.Frame.{Frame}
use Rattle.bill_diary.specs.declared.frame.Frame.TheVariants.{One, BegunTaken}
use Rattle.bill_locks.specs.View.{one_if}
use Rattle.transfer_judge.specs.Legal.{IsLegal}
use Rattle.platform_machine.specs.Complete.{is_failure, is_refusal}
use Rattle.platform_machine.specs.Machine.{Steps}
use Rattle.platform_machine.specs.declared.step.Step.{Step}
use Rattle.run_safety.specs.Steady.{IsInShard}
use Rattle.journaled_shard.specs.Shard.{HasNoRoom, IsLeftLoose, IsLegalWith, IsOfReading, IsStepOn, IsStillUnread, JournaledShardRecord}
use Rattle.journaled_shard.specs.Written.{IsKeptOrDropped, IsOnDisk, IsRead, IsStill, WrittenRecord}
use Rattle.platform_office.specs.Post.{IsInOrder, IsOfShard}
use Rattle.platform_office.specs.Served.{IsServed, is_disk}

-- ---- replies

abbrev reads : Reply → Bool
reads replies.Disk = true
reads (replies.Damaged place) = true
reads replies.NoMemory = true
reads reply = false

reads_if : (r : Reply) → IsOfReading r → reads r ≡ true
reads_if r is = ⊎_elim (λ e. ap reads e) (λ x. ⊎_elim (λ e. ap reads e.1) (λ e. ap reads e) x) is

-- a reply comes of reading the journal again, or not
pub record NotOfReading (r : Reply) : Type 0 where
  pub not : ¬ IsOfReading r

other : (r : Reply) → reads r ≡ false → NotOfReading r
other r e = record { not = λ is. let clash : true ≡ false = sym (reads_if r is) ∙ e in cc clash }

pub reading_or_not : (r : Reply) → IsOfReading r ⊎ NotOfReading r
reading_or_not replies.Disk = inl (inl refl)
reading_or_not (replies.Damaged place) = inl (inr (inl (place, refl)))
reading_or_not replies.NoMemory = inl (inr (inr refl))
reading_or_not (replies.Done view) = inr (other _ refl)
reading_or_not (replies.Started reference missing) = inr (other _ refl)
reading_or_not replies.Stored = inr (other _ refl)
reading_or_not (replies.Answer response text) = inr (other _ refl)
reading_or_not replies.UnknownReference = inr (other _ refl)
reading_or_not replies.NotOurs = inr (other _ refl)
reading_or_not (replies.Document fault) = inr (other _ refl)
reading_or_not replies.NotCarrier = inr (other _ refl)
reading_or_not replies.KnownBill = inr (other _ refl)
reading_or_not (replies.NotHere tag) = inr (other _ refl)
reading_or_not (replies.NoParty party) = inr (other _ refl)
reading_or_not (replies.NotAllowed rule) = inr (other _ refl)
reading_or_not (replies.Limit kind) = inr (other _ refl)
reading_or_not (replies.Ignored reason) = inr (other _ refl)
reading_or_not (replies.NotParting tag) = inr (other _ refl)
reading_or_not replies.Sign = inr (other _ refl)
reading_or_not replies.Full = inr (other _ refl)

-- what is no refusal is no failure
pub not_failure : (r : Reply) → is_refusal r ≡ false → is_failure r ≡ false
not_failure (replies.Done view) e = refl
not_failure (replies.Started reference missing) e = refl
not_failure replies.Stored e = refl
not_failure (replies.Answer response text) e = refl
not_failure replies.UnknownReference e = refl
not_failure replies.NotOurs e = refl
not_failure (replies.Document fault) e = refl
not_failure replies.NotCarrier e = refl
not_failure replies.KnownBill e = refl
not_failure (replies.NotHere tag) e = refl
not_failure (replies.NoParty party) e = refl
not_failure (replies.NotAllowed rule) e = refl
not_failure (replies.Limit kind) e = refl
not_failure (replies.Ignored reason) e = refl
not_failure (replies.NotParting tag) e = refl
not_failure replies.Sign e = cc e
not_failure replies.Full e = cc e
not_failure replies.Disk e = cc e
not_failure (replies.Damaged place) e = cc e
not_failure replies.NoMemory e = cc e

-- a reply that comes of reading is a failure
pub reading_fails : (r : Reply) → IsOfReading r → is_failure r ≡ true
reading_fails r is = ⊎_elim (λ e. ap is_failure e) (λ x. ⊎_elim (λ e. ap is_failure e.1) (λ e. ap is_failure e) x) is

pub disk_is : (r : Reply) → is_disk r ≡ true → r ≡ replies.Disk
disk_is replies.Disk e = refl
disk_is (replies.Damaged place) e = cc e
disk_is replies.NoMemory e = cc e
disk_is (replies.Done view) e = cc e
disk_is (replies.Started reference missing) e = cc e
disk_is replies.Stored e = cc e
disk_is (replies.Answer response text) e = cc e
disk_is replies.UnknownReference e = cc e
disk_is replies.NotOurs e = cc e
disk_is (replies.Document fault) e = cc e
disk_is replies.NotCarrier e = cc e
disk_is replies.KnownBill e = cc e
disk_is (replies.NotHere tag) e = cc e
disk_is (replies.NoParty party) e = cc e
disk_is (replies.NotAllowed rule) e = cc e
disk_is (replies.Limit kind) e = cc e
disk_is (replies.Ignored reason) e = cc e
disk_is (replies.NotParting tag) e = cc e
disk_is replies.Sign e = cc e
disk_is replies.Full e = cc e

-- ---- the loose frame

pub found_is : (diary found : List Frame) (loose : Option Frame) → loose ≡ None → IsKeptOrDropped diary loose found
    → found ≡ diary
found_is diary found None none is = is
found_is diary found (Some frame) none is = cc none

is_none : (loose : Option Frame) → loose ≡ None → is_some loose ≡ true → ⊥
is_none loose none some = let clash : true ≡ false = sym some ∙ ap is_some none in cc clash

-- after a request over a journal that was read, a frame is loose only where the disk failed
module _ {D : Type 0} (old new : WrittenRecord D) (was : old.loose ≡ None) where
  still_none : IsStill old new → new.loose ≡ None
  still_none still = still.loose ∙ was

  pub loose_at_disk : (r : Reply) → ((place : ℕ) → r ≡ replies.Damaged place → IsStillUnread old new)
      → (r ≡ replies.NoMemory → IsStillUnread old new ⊎ IsRead new) → (¬ IsOfReading r → IsRead new)
      → is_some new.loose ≡ true → is_disk r ≡ true
  loose_at_disk r damaged short read some = ⊎_elim
      (λ is. ⊎_elim (λ e. ap is_disk e)
      (λ x. ⊎_elim (λ e. absurd (is_none new.loose (still_none (damaged e.0 e.1).1) some))
      (λ e. ⊎_elim (λ still. absurd (is_none new.loose (still_none still.1) some))
      (λ is_read. absurd (is_none new.loose is_read.nothing_loose some)) (short e)) x) is)
      (λ is_not. absurd (is_none new.loose (read is_not.not).nothing_loose some))
      (reading_or_not r)

-- ---- bills of the shard

pub frame_own : (i : ℕ) (frame : Frame) → IsInShard i frame → IsOfShard i frame
frame_own i (One r) is = is r (inl refl)
frame_own i (BegunTaken r) is = is r (inl refl)

pub own_if : (i : ℕ) (frame : Option Frame) → IfSome frame (IsInShard i) → IfSome frame (IsOfShard i)
own_if i None is = tt
own_if i (Some frame) is = frame_own i frame is

-- a diary grows by one frame of the shard at most
abbrev pub GrowsBy : ℕ → List Frame → List Frame → Type 0
GrowsBy i before after =
    (added : Option Frame) × (after ≡ before ++ option_to_list added) × IfSome added (IsOfShard i)

pub all_own : (i : ℕ) (before after : List Frame) → GrowsBy i before after → All (IsOfShard i) before
    → All (IsOfShard i) after
all_own i before after (None, is, own) all = subst (All (IsOfShard i)) (sym (is ∙ append-nil before)) all
all_own i before after (Some frame, is, own) all =
    subst (All (IsOfShard i)) (sym is) (All-append (IsOfShard i) before (frame ∷ []) all
    (All-cons (IsOfShard i) frame [] own (All-nil (IsOfShard i))))

pub grown_length : (i : ℕ) (before after : List Frame) → GrowsBy i before after
    → (length after ≡ length before) ⊎ (length after ≡ length before + 1)
grown_length i before after (None, is, own) = inl (ap length (is ∙ append-nil before))
grown_length i before after (Some frame, is, own) = inr (ap length is ∙ length-append before (frame ∷ []))

-- ---- a loose frame that is kept or dropped

pub own_found : (i : ℕ) (diary found : List Frame) (loose : Option Frame) → IsKeptOrDropped diary loose found
    → All (IsOfShard i) diary → IfSome loose (IsOfShard i) → All (IsOfShard i) found
own_found i diary found None is all own = subst (All (IsOfShard i)) (sym is) all
own_found i diary found (Some frame) (inl is) all own = subst (All (IsOfShard i)) (sym is) all
own_found i diary found (Some frame) (inr is) all own =
    subst (All (IsOfShard i)) (sym is) (All-append (IsOfShard i) diary (frame ∷ []) all
    (All-cons (IsOfShard i) frame [] own (All-nil (IsOfShard i))))

pub found_length : (diary found : List Frame) (loose : Option Frame) → IsKeptOrDropped diary loose found
    → (length found ≡ length diary) ⊎ ((length found ≡ length diary + 1) × (is_some loose ≡ true))
found_length diary found None is = inl (ap length is)
found_length diary found (Some frame) (inl is) = inl (ap length is)
found_length diary found (Some frame) (inr is) = inr (ap length is ∙ length-append diary (frame ∷ []), refl)

pub found_begins : (diary found : List Frame) (loose : Option Frame) → IsKeptOrDropped diary loose found
    → IsPrefix diary found
found_begins diary found None is = ([], append-nil diary ∙ sym is)
found_begins diary found (Some frame) (inl is) = ([], append-nil diary ∙ sym is)
found_begins diary found (Some frame) (inr is) = (frame ∷ [], sym is)

-- ---- a shard stays at its post

one_at_most : (b : Bool) → one_if b ≤ 1
one_at_most true = omega arith
one_at_most false = omega arith

module _ {D G : Type 0} (tells : D → Bool) (keys : G → Keys) where
  module _ (seen : D → List ℕ) (may_leave : D → List ℕ → Type 0) where
    -- after the journal was read again
    pub settled_order : (i : ℕ) (old new : JournaledShardRecord D G)
        → IsKeptOrDropped old.written.diary old.written.loose new.written.diary → IsRead new.written
        → IsLegalWith new.roster (keys new.ring) new.me new.written.diary new.written.loose
        → (tells new.written.journal.disk ≡ true → IsOnDisk seen may_leave new.written)
        → IsInOrder tells keys seen may_leave i old → IsInOrder tells keys seen may_leave i new
    settled_order i old new found read legal on_disk at = record {
      legal = legal;
      own = own_found i old.written.diary new.written.diary old.written.loose found at.own at.own_loose;
      own_loose = subst (λ (o : Option Frame). IfSome o (IsOfShard i)) (sym read.nothing_loose) tt;
      on_disk = on_disk;
      few = (let few = at.few in
          let none : one_if (is_some new.written.loose) ≡ 0 = ap (λ (o : Option Frame). one_if (is_some o))
          read.nothing_loose in
          ⊎_elim (λ e. omega arith)
          (λ e. let e0 = e.0 in
          let one : one_if (is_some old.written.loose) ≡ 1 = ap one_if e.1 in omega arith)
          (found_length old.written.diary new.written.diary old.written.loose found));
    }

  -- what a call says of a request over a journal that was read
  pub record TakeSays (now : Moment) (request : RequestRecord) (out : Outcome) (old new : JournaledShardRecord D G)
      : Type 0 where
    pub step : is_failure out.reply ≡ false → (h : List Frame)
        × IsKeptOrDropped old.written.diary old.written.loose h
        × IsStepOn old.roster (keys old.ring) old.me h now request out new.written.diary
    pub refused : is_refusal out.reply ≡ true
        → IsKeptOrDropped old.written.diary old.written.loose new.written.diary × (out.messages ≡ [])
    pub full : out.reply ≡ replies.Full
        → IsKeptOrDropped old.written.diary old.written.loose new.written.diary
        × HasNoRoom old.roster (keys old.ring) old.me new.written.diary now request
    pub disk : out.reply ≡ replies.Disk → IsStillUnread old.written new.written
        ⊎ IsLeftLoose old.roster (keys old.ring) old.me old.written now request new.written
    pub damaged : (place : ℕ) → out.reply ≡ replies.Damaged place → IsStillUnread old.written new.written
    pub short : out.reply ≡ replies.NoMemory → IsStillUnread old.written new.written ⊎ IsRead new.written
    pub read : ¬ IsOfReading out.reply → IsRead new.written
    pub undamaged : (place : ℕ) → tells old.written.journal.disk ≡ true → out.reply ≡ replies.Damaged place → ⊥
    pub legal : IsLegalWith new.roster (keys new.ring) new.me new.written.diary new.written.loose
    pub me : new.me ≡ old.me
    pub roster : new.roster ≡ old.roster
    pub keys_are : keys new.ring ≡ keys old.ring

  abbrev pub WritesInItsShard : Type 0
  WritesInItsShard = (roster : RosterRecord) (keys : Keys) (me : PlatformCode) (i : ℕ) (diary : List Frame)
      (now : Moment) (request : RequestRecord) (step : Step) → IsLegal roster keys me diary
      → Steps roster keys me diary now request step → shard_of request ≡ i → IfSome step.frame (IsInShard i)

  module _ (now : Moment) (request : RequestRecord) (out : Outcome) (old new : JournaledShardRecord D G)
      (was : old.written.loose ≡ None) (says : TakeSays now request out old new) where
    same_if_refused : is_refusal out.reply ≡ true → new.written.diary ≡ old.written.diary
    same_if_refused refusal =
        found_is old.written.diary new.written.diary old.written.loose was (says.refused refusal).0

    step_here : is_failure out.reply ≡ false
        → IsStepOn old.roster (keys old.ring) old.me old.written.diary now request out new.written.diary
    step_here fine =
        let (h, kept, on) = says.step fine in
        subst (λ (d : List Frame). IsStepOn old.roster (keys old.ring) old.me d now request out new.written.diary)
        (found_is old.written.diary h old.written.loose was kept) on

    pub grows_by_one : (added : Option Frame) × (new.written.diary ≡ old.written.diary ++ option_to_list added)
    grows_by_one = on_refusal (is_refusal out.reply) refl
      where
        on_refusal : (b : Bool) → is_refusal out.reply ≡ b
            → (added : Option Frame) × (new.written.diary ≡ old.written.diary ++ option_to_list added)
        on_refusal true e = (None, same_if_refused e ∙ sym (append-nil old.written.diary))
        on_refusal false e = let s = step_here (not_failure out.reply e) in (s.frame, s.diary)

    pub loose_if_disk : is_some new.written.loose ≡ true → is_disk out.reply ≡ true
    loose_if_disk = loose_at_disk old.written new.written was out.reply says.damaged says.short says.read

    module _ (law : WritesInItsShard) (i : ℕ) (goes : shard_of request ≡ i) (seen : D → List ℕ)
        (may_leave : D → List ℕ → Type 0) (at : IsInOrder tells keys seen may_leave i old) where
      grows_own : GrowsBy i old.written.diary new.written.diary
      grows_own = on_refusal (is_refusal out.reply) refl
        where
          on_refusal : (b : Bool) → is_refusal out.reply ≡ b → GrowsBy i old.written.diary new.written.diary
          on_refusal true e = (None, same_if_refused e ∙ sym (append-nil old.written.diary), tt)
          on_refusal false e =
              let s = step_here (not_failure out.reply e) in (
                s.frame,
                s.diary,
                own_if i s.frame
                    (law old.roster (keys old.ring) old.me i old.written.diary now request _ at.legal.dropped s.steps
                    goes),
              )

      left_own : (frame : Frame)
          → IsLeftLoose old.roster (keys old.ring) old.me old.written now request new.written
          → new.written.loose ≡ Some frame → IsOfShard i frame
      left_own frame left is =
          let same : left.frame ≡ frame = (let both : Some left.frame ≡ Some frame = sym left.loose ∙ is in cc both) in
          let has = left.steps in
          let diary : new.written.diary ≡ old.written.diary =
          found_is old.written.diary new.written.diary old.written.loose was left.kept in
          let legal : IsLegal old.roster (keys old.ring) old.me new.written.diary =
          subst (IsLegal old.roster (keys old.ring) old.me) (sym diary) at.legal.dropped in
          let own : IfSome has.step.frame (IsInShard i) =
          law old.roster (keys old.ring) old.me i new.written.diary now request has.step legal has.steps goes in
          let own_left : IsInShard i left.frame =
          subst (λ (o : Option Frame). IfSome o (IsInShard i)) has.frame_is own in
          subst (IsOfShard i) same (frame_own i left.frame own_left)

      loose_own : (loose : Option Frame) → new.written.loose ≡ loose → IfSome loose (IsOfShard i)
      loose_own None is = tt
      loose_own (Some frame) is =
          let some : is_some new.written.loose ≡ true = ap is_some is in
          ⊎_elim (λ still. absurd (is_none new.written.loose (still.1.loose ∙ was) some))
          (λ left. left_own frame left is) (says.disk (disk_is out.reply (loose_if_disk some)))

      pub taken_order : (tells new.written.journal.disk ≡ true → IsOnDisk seen may_leave new.written)
          → length old.written.diary < 4294967294 → IsInOrder tells keys seen may_leave i new
      taken_order on_disk few = record {
        legal = says.legal;
        own = all_own i old.written.diary new.written.diary grows_own at.own;
        own_loose = loose_own new.written.loose refl;
        on_disk = on_disk;
        few = (let one = one_at_most (is_some new.written.loose) in
            ⊎_elim (λ e. omega arith) (λ e. omega arith)
            (grown_length i old.written.diary new.written.diary grows_own));
      }

      pub taken_served : IsServed old.roster (keys old.ring) old.me (tells old.written.journal.disk) i now request
          old.written.diary new.written.diary out
      taken_served = record {
        step = step_here;
        refused = λ refusal. (same_if_refused refusal, (says.refused refusal).1);
        full = λ full.
            let (kept, no_room) = says.full full in
            subst (λ (d : List Frame). HasNoRoom old.roster (keys old.ring) old.me d now request)
            (found_is old.written.diary new.written.diary old.written.loose was kept) no_room;
        undamaged = says.undamaged;
        legal = subst (λ (r : RosterRecord). IsLegal r (keys old.ring) old.me new.written.diary) says.roster
            (subst (λ (k : Keys). IsLegal new.roster k old.me new.written.diary) says.keys_are
            (subst (λ (p : PlatformCode). IsLegal new.roster (keys new.ring) p new.written.diary) says.me
            says.legal.dropped));
        own = all_own i old.written.diary new.written.diary grows_own at.own;
      }
