-- What becomes of a shard on a journal, by what its parts do.
use Rattle.std.proofs.Common.{◌≡◌, ◌≢◌, ◌⊎◌, inl, inr, ℕ, ◌<◌, ◌≤◌, Bool, true, false, List, [], ◌∷◌, ◌++◌, Option, Some, None, Err, refl, ap, sym, subst, ◌∙◌, arith}
use Rattle.ebl_base.specs.declared.moment.Moment.{Moment}
use Rattle.ebl_base.specs.declared.platform_code.PlatformCode.{PlatformCode}
use Rattle.signed_envelope.specs.KeyRing.{Keys}
use Rattle.party_roster.specs.RosterRecord.{RosterRecord}
use Rattle.platform_requests.specs.Request.{RequestRecord}
use Rattle.platform_requests.specs.declared.outcome.Outcome.{Outcome}
use Rattle.platform_requests.specs.declared.reply.Reply.{Reply}
use Rattle.platform_requests.specs.declared.reply.Reply.TheVariants as replies
use Rattle.bill_diary.specs.declared.frame.Frame.{Frame}
use Rattle.transfer_judge.specs.Legal.{IsLegal}
use Rattle.transfer_judge.proofs.FrameLemmas.{each_follows}
use Rattle.bill_journal.specs.declared.fault.OpenFault.{OpenFault}
use Rattle.bill_journal.specs.declared.fault.OpenFault.TheVariants as opening
use Rattle.journal_room.specs.Room.{Fits, HasRoom, is_settling}
use Rattle.journal_room.proofs.RoomLemmas.{one_more_has_room, settlement_fits}
use Rattle.platform_machine.specs.declared.step.Step.{Step}
use Rattle.platform_machine.specs.Complete.{is_failure, is_refusal}
use Rattle.platform_machine.specs.Machine.{MayBeAsked, Steps}
use Rattle.platform_machine.specs.Step.{with_frame}
use Rattle.journaled_shard.specs.declared.unwritten.Unwritten.{Unwritten}
use Rattle.journaled_shard.specs.declared.unwritten.Unwritten.TheVariants as why
use Rattle.std.proofs.lemmas.List.{append-nil}
use Rattle.journaled_diary.specs.Contents.{IsJournalOf}
use Rattle.journaled_shard.specs.Written.{HasDiary, IsTooLong, IsKeptOrDropped, IsLeftOpen, IsRead, IsWritten, WrittenRecord}
use Rattle.journaled_shard.proofs.WrittenLemmas.{kept_itself}
use Rattle.journaled_shard.specs.Shard.{CarriesOut, HasNoRoom, HasRoomWith, HasStepWith, IsJudged, IsLeftLoose, IsLegalWith, IsOfReading, IsStepOn, IsStillUnread, IsTaken, IsWrittenIfAny, reply_for, reply_of}

-- ---- legal diaries

module _ (roster : RosterRecord) (keys : Keys) (me : PlatformCode) where
  abbrev Legal : List Frame → Type 0
  Legal diary = IsLegal roster keys me diary

  read_legal : {D : Type 0} (after : WrittenRecord D) (diary : List Frame) → after.diary ≡ diary → IsRead after
      → Legal diary → IsLegalWith roster keys me after.diary after.loose
  read_legal after diary is read legal = record {
    dropped = subst Legal (sym is) legal;
    kept = λ frame loose. let clash : None ≡ Some frame = sym read.nothing_loose ∙ loose in cc clash;
  }

  left_legal : {D : Type 0} (before after : WrittenRecord D) (frame : Frame) → IsLeftOpen before frame after
      → Legal before.diary → Legal (before.diary ++ frame ∷ []) → IsLegalWith roster keys me after.diary after.loose
  left_legal before after frame left legal more = record {
    dropped = subst Legal (sym left.diary) legal;
    kept = λ other loose.
        let both : Some frame ≡ Some other = sym left.loose ∙ loose in
        let same : frame ≡ other = cc both in
        subst (λ (f : Frame). Legal (after.diary ++ f ∷ [])) same
        (subst (λ (d : List Frame). Legal (d ++ frame ∷ [])) (sym left.diary) more);
  }

  handed_legal : {D : Type 0} (before after : WrittenRecord D) (frame : Option Frame)
      → IsWrittenIfAny before frame after → Legal before.diary → Legal (with_frame before.diary frame)
      → IsLegalWith roster keys me after.diary after.loose
  handed_legal before after None same legal more = read_legal after before.diary same.diary same.read legal
  handed_legal before after (Some frame) added legal more =
      read_legal after (before.diary ++ frame ∷ []) added.diary added.read more

  refused_legal : {D : Type 0} (before after : WrittenRecord D) (frame : Frame) (cause : Unwritten)
      → IsWritten before frame after (Err cause) → Legal before.diary → Legal (before.diary ++ frame ∷ [])
      → IsLegalWith roster keys me after.diary after.loose
  refused_legal before after frame why.Full written legal more =
      read_legal after before.diary written.0.diary written.0.read legal
  refused_legal before after frame why.Disk written legal more = left_legal before after frame written legal more
  refused_legal before after frame why.NoMemory written legal more =
      read_legal after before.diary written.diary written.read legal

  pub carried_legal : {D : Type 0} (before after : WrittenRecord D) (step : Step) (out : Outcome)
      → CarriesOut before step out after → Legal before.diary → Legal (with_frame before.diary step.frame)
      → IsLegalWith roster keys me after.diary after.loose
  carried_legal before after step out (inl handed) legal more =
      handed_legal before after step.frame handed.written legal more
  carried_legal before after step out (inr refused) legal more =
      refused_legal before after refused.frame refused.cause refused.written legal
      (subst (λ (f : Option Frame). Legal (with_frame before.diary f)) refused.frame_is more)

  -- the diary that is judged
  pub found_legal : (diary found : List Frame) (loose : Option Frame) → IsKeptOrDropped diary loose found
      → IsLegalWith roster keys me diary loose → Legal found
  found_legal diary found None is legal = subst Legal (sym is) legal.dropped
  found_legal diary found (Some frame) (inl is) legal = subst Legal (sym is) legal.dropped
  found_legal diary found (Some frame) (inr is) legal = subst Legal (sym is) (legal.kept frame refl)

  abbrev pub StepsKeep : Moment → RequestRecord → Type 0
  StepsKeep now request = (diary : List Frame) (step : Step) → IsLegal roster keys me diary
      → MayBeAsked diary now request → Steps roster keys me diary now request step
      → IsLegal roster keys me (with_frame diary step.frame)

  judged_legal : {D : Type 0} (found after : WrittenRecord D) (now : Moment) (request : RequestRecord) (out : Outcome)
      → StepsKeep now request → MayBeAsked found.diary now request → Legal found.diary
      → IsJudged roster keys me found now request out after → IsLegalWith roster keys me after.diary after.loose
  judged_legal found after now request out keep asked legal (inl undecided) =
      read_legal after found.diary undecided.same.diary undecided.same.read legal
  judged_legal found after now request out keep asked legal (inr (step, steps, carried)) =
      carried_legal found after step out carried legal (keep found.diary step legal asked steps)

  -- a request keeps the diary legal, with a loose frame or without it
  pub taken_legal : {D : Type 0} (before after : WrittenRecord D) (now : Moment) (request : RequestRecord)
      (out : Outcome) → StepsKeep now request
      → ((h : List Frame) → IsKeptOrDropped before.diary before.loose h → MayBeAsked h now request)
      → IsLegalWith roster keys me before.diary before.loose → IsTaken roster keys me before now request out after
      → IsLegalWith roster keys me after.diary after.loose
  taken_legal before after now request out keep asked legal (inl stuck) =
      subst (λ (d : List Frame). IsLegalWith roster keys me d after.loose) (sym stuck.still.diary)
      (subst (λ (o : Option Frame). IsLegalWith roster keys me before.diary o) (sym stuck.still.loose) legal)
  taken_legal before after now request out keep asked legal (inr x) =
      judged_legal x.found after now request out keep (asked x.found.diary x.kept)
      (found_legal before.diary x.found.diary before.loose x.kept legal) x.judged

-- ---- room

read_room : {D : Type 0} (after : WrittenRecord D) (diary : List Frame) → after.diary ≡ diary → IsRead after
    → HasRoom diary → HasRoomWith after.diary after.loose
read_room after diary is read room = record {
  dropped = subst HasRoom (sym is) room;
  kept = λ frame loose. let clash : None ≡ Some frame = sym read.nothing_loose ∙ loose in cc clash;
}

left_room : {D : Type 0} (before after : WrittenRecord D) (frame : Frame) → IsLeftOpen before frame after
    → HasRoom before.diary → HasRoomWith after.diary after.loose
left_room before after frame left room = record {
  dropped = subst HasRoom (sym left.diary) room;
  kept = λ other loose.
      let both : Some frame ≡ Some other = sym left.loose ∙ loose in
      let same : frame ≡ other = cc both in
      subst (λ (f : Frame). Fits after.diary f) same
      (subst (λ (d : List Frame). Fits d frame) (sym left.diary) left.fits);
}

handed_room : {D : Type 0} (before after : WrittenRecord D) (frame : Option Frame) → IsWrittenIfAny before frame after
    → HasRoom before.diary → HasRoomWith after.diary after.loose
handed_room before after None same room = read_room after before.diary same.diary same.read room
handed_room before after (Some frame) added room =
    read_room after (before.diary ++ frame ∷ []) added.diary added.read
    (one_more_has_room before.diary frame room added.fits)

refused_room : {D : Type 0} (before after : WrittenRecord D) (frame : Frame) (cause : Unwritten)
    → IsWritten before frame after (Err cause) → HasRoom before.diary → HasRoomWith after.diary after.loose
refused_room before after frame why.Full written room = read_room after before.diary written.0.diary written.0.read room
refused_room before after frame why.Disk written room = left_room before after frame written room
refused_room before after frame why.NoMemory written room = read_room after before.diary written.diary written.read room

-- the diary that is judged
pub found_has_room : (diary found : List Frame) (loose : Option Frame) → IsKeptOrDropped diary loose found
    → HasRoomWith diary loose → HasRoom found
found_has_room diary found None is room = subst HasRoom (sym is) room.dropped
found_has_room diary found (Some frame) (inl is) room = subst HasRoom (sym is) room.dropped
found_has_room diary found (Some frame) (inr is) room =
    subst HasRoom (sym is) (one_more_has_room diary frame room.dropped (room.kept frame refl))

judged_room : {D : Type 0} (roster : RosterRecord) (keys : Keys) (me : PlatformCode) (found after : WrittenRecord D)
    (now : Moment) (request : RequestRecord) (out : Outcome) → HasRoom found.diary
    → IsJudged roster keys me found now request out after → HasRoomWith after.diary after.loose
judged_room roster keys me found after now request out room (inl undecided) =
    read_room after found.diary undecided.same.diary undecided.same.read room
judged_room roster keys me found after now request out room (inr (step, steps, inl handed)) =
    handed_room found after step.frame handed.written room
judged_room roster keys me found after now request out room (inr (step, steps, inr refused)) =
    refused_room found after refused.frame refused.cause refused.written room

-- a request keeps the diary's room, with a loose frame or without it
pub taken_room : {D : Type 0} (roster : RosterRecord) (keys : Keys) (me : PlatformCode) (before after : WrittenRecord D)
    (now : Moment) (request : RequestRecord) (out : Outcome) → HasRoomWith before.diary before.loose
    → IsTaken roster keys me before now request out after → HasRoomWith after.diary after.loose
taken_room roster keys me before after now request out room (inl stuck) =
    subst (λ (d : List Frame). HasRoomWith d after.loose) (sym stuck.still.diary)
    (subst (λ (o : Option Frame). HasRoomWith before.diary o) (sym stuck.still.loose) room)
taken_room roster keys me before after now request out room (inr x) =
    judged_room roster keys me x.found after now request out
    (found_has_room before.diary x.found.diary before.loose x.kept room) x.judged

-- what has no room settles nothing
not_settling : (roster : RosterRecord) (keys : Keys) (me : PlatformCode) (diary : List Frame) (frame : Frame)
    → IsLegal roster keys me diary → HasRoom diary → IsLegal roster keys me (diary ++ frame ∷ [])
    → IsTooLong diary frame → is_settling frame ≡ false
not_settling roster keys me diary frame legal room more long = by (is_settling frame) refl
  where
    by : (b : Bool) → is_settling frame ≡ b → b ≡ false
    by false is = refl
    by true is =
        let fits : Fits diary frame = settlement_fits roster keys me diary frame legal room
        (each_follows roster keys me diary [] frame more) is in
        let no : ⊥ = omega arith in
        absurd no

-- a reading doesn't answer Full
pub no_full_reading : {X : Type 0} (fault : OpenFault) → reply_for fault ≡ replies.Full → X
no_full_reading opening.Disk full = cc full
no_full_reading (opening.Damaged place) full = cc full
no_full_reading opening.NoMemory full = cc full

-- ---- nothing is loose

handed_read : {D : Type 0} (before after : WrittenRecord D) (frame : Option Frame) → IsWrittenIfAny before frame after
    → IsRead after
handed_read before after None same = same.read
handed_read before after (Some frame) added = added.read

refused_read : {D : Type 0} (before after : WrittenRecord D) (frame : Frame) (cause : Unwritten)
    → IsWritten before frame after (Err cause) → after.unread ≡ false → IsRead after
refused_read before after frame why.Full written read = written.0.read
refused_read before after frame why.Disk written read = let clash : true ≡ false = sym written.unread ∙ read in cc clash
refused_read before after frame why.NoMemory written read = written.read

judged_read : {D : Type 0} (roster : RosterRecord) (keys : Keys) (me : PlatformCode) (found after : WrittenRecord D)
    (now : Moment) (request : RequestRecord) (out : Outcome) → IsJudged roster keys me found now request out after
    → after.unread ≡ false → IsRead after
judged_read roster keys me found after now request out (inl undecided) read = undecided.same.read
judged_read roster keys me found after now request out (inr (step, steps, inl handed)) read =
    handed_read found after step.frame handed.written
judged_read roster keys me found after now request out (inr (step, steps, inr refused)) read =
    refused_read found after refused.frame refused.cause refused.written read

-- where the journal was read, nothing is loose
pub taken_read : {D : Type 0} (roster : RosterRecord) (keys : Keys) (me : PlatformCode) (before after : WrittenRecord D)
    (now : Moment) (request : RequestRecord) (out : Outcome) → IsTaken roster keys me before now request out after
    → after.unread ≡ false → IsRead after
taken_read roster keys me before after now request out (inl stuck) read =
    let clash : true ≡ false = sym stuck.still.unread ∙ read in cc clash
taken_read roster keys me before after now request out (inr x) read =
    judged_read roster keys me x.found after now request out x.judged read

-- ---- a crash

-- what a crash leaves of the diary that is judged, it leaves of what was written down before
pub left_before : (diary found : List Frame) (loose now : Option Frame) (c : List ℕ)
    → IsKeptOrDropped diary loose found → now ≡ None → HasDiary found now c → HasDiary diary loose c
left_before diary found loose now c kept is has =
    let here : HasDiary found None c = subst (λ (o : Option Frame). HasDiary found o c) is has in
    (found, kept, subst (λ (d : List Frame). IsJournalOf c d) here.1 here.2)

-- ---- as callers see it

no_failure : {X : Type 0} (reply other : Reply) → reply ≡ other → is_failure reply ≡ false → is_failure other ≡ true → X
no_failure reply other same fine fails =
    absurd (let clash : false ≡ true = sym fine ∙ (ap is_failure same ∙ fails) in cc clash)

reading_fails : {X : Type 0} (reply : Reply) → IsOfReading reply → is_failure reply ≡ false → X
reading_fails reply (inl is) fine = no_failure reply replies.Disk is fine refl
reading_fails reply (inr (inl (place, is))) fine = no_failure reply (replies.Damaged place) is fine refl
reading_fails reply (inr (inr is)) fine = no_failure reply replies.NoMemory is fine refl

cause_fails : (cause : Unwritten) → is_failure (reply_of cause) ≡ true
cause_fails why.Full = refl
cause_fails why.Disk = refl
cause_fails why.NoMemory = refl

undecided_fails : {X : Type 0} (reply : Reply) → (reply ≡ replies.Sign) ⊎ (reply ≡ replies.NoMemory)
    → is_failure reply ≡ false → X
undecided_fails reply (inl is) fine = no_failure reply replies.Sign is fine refl
undecided_fails reply (inr is) fine = no_failure reply replies.NoMemory is fine refl

full_decided : {X : Type 0} (reply : Reply) → (reply ≡ replies.Sign) ⊎ (reply ≡ replies.NoMemory)
    → reply ≡ replies.Full → X
full_decided reply (inl is) full = absurd (let clash : replies.Sign ≡ replies.Full = sym is ∙ full in cc clash)
full_decided reply (inr is) full = absurd (let clash : replies.NoMemory ≡ replies.Full = sym is ∙ full in cc clash)

disk_decided : {X : Type 0} (reply : Reply) → (reply ≡ replies.Sign) ⊎ (reply ≡ replies.NoMemory)
    → reply ≡ replies.Disk → X
disk_decided reply (inl is) disk = absurd (let clash : replies.Sign ≡ replies.Disk = sym is ∙ disk in cc clash)
disk_decided reply (inr is) disk = absurd (let clash : replies.NoMemory ≡ replies.Disk = sym is ∙ disk in cc clash)

full_reading : {X : Type 0} (reply : Reply) → IsOfReading reply → reply ≡ replies.Full → X
full_reading reply (inl is) full = absurd (let clash : replies.Disk ≡ replies.Full = sym is ∙ full in cc clash)
full_reading reply (inr (inl (place, is))) full =
    absurd (let clash : replies.Damaged place ≡ replies.Full = sym is ∙ full in cc clash)
full_reading reply (inr (inr is)) full =
    absurd (let clash : replies.NoMemory ≡ replies.Full = sym is ∙ full in cc clash)

module _ (roster : RosterRecord) (keys : Keys) (me : PlatformCode) (now : Moment) (request : RequestRecord) where
  abbrev pub AreFine : Type 0
  AreFine = (diary : List Frame) (step : Step) → Steps roster keys me diary now request step
      → is_failure step.reply ≡ false

  abbrev pub AreMeek : Type 0
  AreMeek = (diary : List Frame) (step : Step) → Steps roster keys me diary now request step
      → is_refusal step.reply ≡ true → (step.frame ≡ None) × (step.messages ≡ [])

  -- a step that is handed out
  handed_step : {D : Type 0} (found after : WrittenRecord D) (step : Step) (out : Outcome) (frame : Option Frame)
      → step.frame ≡ frame → Steps roster keys me found.diary now request step → IsWrittenIfAny found frame after
      → out.reply ≡ step.reply → out.messages ≡ step.messages
      → IsStepOn roster keys me found.diary now request out after.diary
  handed_step found after step out None is steps written reply messages = record {
    frame = None;
    steps = subst (Steps roster keys me found.diary now request)
        (λ i. record { frame = is i; reply = sym reply i; messages = sym messages i }) steps;
    diary = written.diary ∙ sym (append-nil found.diary);
    fits = tt;
  }
  handed_step found after step out (Some frame) is steps written reply messages = record {
    frame = Some frame;
    steps = subst (Steps roster keys me found.diary now request)
        (λ i. record { frame = is i; reply = sym reply i; messages = sym messages i }) steps;
    diary = written.diary;
    fits = written.fits;
  }

  judged_step : {D : Type 0} (found after : WrittenRecord D) (out : Outcome) → is_failure out.reply ≡ false
      → IsJudged roster keys me found now request out after
      → IsStepOn roster keys me found.diary now request out after.diary
  judged_step found after out fine (inl undecided) = undecided_fails out.reply undecided.reply_is fine
  judged_step found after out fine (inr (step, steps, inl handed)) =
      handed_step found after step out step.frame refl steps handed.written handed.reply_is handed.messages_are
  judged_step found after out fine (inr (step, steps, inr refused)) =
      no_failure out.reply (reply_of refused.cause) (ap (λ (o : Outcome). o.reply) refused.out_is) fine
      (cause_fails refused.cause)

  -- whatever is replied but a failure is one step of the machine
  pub taken_step : {D : Type 0} (before after : WrittenRecord D) (out : Outcome) → is_failure out.reply ≡ false
      → IsTaken roster keys me before now request out after
      → (h : List Frame) × IsKeptOrDropped before.diary before.loose h
      × IsStepOn roster keys me h now request out after.diary
  taken_step before after out fine (inl stuck) = reading_fails out.reply stuck.reply_is fine
  taken_step before after out fine (inr x) = (x.found.diary, x.kept, judged_step x.found after out fine x.judged)

  -- ---- what a refusal leaves

  refused_keeps : {D : Type 0} (found after : WrittenRecord D) (frame : Frame) (cause : Unwritten)
      → IsWritten found frame after (Err cause) → after.diary ≡ found.diary
  refused_keeps found after frame why.Full written = written.0.diary
  refused_keeps found after frame why.Disk written = written.diary
  refused_keeps found after frame why.NoMemory written = written.diary

  as_before : {D : Type 0} (found after : WrittenRecord D) (frame : Option Frame) → frame ≡ None
      → IsWrittenIfAny found frame after → after.diary ≡ found.diary
  as_before found after None is written = written.diary
  as_before found after (Some frame) is written = cc is

  judged_refused : {D : Type 0} (found after : WrittenRecord D) (out : Outcome) → AreMeek
      → is_refusal out.reply ≡ true → IsJudged roster keys me found now request out after
      → (after.diary ≡ found.diary) × (out.messages ≡ [])
  judged_refused found after out meek refusal (inl undecided) = (undecided.same.diary, undecided.nothing_sent)
  judged_refused found after out meek refusal (inr (step, steps, inl handed)) =
      let nothing = meek found.diary step steps (sym (ap is_refusal handed.reply_is) ∙ refusal) in
      (as_before found after step.frame nothing.0 handed.written, handed.messages_are ∙ nothing.1)
  judged_refused found after out meek refusal (inr (step, steps, inr refused)) = (
    refused_keeps found after refused.frame refused.cause refused.written,
    ap (λ (o : Outcome). o.messages) refused.out_is,
  )

  -- after a refusal the diary is as before, with its loose frame kept or dropped
  pub taken_refused : {D : Type 0} (before after : WrittenRecord D) (out : Outcome) → AreMeek
      → is_refusal out.reply ≡ true → IsTaken roster keys me before now request out after
      → IsKeptOrDropped before.diary before.loose after.diary × (out.messages ≡ [])
  taken_refused before after out meek refusal (inl stuck) = (
    subst (IsKeptOrDropped before.diary before.loose) (sym stuck.still.diary)
        (kept_itself before.diary before.loose),
    stuck.nothing_sent,
  )
  taken_refused before after out meek refusal (inr x) =
      let same = judged_refused x.found after out meek refusal x.judged in
      (subst (IsKeptOrDropped before.diary before.loose) (sym same.0) x.kept, same.1)

  -- ---- the journal

  no_frame_untouched : {D : Type 0} (found after : WrittenRecord D) (frame : Option Frame) → frame ≡ None
      → IsWrittenIfAny found frame after → after.journal ≡ found.journal
  no_frame_untouched found after None is written = written.journal
  no_frame_untouched found after (Some frame) is written = cc is

  unwritten_untouched : {D : Type 0} (found after : WrittenRecord D) (frame : Frame) (cause : Unwritten)
      → IsWritten found frame after (Err cause) → reply_of cause ≢ replies.Disk → after.journal ≡ found.journal
  unwritten_untouched found after frame why.Full written other = written.0.journal
  unwritten_untouched found after frame why.Disk written other = absurd (other refl)
  unwritten_untouched found after frame why.NoMemory written other = written.journal

  judged_untouched : {D : Type 0} (found after : WrittenRecord D) (out : Outcome) → AreMeek
      → is_refusal out.reply ≡ true → out.reply ≢ replies.Disk → IsJudged roster keys me found now request out after
      → after.journal ≡ found.journal
  judged_untouched found after out meek refusal other (inl undecided) = undecided.same.journal
  judged_untouched found after out meek refusal other (inr (step, steps, inl handed)) =
      let nothing = meek found.diary step steps (sym (ap is_refusal handed.reply_is) ∙ refusal) in
      no_frame_untouched found after step.frame nothing.0 handed.written
  judged_untouched found after out meek refusal other (inr (step, steps, inr refused)) =
      unwritten_untouched found after refused.frame refused.cause refused.written
      (λ disk. other (ap (λ (o : Outcome). o.reply) refused.out_is ∙ disk))

  -- where nothing had to be read again, a refusal but Disk leaves the journal as it was
  pub taken_untouched : {D : Type 0} (before after : WrittenRecord D) (out : Outcome) → AreMeek → before.unread ≡ false
      → is_refusal out.reply ≡ true → out.reply ≢ replies.Disk → IsTaken roster keys me before now request out after
      → after.journal ≡ before.journal
  taken_untouched before after out meek read refusal other (inl stuck) =
      absurd (let clash : true ≡ false = sym stuck.was ∙ read in cc clash)
  taken_untouched before after out meek read refusal other (inr x) =
      judged_untouched x.found after out meek refusal other x.judged ∙ x.untouched read

  -- ---- each failure

  unfit : {D : Type 0} (found after : WrittenRecord D) (frame : Frame) (cause : Unwritten) (reply : Reply)
      → IsWritten found frame after (Err cause) → reply ≡ reply_of cause → reply ≡ replies.Full
      → (after.diary ≡ found.diary) × IsTooLong found.diary frame
  unfit found after frame why.Full reply written is full = (written.0.diary, written.1)
  unfit found after frame why.Disk reply written is full =
      absurd (let clash : replies.Disk ≡ replies.Full = sym is ∙ full in cc clash)
  unfit found after frame why.NoMemory reply written is full =
      absurd (let clash : replies.NoMemory ≡ replies.Full = sym is ∙ full in cc clash)

  judged_full : {D : Type 0} (found after : WrittenRecord D) (out : Outcome) → AreFine
      → StepsKeep roster keys me now request → MayBeAsked found.diary now request → IsLegal roster keys me found.diary
      → HasRoom found.diary → out.reply ≡ replies.Full → IsJudged roster keys me found now request out after
      → (after.diary ≡ found.diary) × HasNoRoom roster keys me found.diary now request
  judged_full found after out fine keep asked legal room full (inl undecided) = full_decided out.reply undecided.reply_is full
  judged_full found after out fine keep asked legal room full (inr (step, steps, inl handed)) =
      no_failure step.reply replies.Full (sym handed.reply_is ∙ full) (fine found.diary step steps) refl
  judged_full found after out fine keep asked legal room full (inr (step, steps, inr refused)) =
      let no = unfit found after refused.frame refused.cause out.reply refused.written
      (ap (λ (o : Outcome). o.reply) refused.out_is) full in
      let more : IsLegal roster keys me (found.diary ++ refused.frame ∷ []) =
      subst (λ (f : Option Frame). IsLegal roster keys me (with_frame found.diary f)) refused.frame_is
      (keep found.diary step legal asked steps) in
      let settles = not_settling roster keys me found.diary refused.frame legal room more no.1 in
      (no.0, (refused.frame, record { step = step; steps = steps; frame_is = refused.frame_is }, no.1, settles))

  -- Full: the step's frame has no room, and settles nothing
  pub taken_full : {D : Type 0} (before after : WrittenRecord D) (out : Outcome) → AreFine
      → StepsKeep roster keys me now request
      → ((h : List Frame) → IsKeptOrDropped before.diary before.loose h → MayBeAsked h now request)
      → IsLegalWith roster keys me before.diary before.loose → HasRoomWith before.diary before.loose
      → out.reply ≡ replies.Full → IsTaken roster keys me before now request out after
      → IsKeptOrDropped before.diary before.loose after.diary
      × HasNoRoom roster keys me after.diary now request
  taken_full before after out fine keep asked legal room full (inl stuck) =
      full_reading out.reply stuck.reply_is full
  taken_full before after out fine keep asked legal room full (inr x) =
      let is = judged_full x.found after out fine keep (asked x.found.diary x.kept)
      (found_legal roster keys me before.diary x.found.diary before.loose x.kept legal)
      (found_has_room before.diary x.found.diary before.loose x.kept room) full x.judged in (
        subst (IsKeptOrDropped before.diary before.loose) (sym is.0) x.kept,
        subst (λ (d : List Frame). HasNoRoom roster keys me d now request) (sym is.0) is.1,
      )

  lost : {D : Type 0} (found after : WrittenRecord D) (frame : Frame) (cause : Unwritten) (reply : Reply)
      → IsWritten found frame after (Err cause) → reply ≡ reply_of cause → reply ≡ replies.Disk
      → IsLeftOpen found frame after
  lost found after frame why.Full reply written is disk =
      absurd (let clash : replies.Full ≡ replies.Disk = sym is ∙ disk in cc clash)
  lost found after frame why.Disk reply written is disk = written
  lost found after frame why.NoMemory reply written is disk =
      absurd (let clash : replies.NoMemory ≡ replies.Disk = sym is ∙ disk in cc clash)

  judged_lost : {D : Type 0} (found after : WrittenRecord D) (out : Outcome) → AreFine → out.reply ≡ replies.Disk
      → IsJudged roster keys me found now request out after
      → (frame : Frame) × HasStepWith roster keys me found.diary now request frame × IsLeftOpen found frame after
  judged_lost found after out fine disk (inl undecided) = disk_decided out.reply undecided.reply_is disk
  judged_lost found after out fine disk (inr (step, steps, inl handed)) =
      no_failure step.reply replies.Disk (sym handed.reply_is ∙ disk) (fine found.diary step steps) refl
  judged_lost found after out fine disk (inr (step, steps, inr refused)) =
      let left = lost found after refused.frame refused.cause out.reply refused.written
      (ap (λ (o : Outcome). o.reply) refused.out_is) disk in
      (refused.frame, record { step = step; steps = steps; frame_is = refused.frame_is }, left)

  -- Disk: nothing changed, or the step's frame is loose
  pub taken_disk : {D : Type 0} (before after : WrittenRecord D) (out : Outcome) → AreFine
      → out.reply ≡ replies.Disk → IsTaken roster keys me before now request out after
      → IsStillUnread before after ⊎ IsLeftLoose roster keys me before now request after
  taken_disk before after out fine disk (inl stuck) = inl (stuck.was, stuck.still)
  taken_disk before after out fine disk (inr x) =
      let (frame, steps, left) = judged_lost x.found after out fine disk x.judged in
      inr (record {
        frame = frame;
        kept = subst (IsKeptOrDropped before.diary before.loose) (sym left.diary) x.kept;
        steps = subst (λ (d : List Frame). HasStepWith roster keys me d now request frame) (sym left.diary) steps;
        fits = subst (λ (d : List Frame). Fits d frame) (sym left.diary) left.fits;
        loose = left.loose;
        unread = left.unread;
      })

  caused_damaged : {X : Type 0} (cause : Unwritten) (place : ℕ) → reply_of cause ≡ replies.Damaged place → X
  caused_damaged why.Full place is = absurd (cc is)
  caused_damaged why.Disk place is = absurd (cc is)
  caused_damaged why.NoMemory place is = absurd (cc is)

  decided_damaged : {X : Type 0} (reply : Reply) (place : ℕ) → (reply ≡ replies.Sign) ⊎ (reply ≡ replies.NoMemory)
      → reply ≡ replies.Damaged place → X
  decided_damaged reply place (inl is) damaged =
      absurd (let clash : replies.Sign ≡ replies.Damaged place = sym is ∙ damaged in cc clash)
  decided_damaged reply place (inr is) damaged =
      absurd (let clash : replies.NoMemory ≡ replies.Damaged place = sym is ∙ damaged in cc clash)

  judged_damaged : {X : Type 0} {D : Type 0} (found after : WrittenRecord D) (out : Outcome) (place : ℕ) → AreFine
      → out.reply ≡ replies.Damaged place → IsJudged roster keys me found now request out after → X
  judged_damaged found after out place fine damaged (inl undecided) =
      decided_damaged out.reply place undecided.reply_is damaged
  judged_damaged found after out place fine damaged (inr (step, steps, inl handed)) =
      no_failure step.reply (replies.Damaged place) (sym handed.reply_is ∙ damaged) (fine found.diary step steps) refl
  judged_damaged found after out place fine damaged (inr (step, steps, inr refused)) =
      caused_damaged refused.cause place (sym (ap (λ (o : Outcome). o.reply) refused.out_is) ∙ damaged)

  -- Damaged: the journal could not be read again
  pub taken_damaged : {D : Type 0} (before after : WrittenRecord D) (out : Outcome) (place : ℕ) → AreFine
      → out.reply ≡ replies.Damaged place → IsTaken roster keys me before now request out after
      → IsStillUnread before after
  taken_damaged before after out place fine damaged (inl stuck) = (stuck.was, stuck.still)
  taken_damaged before after out place fine damaged (inr x) =
      judged_damaged x.found after out place fine damaged x.judged

  unwritten_read : {D : Type 0} (found after : WrittenRecord D) (frame : Frame) (cause : Unwritten)
      → IsWritten found frame after (Err cause) → (reply_of cause ≡ replies.Disk → ⊥) → IsRead after
  unwritten_read found after frame why.Full written sound = written.0.read
  unwritten_read found after frame why.Disk written sound = absurd (sound refl)
  unwritten_read found after frame why.NoMemory written sound = written.read

  decided_read : {D : Type 0} (found after : WrittenRecord D) (out : Outcome) → (out.reply ≡ replies.Disk → ⊥)
      → IsJudged roster keys me found now request out after → IsRead after
  decided_read found after out sound (inl undecided) = undecided.same.read
  decided_read found after out sound (inr (step, steps, inl handed)) =
      handed_read found after step.frame handed.written
  decided_read found after out sound (inr (step, steps, inr refused)) =
      unwritten_read found after refused.frame refused.cause refused.written
      (λ is. sound (ap (λ (o : Outcome). o.reply) refused.out_is ∙ is))

  -- any other reply but those of reading: the journal was read
  pub taken_settled : {D : Type 0} (before after : WrittenRecord D) (out : Outcome) → ¬ IsOfReading out.reply
      → IsTaken roster keys me before now request out after → IsRead after
  taken_settled before after out other (inl stuck) = absurd (other stuck.reply_is)
  taken_settled before after out other (inr x) = decided_read x.found after out (λ is. other (inl is)) x.judged

  -- NoMemory: it could not be read again, or it was read
  pub taken_short : {D : Type 0} (before after : WrittenRecord D) (out : Outcome) → out.reply ≡ replies.NoMemory
      → IsTaken roster keys me before now request out after → IsStillUnread before after ⊎ IsRead after
  taken_short before after out short (inl stuck) = inl (stuck.was, stuck.still)
  taken_short before after out short (inr x) = inr (decided_read x.found after out
      (λ is. let clash : replies.NoMemory ≡ replies.Disk = sym short ∙ is in cc clash) x.judged)
