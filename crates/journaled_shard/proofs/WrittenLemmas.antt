-- What a disk and each crash have of what was written down, before and after each call.
use Rattle.std.proofs.Common.{◌≡◌, ◌≢◌, ◌↔◌, inl, inr, ℕ, ◌+◌, ◌<◌, ◌≤◌, Bool, true, false, List, [], ◌∷◌, ◌++◌, Option, Some, None, Err, length, refl, ap, sym, subst, ◌∙◌, arith, lit≤}
use Rattle.std.proofs.lemmas.List.{append-nil}
use Rattle.std.specs.Option.{option_to_list}
use Rattle.bill_diary.specs.declared.frame.Frame.{Frame}
use Rattle.bill_journal.specs.Frames.{StandsFor, front_of}
use Rattle.bill_journal.specs.Journal.{HasContents, JournalRecord, MayHave, WithOrWithout, room_for}
use Rattle.bill_journal.proofs.FrameLemmas.{length-front_of-push}
use Rattle.record_bytes.specs.Forms.{HasNames}
use Rattle.record_bytes.specs.Grammar.{frame_bytes, kept}
use Rattle.journaled_diary.specs.Contents.{IsJournalOf, contents_in}
use Rattle.journaled_shard.specs.declared.unwritten.Unwritten.{Unwritten}
use Rattle.journaled_shard.specs.declared.unwritten.Unwritten.TheVariants as why
use Rattle.journaled_shard.specs.Written.{AreNamed, HasDiary, IsAdded, IsAsBefore, IsKeptOrDropped, IsLeft, IsLeftOpen, IsNamedIfAny, IsOnDisk, IsRead, IsTooLong, IsWritten, WrittenRecord, is_settling, journal_length}
use Rattle.journal_room.specs.Room.{Fits}
use Rattle.journal_room.proofs.RoomLemmas.{contents_more}

-- ---- one diary

-- the diary itself is one of the two
pub kept_itself : (diary : List Frame) (loose : Option Frame) → IsKeptOrDropped diary loose diary
kept_itself diary None = refl
kept_itself diary (Some frame) = inl refl

pub alone : (diary : List Frame) (loose : Option Frame) (file : List ℕ) → IsJournalOf file diary
    → HasDiary diary loose file
alone diary loose file stands = (diary, kept_itself diary loose, stands)

pub with_or_without : (diary : List Frame) (frame : Frame) (file : List ℕ)
    → WithOrWithout (contents_in diary) (frame_bytes frame) file → HasDiary diary (Some frame) file
with_or_without diary frame file (inl stands) = (diary, inl refl, stands)
with_or_without diary frame file (inr stands) =
    (diary ++ frame ∷ [], inr refl, subst (StandsFor file) (sym (contents_more diary frame)) stands)

same_diary : (a b : List Frame) (x y : Option Frame) (file : List ℕ) → b ≡ a → y ≡ x → HasDiary a x file
    → HasDiary b y file
same_diary a b x y file diary loose has =
    subst (λ (d : List Frame). HasDiary d y file) (sym diary)
    (subst (λ (o : Option Frame). HasDiary a o file) (sym loose) has)

-- the contents with one frame more
pub contents_added : (diary after : List Frame) (frame : Frame) (bytes : List ℕ) → after ≡ diary ++ frame ∷ []
    → bytes ≡ frame_bytes frame → contents_in diary ++ bytes ∷ [] ≡ contents_in after
contents_added diary after frame bytes is same =
    ap (λ (x : List ℕ). contents_in diary ++ x ∷ []) same
    ∙ (sym (contents_more diary frame) ∙ ap contents_in (sym is))

-- a frame behind a diary, where room was taken for it
pub behind : (before ready after : List Frame) (frame : Frame) → ready ≡ before → after ≡ ready ++ frame ∷ []
    → after ≡ before ++ frame ∷ []
behind before ready after frame same is = is ∙ ap (λ (d : List Frame). d ++ frame ∷ []) same

-- ---- room

-- the journal's length with a frame more
pub longer_by : (diary : List Frame) (frame : Frame) (end : ℕ) → end ≡ length (front_of (contents_in diary))
    → journal_length (diary ++ frame ∷ []) ≡ end + 6 + length (frame_bytes frame)
longer_by diary frame end is =
    let more : length (front_of (contents_in (diary ++ frame ∷ [])))
    ≡ length (front_of (contents_in diary ++ frame_bytes frame ∷ [])) =
    ap (λ (h : List (List ℕ)). length (front_of h)) (contents_more diary frame) in
    omega (arith, more, length-front_of-push (contents_in diary) (frame_bytes frame), is)

-- no room is larger than a frame's content may be
pub room_is_most : (settling : Bool) → room_for settling ≤ 16777216
room_is_most true = lit≤ tt
room_is_most false = lit≤ tt

-- ---- on the disk

module _ {D : Type 0} (seen : D → List ℕ) (may_leave : D → List ℕ → Type 0) where
  -- a journal that was read
  pub settled_on_disk : (w : WrittenRecord D) → HasContents seen may_leave w.journal (contents_in w.diary)
      → IsOnDisk seen may_leave w
  settled_on_disk w has = record {
    now = alone w.diary w.loose (seen w.journal.disk) has.stands;
    crash = λ c left. subst (λ (file : List ℕ). HasDiary w.diary w.loose file) (sym (has.durable c left))
        (alone w.diary w.loose (seen w.journal.disk) has.stands);
    settled = λ read. has;
  }

  -- an append that failed
  pub left_on_disk : (before after : WrittenRecord D) (frame : Frame) (bytes : List ℕ)
      → IsLeftOpen before frame after → bytes ≡ frame_bytes frame
      → MayHave (seen after.journal.disk) (may_leave after.journal.disk) (contents_in before.diary) bytes
      → IsOnDisk seen may_leave after
  left_on_disk before after frame bytes left same may = record {
    now = same_diary before.diary after.diary (Some frame) after.loose (seen after.journal.disk) left.diary left.loose
        (with_or_without before.diary frame (seen after.journal.disk)
        (subst (λ (x : List ℕ). WithOrWithout (contents_in before.diary) x (seen after.journal.disk)) same may.now));
    crash = λ c is. same_diary before.diary after.diary (Some frame) after.loose c left.diary left.loose
        (with_or_without before.diary frame c
        (subst (λ (x : List ℕ). WithOrWithout (contents_in before.diary) x c) same (may.crash c is)));
    settled = λ read. let clash : true ≡ false = sym left.unread ∙ read in cc clash;
  }

  -- ---- a crash

  -- at a moment of an append that was done
  pub left_by_added : (before after : WrittenRecord D) (frame : Frame) (bytes c : List ℕ)
      → after.diary ≡ before.diary ++ frame ∷ [] → bytes ≡ frame_bytes frame
      → WithOrWithout (contents_in before.diary) bytes c → IsLeft before after c
  left_by_added before after frame bytes c diary same (inl stands) = inl (alone before.diary before.loose c stands)
  left_by_added before after frame bytes c diary same (inr stands) = inr (alone after.diary after.loose c
      (subst (StandsFor c) (contents_added before.diary after.diary frame bytes diary same) stands))

  -- at a moment of one that failed
  pub left_by_failed : (before after : WrittenRecord D) (frame : Frame) (bytes c : List ℕ)
      → IsLeftOpen before frame after → bytes ≡ frame_bytes frame → WithOrWithout (contents_in before.diary) bytes c
      → IsLeft before after c
  left_by_failed before after frame bytes c left same has = inr
      (same_diary before.diary after.diary (Some frame) after.loose c left.diary left.loose
      (with_or_without before.diary frame c
      (subst (λ (x : List ℕ). WithOrWithout (contents_in before.diary) x c) same has)))

-- ---- what becomes of a frame

module _ {D : Type 0} where
  -- nothing changed
  pub as_before : (before after : WrittenRecord D) → IsRead before → after.diary ≡ before.diary
      → after.loose ≡ before.loose → after.unread ≡ before.unread → after.journal ≡ before.journal
      → IsAsBefore before after
  as_before before after is diary loose unread journal = record {
    diary = diary;
    journal = journal;
    read = record {
      read = unread ∙ is.read;
      nothing_loose = loose ∙ is.nothing_loose;
      journal_read = ap (λ (j : JournalRecord D). j.loose) journal ∙ is.journal_read;
      end = ap (λ (j : JournalRecord D). j.end) journal
          ∙ (is.end ∙ ap (λ (d : List Frame). length (front_of (contents_in d))) (sym diary));
    };
  }

  -- there is no room for it
  pub too_long : (before : WrittenRecord D) (frame : Frame) (bytes : List ℕ) → IsRead before
      → bytes ≡ frame_bytes frame → room_for (is_settling frame) < before.journal.end + 6 + length bytes
      → IsTooLong before.diary frame
  too_long before frame bytes is same long =
      omega (arith, longer_by before.diary frame before.journal.end is.end, ap length same, long)

  -- there is room for it
  pub room_behind : (before : WrittenRecord D) (frame : Frame) (bytes : List ℕ) → IsRead before
      → bytes ≡ frame_bytes frame → (room_for (is_settling frame) < before.journal.end + 6 + length bytes → ⊥)
      → Fits before.diary frame
  room_behind before frame bytes is same room =
      let long = longer_by before.diary frame before.journal.end is.end in
      let size : length bytes ≡ length (frame_bytes frame) = ap length same in
      omega (arith, long, size, room)

  -- nothing was written
  pub refused : (before after : WrittenRecord D) (frame : Frame) (cause : Unwritten) → IsAsBefore before after
      → IsRead before → (cause ≡ why.Full → 16777216 < length (frame_bytes frame)) → (cause ≡ why.Disk → ⊥)
      → IsWritten before frame after (Err cause)
  refused before after frame why.Full same is full disk =
      let long : 16777216 < length (frame_bytes frame) = full refl in
      let most : room_for (is_settling frame) ≤ 16777216 = room_is_most (is_settling frame) in
      (same, too_long before frame (frame_bytes frame) is refl (omega arith))
  refused before after frame why.Disk same is full disk = absurd (disk refl)
  refused before after frame why.NoMemory same is full disk = same

  -- it was written
  pub added : (before after : WrittenRecord D) (frame : Frame) (bytes : List ℕ) → IsRead before
      → bytes ≡ frame_bytes frame → after.diary ≡ before.diary ++ frame ∷ [] → after.loose ≡ before.loose
      → after.unread ≡ before.unread → after.journal.loose ≡ false
      → after.journal.end ≡ before.journal.end + 5 + length bytes
      → (room_for (is_settling frame) < before.journal.end + 6 + length bytes → ⊥) → IsAdded before frame after
  added before after frame bytes is same diary loose unread read end room =
      let long = longer_by before.diary frame before.journal.end is.end in
      let size : length bytes ≡ length (frame_bytes frame) = ap length same in
      let last : length (front_of (contents_in after.diary))
      ≡ length (front_of (contents_in (before.diary ++ frame ∷ []))) =
      ap (λ (d : List Frame). length (front_of (contents_in d))) diary in
      record {
        diary = diary;
        fits = room_behind before frame bytes is same room;
        read = record {
          read = unread ∙ is.read;
          nothing_loose = loose ∙ is.nothing_loose;
          journal_read = read;
          end = omega (arith, long, size, last, end);
        };
      }

-- ---- the loose frame, kept or dropped

module _ (whole behind : List (List ℕ)) (diary : List Frame) (loose : Option Frame) where
  -- what is behind the diary's
  abbrev pub Stands : Type 0
  Stands = (more : List (List ℕ)) → (whole ≡ contents_in diary ++ more) ↔ (behind ≡ more)

  contents_kept : (after : List Frame) (frame : Frame) → Stands → loose ≡ Some frame
      → after ≡ diary ++ option_to_list loose → behind ≡ frame_bytes frame ∷ [] → whole ≡ contents_in after
  contents_kept after frame stands is kept_is there =
      (stands (frame_bytes frame ∷ [])).1 there
      ∙ (sym (contents_more diary frame)
      ∙ ap contents_in (sym (kept_is ∙ ap (λ (o : Option Frame). diary ++ option_to_list o) is)))

  contents_dropped : (after : List Frame) → Stands → after ≡ diary → behind ≡ [] → whole ≡ contents_in after
  contents_dropped after stands dropped not =
      (stands []).1 not ∙ (append-nil (contents_in diary) ∙ ap contents_in (sym dropped))

  alone_is : (found : List Frame) → found ≡ diary → whole ≡ contents_in found → whole ≡ contents_in diary ++ []
  alone_is found is e = e ∙ (ap contents_in is ∙ sym (append-nil (contents_in diary)))

  more_is : (found : List Frame) (frame : Frame) → found ≡ diary ++ frame ∷ [] → whole ≡ contents_in found
      → whole ≡ contents_in diary ++ frame_bytes frame ∷ []
  more_is found frame is e = e ∙ (ap contents_in is ∙ contents_more diary frame)

found_kept : (diary after : List Frame) (loose : Option Frame) (frame : Frame) → loose ≡ Some frame
    → after ≡ diary ++ option_to_list loose → IsKeptOrDropped diary loose after
found_kept diary after None frame is kept_is = cc is
found_kept diary after (Some loose) frame is kept_is = inr kept_is

found_dropped : (diary after : List Frame) (loose : Option Frame) → after ≡ diary
    → IsKeptOrDropped diary loose after
found_dropped diary after None same = same
found_dropped diary after (Some frame) same = inl same

-- whether it is there, and what becomes of it
pub record IsSettled (whole behind : List (List ℕ)) (diary : List Frame) (loose : Option Frame) (there : Bool)
    (after : List Frame) : Type 0 where
  pub stands : Stands whole behind diary loose
  pub is : there ≡ true → (frame : Frame) × (loose ≡ Some frame) × (behind ≡ frame_bytes frame ∷ [])
  pub not : there ≡ false → behind ≡ []
  pub kept : there ≡ true → after ≡ diary ++ option_to_list loose
  pub dropped : there ≡ false → after ≡ diary

pub settled_contents : (whole behind : List (List ℕ)) (diary : List Frame) (loose : Option Frame) (there : Bool)
    (after : List Frame) → IsSettled whole behind diary loose there after → whole ≡ contents_in after
settled_contents whole behind diary loose true after s =
    let is = s.is refl in
    contents_kept whole behind diary loose after is.0 s.stands is.1 (s.kept refl) is.2
settled_contents whole behind diary loose false after s =
    contents_dropped whole behind diary loose after s.stands (s.dropped refl) (s.not refl)

pub settled_found : (whole behind : List (List ℕ)) (diary : List Frame) (loose : Option Frame) (there : Bool)
    (after : List Frame) → IsSettled whole behind diary loose there after → IsKeptOrDropped diary loose after
settled_found whole behind diary loose true after s =
    let is = s.is refl in
    found_kept diary after loose is.0 is.1 (s.kept refl)
settled_found whole behind diary loose false after s = found_dropped diary after loose (s.dropped refl)

-- the first that isn't the diary's
pub not_the_diary : (whole : List (List ℕ)) (diary found : List Frame) (loose : Option Frame)
    → ((more : List (List ℕ)) → whole ≢ contents_in diary ++ more) → IsKeptOrDropped diary loose found
    → whole ≢ contents_in found
not_the_diary whole diary found None differs is = λ e. differs [] (alone_is whole [] diary None found is e)
not_the_diary whole diary found (Some frame) differs (inl is) = λ e. differs [] (alone_is whole [] diary None found is e)
not_the_diary whole diary found (Some frame) differs (inr is) =
    λ e. differs (frame_bytes frame ∷ []) (more_is whole [] diary None found frame is e)

-- or isn't the loose one
pub not_the_loose : (whole behind : List (List ℕ)) (diary found : List Frame) (loose : Option Frame)
    → Stands whole behind diary loose → behind ≢ []
    → ((frame : Frame) → loose ≡ Some frame → behind ≢ frame_bytes frame ∷ []) → IsKeptOrDropped diary loose found
    → whole ≢ contents_in found
not_the_loose whole behind diary found None stands some other is =
    λ e. some ((stands []).0 (alone_is whole behind diary None found is e))
not_the_loose whole behind diary found (Some frame) stands some other (inl is) =
    λ e. some ((stands []).0 (alone_is whole behind diary None found is e))
not_the_loose whole behind diary found (Some frame) stands some other (inr is) =
    λ e. other frame refl ((stands (frame_bytes frame ∷ [])).0 (more_is whole behind diary None found frame is e))

-- ---- names

pub named_more : (diary : List Frame) (frame : Frame) → AreNamed diary → HasNames (kept frame)
    → AreNamed (diary ++ frame ∷ [])
named_more [] frame named name = (name, tt)
named_more (f ∷ diary) frame named name = (named.0, named_more diary frame named.1 name)

pub named_found : (diary found : List Frame) (loose : Option Frame) → IsKeptOrDropped diary loose found
    → AreNamed diary → IsNamedIfAny loose → AreNamed found
named_found diary found None is named name = subst AreNamed (sym is) named
named_found diary found (Some frame) (inl is) named name = subst AreNamed (sym is) named
named_found diary found (Some frame) (inr is) named name =
    subst AreNamed (sym is) (named_more diary frame named name)
