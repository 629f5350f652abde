-- Which diaries have room, and why a settlement always fits behind a legal one that has.
use Rattle.std.proofs.Common.{◌≡◌, ◌⊎◌, inl, inr, ℕ, ◌+◌, ◌*◌, ◌<◌, ◌≤◌, Bool, true, false, cond, List, [], ◌∷◌, ◌++◌, length, Option, Some, None, refl, sym, ap, ◌∙◌, subst, arith, lit≤, append_assoc, append-nil, length-append}
use Rattle.std.specs.Prelude.{count_by, option_map}
use Rattle.std.specs.List.{flat_map}
use Rattle.std.specs.Option.{option_to_list}
use Rattle.std.proofs.lemmas.List.Sums.{sum_by-cons, sum_by-append}
use Rattle.std.proofs.lemmas.List.Sorted.{sum_by-IsPermutation, IsPermutation-reverse}
use Rattle.ebl_base.specs.declared.chain.ChainLink.{ChainLink}
use Rattle.ebl_base.specs.declared.checksum.Checksum.{Checksum}
use Rattle.ebl_base.specs.declared.platform_code.PlatformCode.{PlatformCode}
use Rattle.ebl_base.specs.declared.signed_text.SignedText.{SignedText}
use Rattle.document_checksum.specs.Digest.{IsChecksum}
use Rattle.signed_envelope.specs.KeyRing.{Keys}
use Rattle.party_roster.specs.RosterRecord.{RosterRecord}
use Rattle.envelope_manifest.specs.declared.manifest.Manifest.{Manifest}
use Rattle.bill_chain.specs.Chain.{last_of}
use Rattle.bill_diary.specs.declared.record.Record.{Record}
use Rattle.bill_diary.specs.declared.record.Record.TheVariants.{Signed, Acted, Attached, Parted, Settled, Regained, Begun, Stored, Taken, Declined}
use Rattle.bill_diary.specs.declared.frame.Frame.{Frame}
use Rattle.bill_diary.specs.declared.frame.Frame.TheVariants.{One, BegunTaken}
use Rattle.bill_diary.specs.History.{history, newest_first, of_bill, records_of}
use Rattle.bill_diary.specs.Sound.{AreFrames, IsFrame, IsParting, IsSound, is_parted}
use Rattle.bill_journal.specs.Frames.{front_of}
use Rattle.bill_journal.specs.Journal.{room_for}
use Rattle.bill_journal.proofs.FrameLemmas.{length-front_of-push}
use Rattle.record_bytes.specs.Fields.{text_bytes}
use Rattle.record_bytes.specs.Grammar.{frame_bytes, record_bytes}
use Rattle.record_bytes.proofs.FieldLemmas.{length-text_bytes}
use Rattle.transfer_judge.specs.Legal.{FollowsDiaryLegally, IsLegal, PartsLegally}
use Rattle.transfer_judge.proofs.FrameLemmas.{each_follows, front_is_legal}
use Rattle.transfer_judge.proofs.LegalLemmas.{legal_is_sound}
use Rattle.journal_room.specs.Contents.{contents_in}
use Rattle.journal_room.specs.Room.{Fits, HasRoom, is_settling, journal_length}
use Rattle.journal_room.specs.Settlements.{is_settlement}
use Rattle.journal_room.proofs.PartedLengths.{parted_names, parted_texts, parting_names}
use Rattle.journal_room.proofs.SettlementLemmas.{settled_fewer}

-- ---- how long a journal is

-- the contents with one frame more
pub contents_more : (diary : List Frame) (frame : Frame)
    → contents_in (diary ++ frame ∷ []) ≡ contents_in diary ++ frame_bytes frame ∷ []
contents_more [] frame = refl
contents_more (f ∷ diary) frame = ap (λ (xs : List (List ℕ)). frame_bytes f ∷ xs) (contents_more diary frame)

-- a frame more takes its gate, its length and its content
pub length_more : (diary : List Frame) (frame : Frame)
    → journal_length (diary ++ frame ∷ []) ≡ journal_length diary + 5 + length (frame_bytes frame)
length_more diary frame =
    omega (
      arith,
      ap (λ (xs : List (List ℕ)). length (front_of xs)) (contents_more diary frame),
      length-front_of-push (contents_in diary) (frame_bytes frame),
    )

-- ---- room

-- nothing has room
pub nothing_has_room : HasRoom []
nothing_has_room = record { each = λ before behind frame parts. none before behind frame parts }
  where
    none : (before behind : List Frame) (frame : Frame) → [] ≡ before ++ frame ∷ behind → Fits before frame
    none [] behind frame parts = cc parts
    none (f ∷ before) behind frame parts = cc parts

-- a front of a diary with room has room
pub front_has_room : (diary more : List Frame) → HasRoom (diary ++ more) → HasRoom diary
front_has_room diary more has = record {
  each = λ before behind frame parts. has.each before (behind ++ more) frame
      (ap (λ (d : List Frame). d ++ more) parts ∙ append_assoc before (frame ∷ behind) more);
}

-- either the frame in the middle is the last, or it stands in front of the last
cut : (diary before behind : List Frame) (last frame : Frame) → diary ++ last ∷ [] ≡ before ++ frame ∷ behind
    → ((before ≡ diary) × (frame ≡ last)) ⊎ ((rest : List Frame) × (diary ≡ before ++ frame ∷ rest))
cut [] [] behind last frame e = let same : last ≡ frame = cc e in inl (refl, sym same)
cut [] (b ∷ []) behind last frame e = cc e
cut [] (b ∷ c ∷ before) behind last frame e = cc e
cut (d ∷ diary) [] behind last frame e = let same : d ≡ frame = cc e in inr (diary, λ i. same i ∷ diary)
cut (d ∷ diary) (b ∷ before) behind last frame e =
    let first : d ≡ b = cc e in
    let rest : diary ++ last ∷ [] ≡ before ++ frame ∷ behind = cc e in
    further first (cut diary before behind last frame rest)
  where
    further : d ≡ b
        → ((before ≡ diary) × (frame ≡ last)) ⊎ ((rest : List Frame) × (diary ≡ before ++ frame ∷ rest))
        → ((b ∷ before ≡ d ∷ diary) × (frame ≡ last))
        ⊎ ((rest : List Frame) × (d ∷ diary ≡ b ∷ before ++ frame ∷ rest))
    further first (inl (same, is)) = inl (λ i. sym first i ∷ same i, is)
    further first (inr (rest, is)) = inr (rest, λ i. first i ∷ is i)

-- a frame that fits behind a diary with room keeps it
pub one_more_has_room : (diary : List Frame) (frame : Frame) → HasRoom diary → Fits diary frame
    → HasRoom (diary ++ frame ∷ [])
one_more_has_room diary last has fits = record {
  each = λ before behind frame parts. by before behind frame (cut diary before behind last frame parts);
}
  where
    by : (before behind : List Frame) (frame : Frame)
        → ((before ≡ diary) × (frame ≡ last)) ⊎ ((rest : List Frame) × (diary ≡ before ++ frame ∷ rest))
        → Fits before frame
    by before behind frame (inl (same, is)) =
        subst (λ (d : List Frame). Fits d frame) (sym same) (subst (λ (f : Frame). Fits diary f) (sym is) fits)
    by before behind frame (inr (rest, is)) = has.each before rest frame is

-- ---- how many frames

-- a frame has a byte or more
frame_has_bytes : (frame : Frame) → 1 ≤ length (frame_bytes frame)
frame_has_bytes (One r) = omega arith
frame_has_bytes (BegunTaken begun) = omega arith

-- no room is larger than a whole journal
pub room_is_most : (settling : Bool) → room_for settling ≤ 16777216
room_is_most true = lit≤ tt
room_is_most false = lit≤ tt

-- what follows a front with six bytes a frame, and fits, takes six bytes a frame too
few_behind : (front rest : List Frame) → HasRoom (front ++ rest) → 6 * length front < journal_length front
    → journal_length front ≤ 16777216 → length (front ++ rest) < 2796203
few_behind front [] has longer most = omega (arith, ap length (append-nil front), longer, most)
few_behind front (frame ∷ rest) has longer most =
    let assoc : (front ++ frame ∷ []) ++ rest ≡ front ++ frame ∷ rest = append_assoc front (frame ∷ []) rest in
    let fits : Fits front frame = has.each front rest frame refl in
    let more = length_more front frame in
    let one = frame_has_bytes frame in
    let count = length-append front (frame ∷ []) in
    subst (λ (d : List Frame). length d < 2796203) assoc
    (few_behind (front ++ frame ∷ []) rest (subst HasRoom (sym assoc) has) (omega (arith, longer, more, one, count))
    (omega (arith, fits, room_is_most (is_settling frame))))

-- a diary with room has few frames
pub few_frames : (diary : List Frame) → HasRoom diary → length diary < 2796203
few_frames diary has = few_behind [] diary has (omega arith) (omega arith)

-- ---- settlements and other frames

-- how many bytes a frame takes
abbrev taken_by : Frame → ℕ
taken_by frame = 5 + length (frame_bytes frame)

-- how many bytes the frames take that settle nothing
abbrev taken_by_others : List Frame → ℕ
taken_by_others [] = 0
taken_by_others (f ∷ frames) = cond (is_settling f) 0 (taken_by f) + taken_by_others frames

-- how many settle, and how many part
abbrev settling_in : List Frame → ℕ
settling_in [] = 0
settling_in (f ∷ frames) = cond (is_settling f) 1 0 + settling_in frames

abbrev is_parting : Frame → Bool
is_parting (One (Parted bill link manifest manifest_text)) = true
is_parting frame = false

abbrev parting_in : List Frame → ℕ
parting_in [] = 0
parting_in (f ∷ frames) = cond (is_parting f) 1 0 + parting_in frames

-- a record of two names
named_length : (tag : ℕ) (bill entry : Checksum) → IsChecksum bill → IsChecksum entry
    → length (tag ∷ (bill.0 ++ entry.0) ++ []) ≡ 65
named_length tag bill entry b e =
    omega (arith, length-append (tag ∷ bill.0 ++ entry.0) [], length-append bill.0 entry.0, b.size, e.size)

parted_length : (bill : Checksum) (link : ChainLink) (manifest : Manifest) (signed : SignedText) → IsChecksum bill
    → 453 ≤ length link.text.0 + length signed.0
    → 490 ≤ taken_by (One (Parted bill link manifest signed))
parted_length bill link manifest signed b texts =
    omega (
      arith,
      length-append (record_bytes (Parted bill link manifest signed)) [],
      length-append bill.0 (text_bytes link.text.0 ++ text_bytes signed.0),
      b.size,
      length-append (text_bytes link.text.0) (text_bytes signed.0),
      length-text_bytes link.text.0,
      length-text_bytes signed.0,
    )

-- what a frame takes of each: a settlement 70 bytes, a Parted 490 or more
record IsCounted (frame : Frame) : Type 0 where
  settled : is_settling frame ≡ true → taken_by frame ≡ 70
  parted : is_parting frame ≡ true → (490 ≤ taken_by frame) × (is_settling frame ≡ false)

module _ (roster : RosterRecord) (keys : Keys) (me : PlatformCode) where
  counted : (front : List Frame) (frame : Frame) → IsSound me front → FollowsDiaryLegally roster keys me front frame
      → IsCounted frame
  counted front (One (Signed bill document t)) sound follows = record { settled = λ e. cc e; parted = λ e. cc e }
  counted front (One (Acted bill t)) sound follows = record { settled = λ e. cc e; parted = λ e. cc e }
  counted front (One (Attached bill piece bytes)) sound follows = record { settled = λ e. cc e; parted = λ e. cc e }
  counted front (One (Parted bill link manifest signed)) sound follows =
      let parts : PartsLegally roster keys me (of_bill bill (newest_first front)) bill link manifest signed = follows.records.0 in
      let names = parted_names me (of_bill bill (newest_first front)) bill link manifest signed parts.sound in
      record {
        settled = λ e. cc e;
        parted = λ e. (
          parted_length bill link manifest signed names.0
              (parted_texts roster keys me (of_bill bill (newest_first front)) bill link manifest signed parts),
          refl,
        );
      }
  counted front (One (Settled bill entry)) sound follows =
      let names = parting_names me bill entry (newest_first front) sound.records follows.records.0 in
      record {
        settled = λ e. omega (arith, named_length 5 bill entry names.0 names.1);
        parted = λ e. cc e;
      }
  counted front (One (Regained bill entry)) sound follows =
      let names = parting_names me bill entry (newest_first front) sound.records follows.records.0 in
      record {
        settled = λ e. omega (arith, named_length 6 bill entry names.0 names.1);
        parted = λ e. cc e;
      }
  counted front (One (Begun bill chain manifest body)) sound follows =
      record { settled = λ e. cc e; parted = λ e. cc e }
  counted front (One (Stored bill entry checksum bytes)) sound follows =
      record { settled = λ e. cc e; parted = λ e. cc e }
  counted front (One (Taken bill entry)) sound follows = record { settled = λ e. cc e; parted = λ e. cc e }
  counted front (One (Declined bill entry code reason evidence)) sound follows =
      record { settled = λ e. cc e; parted = λ e. cc e }
  counted front (BegunTaken begun) sound follows = record { settled = λ e. cc e; parted = λ e. cc e }

  -- frame by frame: what the frames take, and that of them the Parted take 490 bytes each
  record AreCounted (front rest : List Frame) : Type 0 where
    length_is : journal_length (front ++ rest) ≡ journal_length front + taken_by_others rest + 70 * settling_in rest
    parted : 490 * parting_in rest ≤ taken_by_others rest

  one_counted : (front : List Frame) (frame : Frame) (rest : List Frame) → IsCounted frame
      → AreCounted (front ++ frame ∷ []) rest → AreCounted front (frame ∷ rest)
  one_counted front frame rest is are = by (is_settling frame) (is_parting frame) refl refl
    where
      assoc : front ++ frame ∷ rest ≡ (front ++ frame ∷ []) ++ rest
      assoc = sym (append_assoc front (frame ∷ []) rest)

      by : (a b : Bool) → is_settling frame ≡ a → is_parting frame ≡ b → AreCounted front (frame ∷ rest)
      by true true e f = let clash : true ≡ false = sym e ∙ (is.parted f).1 in cc clash
      by true false e f = record {
        length_is = omega (
          arith,
          ap journal_length assoc,
          are.length_is,
          length_more front frame,
          is.settled e,
          ap {B = ℕ} (λ (b : Bool). cond b 0 (taken_by frame)) e,
          ap {B = ℕ} (λ (b : Bool). cond b 1 0) e,
        );
        parted = omega (
          arith,
          are.parted,
          ap {B = ℕ} (λ (b : Bool). cond b 0 (taken_by frame)) e,
          ap {B = ℕ} (λ (b : Bool). cond b 1 0) f,
        );
      }
      by false true e f = record {
        length_is = omega (
          arith,
          ap journal_length assoc,
          are.length_is,
          length_more front frame,
          ap {B = ℕ} (λ (b : Bool). cond b 0 (taken_by frame)) e,
          ap {B = ℕ} (λ (b : Bool). cond b 1 0) e,
        );
        parted = omega (
          arith,
          are.parted,
          (is.parted f).0,
          ap {B = ℕ} (λ (b : Bool). cond b 0 (taken_by frame)) e,
          ap {B = ℕ} (λ (b : Bool). cond b 1 0) f,
        );
      }
      by false false e f = record {
        length_is = omega (
          arith,
          ap journal_length assoc,
          are.length_is,
          length_more front frame,
          ap {B = ℕ} (λ (b : Bool). cond b 0 (taken_by frame)) e,
          ap {B = ℕ} (λ (b : Bool). cond b 1 0) e,
        );
        parted = omega (
          arith,
          are.parted,
          ap {B = ℕ} (λ (b : Bool). cond b 0 (taken_by frame)) e,
          ap {B = ℕ} (λ (b : Bool). cond b 1 0) f,
        );
      }

  all_counted : (front rest : List Frame) → IsLegal roster keys me (front ++ rest) → AreCounted front rest
  all_counted front [] legal = record {
    length_is = omega (arith, ap journal_length (append-nil front));
    parted = omega arith;
  }
  all_counted front (frame ∷ rest) legal =
      let follows = each_follows roster keys me front rest frame legal in
      let sound = legal_is_sound roster keys me front (front_is_legal roster keys me front (frame ∷ rest) legal) in
      one_counted front frame rest (counted front frame sound follows)
      (all_counted (front ++ frame ∷ []) rest
      (subst (IsLegal roster keys me) (sym (append_assoc front (frame ∷ []) rest)) legal))

-- the frames that settle nothing fit the smaller room
others_fit : (front rest : List Frame) (n : ℕ) → HasRoom (front ++ rest) → n ≤ journal_length front → n ≤ 14680064
    → n + taken_by_others rest ≤ 14680064
others_fit front [] n has least most = omega arith
others_fit front (frame ∷ rest) n has least most =
    by (is_settling frame) refl
    (λ m. others_fit (front ++ frame ∷ []) rest m (subst HasRoom (sym (append_assoc front (frame ∷ []) rest)) has))
  where
    by : (b : Bool) → is_settling frame ≡ b
        → ((m : ℕ) → m ≤ journal_length (front ++ frame ∷ []) → m ≤ 14680064 → m + taken_by_others rest ≤ 14680064)
        → n + (cond (is_settling frame) 0 (taken_by frame) + taken_by_others rest) ≤ 14680064
    by true e more =
        let longer : n ≤ journal_length (front ++ frame ∷ []) = omega (arith, length_more front frame) in
        omega (arith, more n longer most, ap {B = ℕ} (λ (b : Bool). cond b 0 (taken_by frame)) e)
    by false e more =
        let room = ap room_for e in
        let fits = has.each front rest frame refl in
        let taken = length_more front frame in
        let longer : n + taken_by frame ≤ journal_length (front ++ frame ∷ []) = omega arith in
        let within : n + taken_by frame ≤ 14680064 = omega arith in
        omega (
          arith,
          more (n + taken_by frame) longer within,
          ap {B = ℕ} (λ (b : Bool). cond b 0 (taken_by frame)) e,
        )

-- ---- records and frames

abbrev one_if : Bool → ℕ
one_if b = cond b 1 0

-- the records of a frame are counted as the frame is
abbrev CountsAs : (Record → Bool) → (Frame → Bool) → Type 0
CountsAs on_records on_frames =
    (frame : Frame) → IsFrame frame → count_by on_records (records_of frame) ≡ one_if (on_frames frame)

records_part : CountsAs is_parted is_parting
records_part (One (Signed bill document t)) is = refl
records_part (One (Acted bill t)) is = refl
records_part (One (Attached bill piece bytes)) is = refl
records_part (One (Parted bill link manifest signed)) is = refl
records_part (One (Settled bill entry)) is = refl
records_part (One (Regained bill entry)) is = refl
records_part (One (Begun bill chain manifest body)) is = refl
records_part (One (Stored bill entry checksum bytes)) is = refl
records_part (One (Taken bill entry)) is = refl
records_part (One (Declined bill entry code reason evidence)) is = refl
records_part (BegunTaken (Begun bill chain manifest body)) is = on_last (last_of chain)
  where
    on_last : (last : Option ChainLink)
        → count_by is_parted
        (Begun bill chain manifest body ∷ option_to_list (option_map (λ (link : ChainLink). Taken bill link.name) last))
        ≡ 0
    on_last None = refl
    on_last (Some link) = refl
records_part (BegunTaken r) is = absurd is

records_settle : CountsAs is_settlement is_settling
records_settle (One (Signed bill document t)) is = refl
records_settle (One (Acted bill t)) is = refl
records_settle (One (Attached bill piece bytes)) is = refl
records_settle (One (Parted bill link manifest signed)) is = refl
records_settle (One (Settled bill entry)) is = refl
records_settle (One (Regained bill entry)) is = refl
records_settle (One (Begun bill chain manifest body)) is = refl
records_settle (One (Stored bill entry checksum bytes)) is = refl
records_settle (One (Taken bill entry)) is = refl
records_settle (One (Declined bill entry code reason evidence)) is = refl
records_settle (BegunTaken (Begun bill chain manifest body)) is = on_last (last_of chain)
  where
    on_last : (last : Option ChainLink)
        → count_by is_settlement
        (Begun bill chain manifest body ∷ option_to_list (option_map (λ (link : ChainLink). Taken bill link.name) last))
        ≡ 0
    on_last None = refl
    on_last (Some link) = refl
records_settle (BegunTaken r) is = absurd is

frames_counted : (p : Record → Bool) (q : Frame → Bool) → CountsAs p q → (diary : List Frame) → AreFrames diary
    → count_by p (flat_map records_of diary) ≡ count_by q diary
frames_counted p q counts [] are = refl
frames_counted p q counts (frame ∷ diary) are =
    omega (
      arith,
      sum_by-append (λ (r : Record). one_if (p r)) (records_of frame) (flat_map records_of diary),
      counts frame are.0,
      frames_counted p q counts diary are.1,
      sum_by-cons (λ (f : Frame). one_if (q f)) frame diary,
    )

newest_counted : (p : Record → Bool) (diary : List Frame)
    → count_by p (newest_first diary) ≡ count_by p (flat_map records_of diary)
newest_counted p diary =
    sum_by-IsPermutation (λ (r : Record). one_if (p r)) (flat_map records_of diary) (newest_first diary)
    (IsPermutation-reverse (flat_map records_of diary))

parting_counted : (diary : List Frame) → parting_in diary ≡ count_by is_parting diary
parting_counted [] = refl
parting_counted (f ∷ diary) =
    omega (arith, parting_counted diary, sum_by-cons (λ (f : Frame). one_if (is_parting f)) f diary)

settling_counted : (diary : List Frame) → settling_in diary ≡ count_by is_settling diary
settling_counted [] = refl
settling_counted (f ∷ diary) =
    omega (arith, settling_counted diary, sum_by-cons (λ (f : Frame). one_if (is_settling f)) f diary)

-- ---- a settlement fits

-- which bill and which entry a settlement is of
record IsSettlementOf (frame : Frame) (diary : List Frame) : Type 0 where
  bill : Checksum
  entry : Checksum
  parting : IsParting (history bill diary) entry

settlement_of : (roster : RosterRecord) (keys : Keys) (me : PlatformCode) (diary : List Frame) (frame : Frame)
    → FollowsDiaryLegally roster keys me diary frame → is_settling frame ≡ true → IsSettlementOf frame diary
settlement_of roster keys me diary (One (Signed bill document t)) follows e = cc e
settlement_of roster keys me diary (One (Acted bill t)) follows e = cc e
settlement_of roster keys me diary (One (Attached bill piece bytes)) follows e = cc e
settlement_of roster keys me diary (One (Parted bill link manifest signed)) follows e = cc e
settlement_of roster keys me diary (One (Settled b n)) follows e =
    record { bill = b; entry = n; parting = follows.records.0 }
settlement_of roster keys me diary (One (Regained b n)) follows e =
    record { bill = b; entry = n; parting = follows.records.0 }
settlement_of roster keys me diary (One (Begun bill chain manifest body)) follows e = cc e
settlement_of roster keys me diary (One (Stored bill entry checksum bytes)) follows e = cc e
settlement_of roster keys me diary (One (Taken bill entry)) follows e = cc e
settlement_of roster keys me diary (One (Declined bill entry code reason evidence)) follows e = cc e
settlement_of roster keys me diary (BegunTaken begun) follows e = cc e

-- a settlement that may follow a legal diary with room fits behind it
pub settlement_fits : (roster : RosterRecord) (keys : Keys) (me : PlatformCode) (diary : List Frame) (frame : Frame)
    → IsLegal roster keys me diary → HasRoom diary → FollowsDiaryLegally roster keys me diary frame
    → is_settling frame ≡ true → Fits diary frame
settlement_fits roster keys me diary frame legal has follows settling =
    let sound = legal_is_sound roster keys me diary legal in
    let of = settlement_of roster keys me diary frame follows settling in
    let fewer = settled_fewer me (newest_first diary) of.bill of.entry sound.records of.parting in
    let settled = newest_counted is_settlement diary ∙ frames_counted is_settlement is_settling records_settle diary legal.frames
    ∙ sym (settling_counted diary) in
    let parted = newest_counted is_parted diary ∙ frames_counted is_parted is_parting records_part diary legal.frames
    ∙ sym (parting_counted diary) in
    let are = all_counted roster keys me [] diary legal in
    let fit : 2 + taken_by_others diary ≤ 14680064 = others_fit [] diary 2 has (omega arith) (omega arith) in
    let size = (counted roster keys me diary frame sound follows).settled settling in
    let more = length_more diary frame in
    let whole = are.length_is in
    let each = are.parted in
    let room = ap room_for settling in
    omega (arith, fewer, settled, parted, fit, size, more, whole, each, room)
