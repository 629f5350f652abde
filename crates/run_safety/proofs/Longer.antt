-- What one frame more does to a family: to its diaries, its members, its histories, and the texts in it.
use Rattle.std.proofs.Common.{◌≡◌, ◌⊎◌, inl, inr, ℕ, zero, suc, Bool, true, false, cond, List, [], ◌∷◌, ◌++◌, length, Option, Some, reverse, refl, sym, ap, subst, ◌∙◌}
use Rattle.std.specs.Prelude.{option_map, slice_get}
use Rattle.std.specs.List.{flat_map}
use Rattle.std.specs.Option.{option_map_or}
use Rattle.std.proofs.lemmas.List.{append-nil, reverse-append}
use Rattle.ebl_base.specs.PlatformCode.{code_eq}
use Rattle.ebl_base.proofs.SameLemmas.{code_eq-Decides}
use Rattle.ebl_base.specs.declared.checksum.Checksum.{Checksum}
use Rattle.ebl_base.specs.declared.platform_code.PlatformCode.{PlatformCode}
use Rattle.bill_diary.specs.declared.record.Record.{Record}
use Rattle.bill_diary.specs.declared.frame.Frame.{Frame}
use Rattle.bill_diary.specs.History.{bill_of, records_of, newest_first, history}
use Rattle.bill_diary.proofs.HistoryLemmas.{history-append, newest_first-append}
use Rattle.closed_family.specs.declared.family.Member.{Member}
use Rattle.closed_family.specs.Chains.{IsAmong}
use Rattle.closed_family.specs.Family.{shard_of, histories_of, AreApart, StandsIn, IsTextIn, HasDistinctNames}
use Rattle.closed_family.specs.Later.{GoesOnTo, IsLaterThan}
use Rattle.closed_family.proofs.Records.{among_more, among_before, among_either}
use Rattle.run_safety.specs.Network.{diary_of, longer_at, longer_member, longer_family}
use Rattle.run_safety.specs.Steady.{StandsOn, IsInShard}
use Rattle.run_safety.proofs.Diaries.{IsHere, here_or_not, history_by_diary, history_there, among_own}

-- ---- the records of a frame

-- reversed lists have the same items
pub turned : {X : Type 0} (x : X) (xs : List X) → IsAmong x xs → IsAmong x (reverse xs)
turned x [] among = absurd among
turned x (y ∷ ys) (inl same) =
    subst (IsAmong x) (sym (reverse-append (y ∷ []) ys)) (among_more x (reverse ys) (y ∷ []) (inl same))
turned x (y ∷ ys) (inr later) =
    subst (IsAmong x) (sym (reverse-append (y ∷ []) ys)) (among_before x (reverse ys) (y ∷ []) (turned x ys later))

pub turned_back : {X : Type 0} (x : X) (xs : List X) → IsAmong x (reverse xs) → IsAmong x xs
turned_back x [] among = absurd among
turned_back x (y ∷ ys) among =
    on_place (among_either x (reverse ys) (y ∷ []) (subst (IsAmong x) (reverse-append (y ∷ []) ys) among))
    (turned_back x ys)
  where
    on_place : IsAmong x (reverse ys) ⊎ IsAmong x (y ∷ []) → (IsAmong x (reverse ys) → IsAmong x ys)
        → IsAmong x (y ∷ ys)
    on_place (inl before) further = inr (further before)
    on_place (inr (inl same)) further = inl same
    on_place (inr (inr no_more)) further = absurd no_more

-- the records of a frame, one after the other
one_frame_records : (frame : Frame) → flat_map records_of (frame ∷ []) ≡ records_of frame
one_frame_records frame = append-nil (records_of frame)

pub in_frame : (frame : Frame) (r : Record) → IsAmong r (newest_first (frame ∷ [])) → IsAmong r (records_of frame)
in_frame frame r among =
    subst (IsAmong r) (one_frame_records frame) (turned_back r (flat_map records_of (frame ∷ [])) among)

pub from_frame : (frame : Frame) (r : Record) → IsAmong r (records_of frame) → IsAmong r (newest_first (frame ∷ []))
from_frame frame r among =
    turned r (flat_map records_of (frame ∷ [])) (subst (IsAmong r) (sym (one_frame_records frame)) among)

-- ---- diaries

pub longer_size : (i : ℕ) (frame : Frame) (ds : List (List Frame)) → length (longer_at i frame ds) ≡ length ds
longer_size i frame [] = refl
longer_size zero frame (d ∷ ds) = refl
longer_size (suc i) frame (d ∷ ds) = ap suc (longer_size i frame ds)

longer_here : (i : ℕ) (frame : Frame) (ds : List (List Frame))
    → slice_get (longer_at i frame ds) i ≡ option_map (λ (d : List Frame). d ++ frame ∷ []) (slice_get ds i)
longer_here i frame [] = refl
longer_here zero frame (d ∷ ds) = refl
longer_here (suc i) frame (d ∷ ds) = longer_here i frame ds

longer_elsewhere : (i : ℕ) (frame : Frame) (ds : List (List Frame)) (k : ℕ) → (k ≡ i → ⊥)
    → slice_get (longer_at i frame ds) k ≡ slice_get ds k
longer_elsewhere i frame [] k other = refl
longer_elsewhere zero frame (d ∷ ds) zero other = absurd (other refl)
longer_elsewhere zero frame (d ∷ ds) (suc k) other = refl
longer_elsewhere (suc i) frame (d ∷ ds) zero other = refl
longer_elsewhere (suc i) frame (d ∷ ds) (suc k) other = longer_elsewhere i frame ds k (λ same. other (ap suc same))

-- a diary among those with a frame more: the longer one, or one as it was
longer_among : (i : ℕ) (frame : Frame) (ds : List (List Frame)) (d : List Frame) → IsAmong d ds
    → IsAmong d (longer_at i frame ds) ⊎ IsAmong (d ++ frame ∷ []) (longer_at i frame ds)
longer_among i frame [] d among = absurd among
longer_among zero frame (x ∷ xs) d (inl same) = inr (inl (ap (λ (y : List Frame). y ++ frame ∷ []) same))
longer_among zero frame (x ∷ xs) d (inr later) = inl (inr later)
longer_among (suc i) frame (x ∷ xs) d (inl same) = inl (inl same)
longer_among (suc i) frame (x ∷ xs) d (inr later) = on_rest (longer_among i frame xs d later)
  where
    on_rest : IsAmong d (longer_at i frame xs) ⊎ IsAmong (d ++ frame ∷ []) (longer_at i frame xs)
        → IsAmong d (x ∷ longer_at i frame xs) ⊎ IsAmong (d ++ frame ∷ []) (x ∷ longer_at i frame xs)
    on_rest (inl there) = inl (inr there)
    on_rest (inr there) = inr (inr there)

module _ (p : PlatformCode) (i : ℕ) (frame : Frame) where
  pub diary_here : (family : List Member)
      → diary_of (longer_family p i frame family) p i
      ≡ option_map (λ (d : List Frame). d ++ frame ∷ []) (diary_of family p i)
  diary_here [] = refl
  diary_here (m ∷ ms) = on_test (code_eq m.platform p) (diary_here ms)
    where
      on_test : (b : Bool)
          → diary_of (longer_family p i frame ms) p i
          ≡ option_map (λ (d : List Frame). d ++ frame ∷ []) (diary_of ms p i)
          → cond b (slice_get (cond b (longer_at i frame m.diaries) m.diaries) i) (diary_of (longer_family p i frame ms) p i)
          ≡ option_map (λ (d : List Frame). d ++ frame ∷ []) (cond b (slice_get m.diaries i) (diary_of ms p i))
      on_test true further = longer_here i frame m.diaries
      on_test false further = further

  pub diary_elsewhere : (family : List Member) (q : PlatformCode) (k : ℕ) → (IsHere p i q k → ⊥)
      → diary_of (longer_family p i frame family) q k ≡ diary_of family q k
  diary_elsewhere [] q k other = refl
  diary_elsewhere (m ∷ ms) q k other =
      on_test (code_eq m.platform q) (code_eq m.platform p) refl refl (diary_elsewhere ms q k other)
    where
      on_test : (b c : Bool) → code_eq m.platform q ≡ b → code_eq m.platform p ≡ c
          → diary_of (longer_family p i frame ms) q k ≡ diary_of ms q k
          → cond b (slice_get (cond c (longer_at i frame m.diaries) m.diaries) k) (diary_of (longer_family p i frame ms) q k)
          ≡ cond b (slice_get m.diaries k) (diary_of ms q k)
      on_test false c at_q at_p further = further
      on_test true false at_q at_p further = refl
      on_test true true at_q at_p further =
          longer_elsewhere i frame m.diaries k
          (λ same. other (sym ((code_eq-Decides m.platform q).0 at_q) ∙ (code_eq-Decides m.platform p).0 at_p, same))

  -- ---- members

  pub from_longer : (family : List Member) (m : Member) → IsAmong m (longer_family p i frame family)
      → (n : Member) × IsAmong n family × (longer_member p i frame n ≡ m)
  from_longer [] m among = absurd among
  from_longer (n ∷ ns) m (inl same) = (n, inl refl, same)
  from_longer (n ∷ ns) m (inr later) = let (o, listed, is) = from_longer ns m later in (o, inr listed, is)

  pub to_longer : (family : List Member) (m : Member) → IsAmong m family
      → IsAmong (longer_member p i frame m) (longer_family p i frame family)
  to_longer [] m among = absurd among
  to_longer (n ∷ ns) m (inl same) = inl (ap (longer_member p i frame) same)
  to_longer (n ∷ ns) m (inr later) = inr (to_longer ns m later)

  pub longer_apart : (family : List Member) → AreApart family → AreApart (longer_family p i frame family)
  longer_apart [] apart = tt
  longer_apart (m ∷ ms) apart = (
    λ other among same.
        let (n, listed, is) = from_longer ms other among in
        apart.0 n listed (ap (λ (x : Member). x.platform) is ∙ same),
    longer_apart ms apart.1,
  )

  member_size : (m : Member) → length (longer_member p i frame m).diaries ≡ length m.diaries
  member_size m = on_test (code_eq m.platform p)
    where
      on_test : (b : Bool) → length (cond b (longer_at i frame m.diaries) m.diaries) ≡ length m.diaries
      on_test true = longer_size i frame m.diaries
      on_test false = refl

  pub longer_sixteen : (family : List Member) → ((m : Member) → IsAmong m family → length m.diaries ≡ 16)
      → (m : Member) → IsAmong m (longer_family p i frame family) → length m.diaries ≡ 16
  longer_sixteen family sixteen m among =
      let (n, listed, is) = from_longer family m among in
      ap (λ (x : Member). length x.diaries) (sym is) ∙ member_size n ∙ sixteen n listed

  -- ---- histories

  -- what a bill's history has more where the frame is
  pub history_here : (family : List Member) (bill : Checksum) (d : List Frame) → diary_of family p i ≡ Some d
      → shard_of bill ≡ i
      → histories_of bill (longer_family p i frame family) p
      ≡ history bill (frame ∷ []) ++ histories_of bill family p
  history_here family bill d is shard =
      history_there bill (longer_family p i frame family) p (d ++ frame ∷ [])
      (ap (diary_of (longer_family p i frame family) p) shard ∙ diary_here family
      ∙ ap (option_map (λ (x : List Frame). x ++ frame ∷ [])) is)
      ∙ history-append d (frame ∷ []) bill
      ∙ ap (λ (h : List Record). history bill (frame ∷ []) ++ h)
      (sym (history_there bill family p d (ap (diary_of family p) shard ∙ is)))

  pub history_elsewhere : (family : List Member) (bill : Checksum) (q : PlatformCode)
      → (IsHere p i q (shard_of bill) → ⊥)
      → histories_of bill (longer_family p i frame family) q ≡ histories_of bill family q
  history_elsewhere family bill q other =
      history_by_diary bill (longer_family p i frame family) q
      ∙ ap (λ (o : Option (List Frame)). option_map_or (history bill) o [])
      (diary_elsewhere family q (shard_of bill) other)
      ∙ sym (history_by_diary bill family q)

  -- each history goes on
  pub longer_is_later : (family : List Member) (d : List Frame) → diary_of family p i ≡ Some d
      → IsLaterThan family (longer_family p i frame family)
  longer_is_later family d is bill q = on_place (here_or_not p i q (shard_of bill))
    where
      on_place : IsHere p i q (shard_of bill) ⊎ (IsHere p i q (shard_of bill) → ⊥)
          → GoesOnTo family (longer_family p i frame family) bill q
      on_place (inl here) =
          subst (GoesOnTo family (longer_family p i frame family) bill) (sym here.0)
          (record { more = history bill (frame ∷ []); history_is = history_here family bill d is here.1 })
      on_place (inr other) = record { more = []; history_is = history_elsewhere family bill q other }

  -- what the frame has stands
  pub written_stands : (family : List Member) (d : List Frame) → diary_of family p i ≡ Some d → IsInShard i frame
      → (r : Record) → IsAmong r (records_of frame) → StandsOn (longer_family p i frame family) p r
  written_stands family d is in_shard r among =
      subst (IsAmong r) (sym (history_here family (bill_of r) d is (in_shard r among)))
      (among_before r (history (bill_of r) (frame ∷ [])) (histories_of (bill_of r) family p)
      (among_own (newest_first (frame ∷ [])) r (from_frame frame r among)))

  -- ---- texts

  record StandsLater (family : List Member) (r : Record) : Type 0 where
    member : Member
    stands : StandsIn family member r

  stands_in_later : (family : List Member) (m : Member) (r : Record) → StandsIn family m r
      → StandsLater (longer_family p i frame family) r
  stands_in_later family m r s = on_test (code_eq m.platform p) refl
    where
      listed : IsAmong (longer_member p i frame m) (longer_family p i frame family)
      listed = to_longer family m s.listed

      in_diary : (e : List Frame) → IsAmong e (longer_member p i frame m).diaries → IsAmong r (newest_first e)
          → StandsLater (longer_family p i frame family) r
      in_diary e has among = record {
        member = longer_member p i frame m;
        stands = record { listed = listed; diary = e; has_diary = has; has_record = among };
      }

      diaries_are : (b : Bool) → code_eq m.platform p ≡ b
          → cond b (longer_at i frame m.diaries) m.diaries ≡ (longer_member p i frame m).diaries
      diaries_are b is = ap (λ (x : Bool). cond x (longer_at i frame m.diaries) m.diaries) (sym is)

      on_among : IsAmong s.diary (longer_at i frame m.diaries)
          ⊎ IsAmong (s.diary ++ frame ∷ []) (longer_at i frame m.diaries) → code_eq m.platform p ≡ true
          → StandsLater (longer_family p i frame family) r
      on_among (inl there) is = in_diary s.diary (subst (IsAmong s.diary) (diaries_are true is) there) s.has_record
      on_among (inr there) is =
          in_diary (s.diary ++ frame ∷ []) (subst (IsAmong (s.diary ++ frame ∷ [])) (diaries_are true is) there)
          (subst (IsAmong r) (sym (newest_first-append s.diary (frame ∷ [])))
          (among_more r (newest_first (frame ∷ [])) (newest_first s.diary) s.has_record))

      on_test : (b : Bool) → code_eq m.platform p ≡ b → StandsLater (longer_family p i frame family) r
      on_test true is = on_among (longer_among i frame m.diaries s.diary s.has_diary) is
      on_test false is = in_diary s.diary (subst (IsAmong s.diary) (diaries_are false is) s.has_diary) s.has_record

  text_later : (family : List Member) (t : List ℕ) → IsTextIn family t → IsTextIn (longer_family p i frame family) t
  text_later family t is =
      let s = stands_in_later family is.member is.r is.stands in
      record { member = s.member; r = is.r; stands = s.stands; is_text = is.is_text }

  -- where names are distinct afterwards, they were before
  pub longer_distinct : (family : List Member) → HasDistinctNames (longer_family p i frame family)
      → HasDistinctNames family
  longer_distinct family distinct = λ s t has_s has_t names.
      distinct s t (text_later family s has_s) (text_later family t has_t) names

-- ---- later families

-- what stands goes on standing
pub stands_later : (before after : List Member) → IsLaterThan before after → (p : PlatformCode) (r : Record)
    → StandsOn before p r → StandsOn after p r
stands_later before after later p r stands =
    let on = later (bill_of r) p in
    subst (IsAmong r) (sym on.history_is) (among_more r on.more (histories_of (bill_of r) before p) stands)
