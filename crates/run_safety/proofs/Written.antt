-- A steady network stays steady where a frame is written that may be.
use Rattle.std.proofs.Common.{◌≡◌, ◌⊎◌, inl, inr, ℕ, Bool, true, false, cond, List, [], ◌∷◌, ◌++◌, Option, Some, None, reverse, refl, sym, ap, subst, ◌∙◌}
use Rattle.std.specs.Prelude.{option_map}
use Rattle.std.specs.Option.{option_to_list}
use Rattle.ebl_base.specs.Checksum.{checksum_eq}
use Rattle.ebl_base.specs.declared.checksum.Checksum.{Checksum}
use Rattle.ebl_base.specs.declared.chain.ChainLink.{ChainLink}
use Rattle.ebl_base.specs.declared.platform_code.PlatformCode.{PlatformCode}
use Rattle.party_roster.specs.RosterRecord.{RosterRecord}
use Rattle.bill_chain.specs.Chain.{last_of}
use Rattle.bill_diary.specs.declared.record.Record.{Record}
use Rattle.bill_diary.specs.declared.record.Record.TheVariants.{Signed, Acted, Attached, Parted, Settled, Regained, Begun, Stored, Taken, Declined}
use Rattle.bill_diary.specs.declared.frame.Frame.{Frame}
use Rattle.bill_diary.specs.declared.frame.Frame.TheVariants.{One, BegunTaken}
use Rattle.bill_diary.specs.History.{bill_of, newest_first, of_bill, history, taken_after}
use Rattle.bill_diary.proofs.HistoryLemmas.{newest_first-append}
use Rattle.transfer_judge.specs.Legal.{IsLegal}
use Rattle.closed_family.specs.declared.family.Member.{Member}
use Rattle.closed_family.specs.Chains.{IsAmong}
use Rattle.closed_family.specs.Closed.{Histories}
use Rattle.closed_family.specs.Family.{shard_of, histories_of, AreApart}
use Rattle.closed_family.specs.Later.{IsLaterThan}
use Rattle.closed_family.proofs.Names.{checksum_eq-same}
use Rattle.closed_family.proofs.Records.{among_either}
use Rattle.run_safety.specs.Network.{Network, Sent, diary_of, longer_family}
use Rattle.run_safety.specs.Steady.{AreMet, FrameIsMet, HasCause, IsSteady, MayBeWritten, NeedOf, Rings}
use Rattle.run_safety.proofs.Diaries.{IsHere, here_or_not}
use Rattle.run_safety.proofs.Longer.{diary_here, diary_elsewhere, from_longer, history_elsewhere, history_here, in_frame, longer_apart, longer_is_later, longer_sixteen}
use Rattle.run_safety.proofs.Needs.{Grow, need_later, met_later}

-- ---- the records of a frame

record IsTaken (r : Record) : Type 0 where
  bill : Checksum
  entry : Checksum
  is : r ≡ Taken bill entry

taken_after_is : (begun t : Record) → taken_after begun ≡ Some t → IsTaken t
taken_after_is (Begun b c m x) t is = on_last (last_of c) is
  where
    on_last : (o : Option ChainLink) → option_map (λ (link : ChainLink). Taken b link.name) o ≡ Some t → IsTaken t
    on_last None found = cc found
    on_last (Some link) found =
        let same : Taken b link.name ≡ t = cc found in record { bill = b; entry = link.name; is = sym same }
taken_after_is (Signed b x u) t is = cc is
taken_after_is (Acted b u) t is = cc is
taken_after_is (Attached b q x) t is = cc is
taken_after_is (Parted b l m x) t is = cc is
taken_after_is (Settled b e) t is = cc is
taken_after_is (Regained b e) t is = cc is
taken_after_is (Stored b e c x) t is = cc is
taken_after_is (Taken b e) t is = cc is
taken_after_is (Declined b e c q v) t is = cc is

met_cons : (at : Histories) (h : List Record) (test : Bool) (r : Record) (rs : List Record)
    → AreMet at (rs ++ h) → (test ≡ true → NeedOf at (rs ++ h) r) → AreMet at (cond test (r ∷ rs) rs ++ h)
met_cons at h true r rs met need = (need refl, met)
met_cons at h false r rs met need = met

module _ (before after : List Member) (later : IsLaterThan before after) (p : PlatformCode) (bill : Checksum) where
  grow : (b : Checksum) → Grow (histories_of b before) (histories_of b after)
  grow b q = ((later b q).more, (later b q).history_is)

  need_at : (r : Record) → checksum_eq (bill_of r) bill ≡ true
      → NeedOf (histories_of (bill_of r) before) (histories_of (bill_of r) before p) r
      → NeedOf (histories_of bill after) (histories_of bill before p) r
  need_at r is need =
      need_later (histories_of bill before) (histories_of bill after) (grow bill) (histories_of bill before p) r
      (subst (λ (b : Checksum). NeedOf (histories_of b before) (histories_of b before p) r)
      (checksum_eq-same (bill_of r) bill is) need)

  taken_need : (r : Record) → IsTaken r → (h : List Record) → NeedOf (histories_of bill after) h r
  taken_need r taken h = subst (λ (x : Record). NeedOf (histories_of bill after) h x) (sym taken.is) tt

  frame_met : (f : Frame) → FrameIsMet before p f
      → AreMet (histories_of bill after) (histories_of bill before p)
      → AreMet (histories_of bill after) (history bill (f ∷ []) ++ histories_of bill before p)
  frame_met (One r) frame met =
      met_cons (histories_of bill after) (histories_of bill before p) (checksum_eq (bill_of r) bill) r [] met
      (λ is. need_at r is (frame r (inl refl)))
  frame_met (BegunTaken begun) frame met = on_taken (taken_after begun) refl
    where
      first : AreMet (histories_of bill after)
          (cond (checksum_eq (bill_of begun) bill) (begun ∷ []) [] ++ histories_of bill before p)
      first =
          met_cons (histories_of bill after) (histories_of bill before p) (checksum_eq (bill_of begun) bill) begun [] met
          (λ is. need_at begun is (frame begun (inl refl)))

      on_taken : (o : Option Record) → taken_after begun ≡ o
          → AreMet (histories_of bill after)
          (of_bill bill (reverse (begun ∷ (option_to_list o ++ []))) ++ histories_of bill before p)
      on_taken None is = first
      on_taken (Some t) is =
          met_cons (histories_of bill after) (histories_of bill before p) (checksum_eq (bill_of t) bill) t
          (cond (checksum_eq (bill_of begun) bill) (begun ∷ []) []) first
          (λ same. taken_need t (taken_after_is begun t is)
          (cond (checksum_eq (bill_of begun) bill) (begun ∷ []) [] ++ histories_of bill before p))

-- ---- one frame more

-- a network in which a platform's shard has one frame more, no frame is loose there, and what was sent has its cause
pub record HasLonger (n after : Network) (p : PlatformCode) (i : ℕ) (frame : Frame) : Type 0 where
  pub family_is : after.family ≡ longer_family p i frame n.family
  pub loose : (q : PlatformCode) (k : ℕ) (f : Frame) → after.loose q k ≡ Some f
      → (IsHere p i q k → ⊥) × (n.loose q k ≡ Some f)
  pub caused : (s : Sent) → IsAmong s after.sent → HasCause after.family s

module _ (roster : RosterRecord) (rings : Rings) (n after : Network) (S : IsSteady roster rings n) (p : PlatformCode)
    (i : ℕ) (d : List Frame) (has : diary_of n.family p i ≡ Some d) (frame : Frame)
    (may : MayBeWritten roster rings n.family p i d frame) where
  abbrev longer : List Member
  longer = longer_family p i frame n.family

  later : IsLaterThan n.family (longer_family p i frame n.family)
  later = longer_is_later p i frame n.family d has

  the_diary : (e : List Frame) → diary_of longer p i ≡ Some e → d ++ frame ∷ [] ≡ e
  the_diary e is =
      let two = sym (diary_here p i frame n.family ∙ ap (option_map (λ (x : List Frame). x ++ frame ∷ [])) has) ∙ is in
      cc two

  legal_at : (q : PlatformCode) (k : ℕ) (e : List Frame) → diary_of longer q k ≡ Some e → IsLegal roster (rings q k) q e
  legal_at q k e is = on_place (here_or_not p i q k)
    where
      on_place : IsHere p i q k ⊎ (IsHere p i q k → ⊥) → IsLegal roster (rings q k) q e
      on_place (inl here) =
          subst (λ (x : PlatformCode). IsLegal roster (rings x k) x e) (sym here.0)
          (subst (λ (j : ℕ). IsLegal roster (rings p j) p e) (sym here.1)
          (subst (IsLegal roster (rings p i) p)
          (the_diary e (ap (λ (x : PlatformCode). diary_of longer x i) (sym here.0)
          ∙ ap (diary_of longer q) (sym here.1) ∙ is)) may.legal))
      on_place (inr other) = S.legal q k e (sym (diary_elsewhere p i frame n.family q k other) ∙ is)

  shard_at : (q : PlatformCode) (k : ℕ) (e : List Frame) → diary_of longer q k ≡ Some e
      → (r : Record) → IsAmong r (newest_first e) → shard_of (bill_of r) ≡ k
  shard_at q k e is r among = on_place (here_or_not p i q k)
    where
      on_either : IsAmong r (newest_first (frame ∷ [])) ⊎ IsAmong r (newest_first d) → shard_of (bill_of r) ≡ i
      on_either (inl new) = may.in_shard r (in_frame frame r new)
      on_either (inr old) = S.in_shard p i d has r old

      on_place : IsHere p i q k ⊎ (IsHere p i q k → ⊥) → shard_of (bill_of r) ≡ k
      on_place (inl here) =
          on_either (among_either r (newest_first (frame ∷ [])) (newest_first d)
          (subst (IsAmong r) (newest_first-append d (frame ∷ []))
          (subst (λ (x : List Frame). IsAmong r (newest_first x))
          (sym (the_diary e (ap (λ (x : PlatformCode). diary_of longer x i) (sym here.0)
          ∙ ap (diary_of longer q) (sym here.1) ∙ is))) among)))
          ∙ sym here.1
      on_place (inr other) = S.in_shard q k e (sym (diary_elsewhere p i frame n.family q k other) ∙ is) r among

  met_at : (bill : Checksum) (q : PlatformCode) → AreMet (histories_of bill longer) (histories_of bill longer q)
  met_at bill q = on_place (here_or_not p i q (shard_of bill))
    where
      old : (x : PlatformCode) → AreMet (histories_of bill longer) (histories_of bill n.family x)
      old x =
          met_later (histories_of bill n.family) (histories_of bill longer)
          (λ y. ((later bill y).more, (later bill y).history_is)) (histories_of bill n.family x) (S.met bill x)

      on_place : IsHere p i q (shard_of bill) ⊎ (IsHere p i q (shard_of bill) → ⊥)
          → AreMet (histories_of bill longer) (histories_of bill longer q)
      on_place (inl here) =
          subst (λ (x : PlatformCode). AreMet (histories_of bill longer) (histories_of bill longer x)) (sym here.0)
          (subst (AreMet (histories_of bill longer)) (sym (history_here p i frame n.family bill d has here.1))
          (frame_met n.family longer later p bill frame may.met (old p)))
      on_place (inr other) =
          subst (AreMet (histories_of bill longer)) (sym (history_elsewhere p i frame n.family bill q other)) (old q)

  -- a loose frame of another shard may still be written
  loose_still : (q : PlatformCode) (k : ℕ) (e : List Frame) (f : Frame) → (IsHere p i q k → ⊥)
      → MayBeWritten roster rings n.family q k e f → MayBeWritten roster rings longer q k e f
  loose_still q k e f other fits = record {
    legal = fits.legal;
    in_shard = fits.in_shard;
    met = λ r among.
        let bill = bill_of r in
        let same = history_elsewhere p i frame n.family bill q
        (λ here. other (here.0, sym (fits.in_shard r among) ∙ here.1)) in
        subst (λ (h : List Record). NeedOf (histories_of bill longer) h r) (sym same)
        (need_later (histories_of bill n.family) (histories_of bill longer)
        (λ y. ((later bill y).more, (later bill y).history_is)) (histories_of bill n.family q) r (fits.met r among));
  }

  pub longer_steady : HasLonger n after p i frame → IsSteady roster rings after
  longer_steady more = record {
    listed = λ m among.
        let (m0, was, is) = from_longer p i frame n.family m (subst (IsAmong m) more.family_is among) in
        subst (λ (x : PlatformCode). IsAmong x roster.platforms) (ap (λ (x : Member). x.platform) is) (S.listed m0 was);
    apart = subst AreApart (sym more.family_is) (longer_apart p i frame n.family S.apart);
    sixteen = λ m among. longer_sixteen p i frame n.family S.sixteen m (subst (IsAmong m) more.family_is among);
    legal = λ q k e is. legal_at q k e (ap (λ (f : List Member). diary_of f q k) (sym more.family_is) ∙ is);
    in_shard = λ q k e is r among.
        shard_at q k e (ap (λ (f : List Member). diary_of f q k) (sym more.family_is) ∙ is) r among;
    met = λ bill q.
        subst (λ (f : List Member). AreMet (histories_of bill f) (histories_of bill f q)) (sym more.family_is)
        (met_at bill q);
    loose = λ q k e f is was.
        let (other, loose_before) = more.loose q k f was in
        let there : diary_of n.family q k ≡ Some e
        = sym (diary_elsewhere p i frame n.family q k other)
        ∙ ap (λ (x : List Member). diary_of x q k) (sym more.family_is) ∙ is in
        subst (λ (x : List Member). MayBeWritten roster rings x q k e f) (sym more.family_is)
        (loose_still q k e f other (S.loose q k e f there loose_before));
    caused = more.caused;
  }
