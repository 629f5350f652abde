-- What a shard writes of a chain whose entries were parted has what it needs, and what it answers is so.
use Rattle.std.proofs.Common.{◌≡◌, ◌⊎◌, inl, inr, ℕ, Bool, true, false, cond, List, [], ◌∷◌, Option, Some, None, refl, sym, ap, subst, ◌∙◌}
use Rattle.std.specs.Prelude.{IfSome, option_map}
use Rattle.std.specs.List.{list_any}
use Rattle.std.specs.Option.{option_to_list}
use Rattle.ebl_base.specs.Checksum.{checksum_eq}
use Rattle.ebl_base.specs.PlatformCode.{IsCode}
use Rattle.ebl_base.specs.declared.checksum.Checksum.{Checksum}
use Rattle.ebl_base.specs.declared.chain.ChainLink.{ChainLink}
use Rattle.ebl_base.specs.declared.code.Code.{Code}
use Rattle.ebl_base.specs.declared.code.Code.TheVariants as codes
use Rattle.ebl_base.specs.declared.evidence.Evidence.{Evidence}
use Rattle.ebl_base.specs.declared.platform_code.PlatformCode.{PlatformCode}
use Rattle.ebl_base.specs.declared.reason.Reason.{Reason}
use Rattle.ebl_base.specs.declared.reason.Reason.TheVariants as reasons
use Rattle.party_roster.specs.RosterRecord.{RosterRecord}
use Rattle.envelope_manifest.specs.Manifest.{IsManifest}
use Rattle.envelope_manifest.specs.declared.manifest.Manifest.{Manifest}
use Rattle.bill_chain.specs.Chain.{last_of, IsChainOfBill}
use Rattle.bill_diary.specs.declared.record.Record.{Record}
use Rattle.bill_diary.specs.declared.record.Record.TheVariants as records
use Rattle.bill_diary.specs.declared.frame.Frame.{Frame}
use Rattle.bill_diary.specs.declared.frame.Frame.TheVariants.{One, BegunTaken}
use Rattle.bill_diary.specs.declared.bill_place.BillPlace.{BillPlace}
use Rattle.bill_diary.specs.declared.bill_place.BillPlace.TheVariants.{Absent}
use Rattle.bill_diary.specs.History.{bill_of, records_of, newest_first, of_bill, history}
use Rattle.bill_diary.specs.Place.{place_of}
use Rattle.bill_diary.specs.Receiving.{takes, declines, is_taken, is_declined, continues}
use Rattle.bill_diary.specs.Sound.{IsCause}
use Rattle.transfer_judge.specs.declared.judgement.Judgement.{Judgement}
use Rattle.transfer_judge.specs.declared.judgement.Judgement.TheVariants.{Elsewhere, Duplicate, Declined, Parts, Unknown, Missing, Accept}
use Rattle.transfer_judge.specs.Judgement.{judgement_by, judgement_of}
use Rattle.platform_machine.specs.Answer.{no_evidence, reference_for, subject_of}
use Rattle.platform_machine.specs.Judged.{frame_for}
use Rattle.platform_machine.specs.Preface.{ShownRecord}
use Rattle.platform_machine.specs.Receiving.{begun_of, body_text, is_again, news_of}
use Rattle.platform_machine.proofs.JudgedLemmas.{judged_by_bill}
use Rattle.closed_family.specs.declared.family.Member.{Member}
use Rattle.closed_family.specs.Chains.{IsAmong}
use Rattle.closed_family.specs.Closed.{EveryEntryWasParted}
use Rattle.closed_family.specs.Family.{histories_of, HasDistinctNames}
use Rattle.closed_family.specs.Later.{IsLaterThan}
use Rattle.closed_family.proofs.Chains.{HasLast, from_the_end, last_of-push}
use Rattle.closed_family.proofs.Grounded.{chain_continues, parted_by_name}
use Rattle.closed_family.proofs.Names.{or_left, or_right, false_unless, not_both}
use Rattle.run_safety.specs.Network.{Network, diary_of}
use Rattle.run_safety.specs.Steady.{NeedOf, FrameIsMet, IsSteady, Rings, StandsOn, WasParted}
use Rattle.run_safety.proofs.Diaries.{own_history}
use Rattle.run_safety.proofs.Hearing.{every_last}
use Rattle.run_safety.proofs.Judging.{IsDisputed, disputed}
use Rattle.run_safety.proofs.Sound.{Grounds, stands_there, steady_closed, steady_sound}

-- a test that fails on all records fails on those of a bill
none_of_bill : (test : Record → Bool) (bill : Checksum) (rs : List Record) → list_any test rs ≡ false
    → list_any test (of_bill bill rs) ≡ false
none_of_bill test bill [] none = refl
none_of_bill test bill (r ∷ rs) none = on_test (checksum_eq (bill_of r) bill) (none_of_bill test bill rs rest)
  where
    rest : list_any test rs ≡ false
    rest = false_unless (list_any test rs) (λ some. not_both (or_right (test r) (list_any test rs) some) none)

    first : test r ≡ false
    first = false_unless (test r) (λ some. not_both (or_left (test r) (list_any test rs) some) none)

    on_test : (b : Bool) → list_any test (of_bill bill rs) ≡ false
        → list_any test (cond b (r ∷ of_bill bill rs) (of_bill bill rs)) ≡ false
    on_test true further = rw (first, further) refl
    on_test false further = further

-- what was declined for its party has one code, and no evidence
pub party_cause : (place : BillPlace) (code : Code) (reason : Reason) (evidence : Evidence)
    → reason ≡ reasons.Party → IsCause place code reason evidence
    → (code ≡ codes.BadEnvelope) × (evidence ≡ no_evidence)
party_cause place code reason evidence party cause =
    by_code code (subst (λ (q : Reason). IsCause place code q evidence) party cause)
  where
    by_code : (c : Code) → IsCause place c reasons.Party evidence → (c ≡ codes.BadEnvelope) × (evidence ≡ no_evidence)
    by_code codes.BadEnvelope is = (refl, λ i. record { own = is.1 i; theirs = is.2 i })
    by_code codes.Received is = absurd is
    by_code codes.Duplicate is = absurd is
    by_code codes.BadSignature is = absurd is
    by_code codes.InconsistentDocument is = absurd is
    by_code codes.MissingDocuments is = absurd is
    by_code codes.DisputedEnvelope is = absurd is

-- ---- at a shard

-- a shard of a steady network whose texts have distinct names
pub record IsAtShard (roster : RosterRecord) (rings : Rings) (n : Network) (p : PlatformCode) (i : ℕ) (d : List Frame)
    : Type 0 where
  pub steady : IsSteady roster rings n
  pub grounds : Grounds roster
  pub distinct : HasDistinctNames n.family
  pub code : IsCode p
  pub has_diary : diary_of n.family p i ≡ Some d

-- a later family, in which a frame stands that the shard wrote
pub record Becomes (n : Network) (p : PlatformCode) (frame : Option Frame) (after : List Member) : Type 0 where
  pub later : IsLaterThan n.family after
  pub stands : (f : Frame) → frame ≡ Some f → (r : Record) → IsAmong r (records_of f) → StandsOn after p r

-- a good chain with its manifest, each entry of which was parted
pub record IsSure (n : Network) (chain : List ChainLink) (manifest : Manifest) : Type 0 where
  pub end : ChainLink
  pub end_is : last_of chain ≡ Some end
  pub good : IsChainOfBill manifest.bill chain
  pub form : IsManifest manifest
  pub names_last : manifest.last ≡ end.name
  pub parted : EveryEntryWasParted (histories_of manifest.bill n.family) chain

-- a Begun of this chain, if there is one
abbrev pub IsBegunOf : List ChainLink → Manifest → Option Record → Type 0
IsBegunOf chain manifest None = Unit {0}
IsBegunOf chain manifest (Some r) = (body : List ℕ) × (r ≡ records.Begun manifest.bill chain manifest body)

pub is_news : (d : List Frame) (s : ShownRecord) → IsBegunOf s.chain s.manifest (news_of d s)
is_news d s = on_test (is_again (reference_for (subject_of s.manifest)) (body_text s.parts) d)
  where
    on_test : (again : Bool) → IsBegunOf s.chain s.manifest (cond again None (Some (begun_of s)))
    on_test true = tt
    on_test false = (body_text s.parts, refl)

module _ (roster : RosterRecord) (rings : Rings) (n : Network) (p : PlatformCode) (i : ℕ) (d : List Frame)
    (at : IsAtShard roster rings n p i d) where
  -- a record of the diary stands
  pub here_stands : (r : Record) → IsAmong r (newest_first d) → StandsOn n.family p r
  here_stands r among = stands_there roster rings n at.steady p i d at.has_diary r among

  pub own : (bill : Checksum) → (histories_of bill n.family p ≡ history bill d) ⊎ (history bill d ≡ [])
  own bill = own_history bill n.family p i d at.has_diary (at.steady.in_shard p i d at.has_diary)

  -- a place that isn't Absent is that on the platform
  pub own_place : (bill : Checksum) (place : BillPlace) → (place ≡ Absent → ⊥) → place_of (history bill d) ≡ place
      → place_of (histories_of bill n.family p) ≡ place
  own_place bill place some is = on_own (own bill)
    where
      on_own : (histories_of bill n.family p ≡ history bill d) ⊎ (history bill d ≡ [])
          → place_of (histories_of bill n.family p) ≡ place
      on_own (inl same) = ap place_of same ∙ is
      on_own (inr none) = absurd (some (sym is ∙ ap place_of none))

  -- ---- what is needed

  pub one_is_met : (r : Record) → NeedOf (histories_of (bill_of r) n.family) (histories_of (bill_of r) n.family p) r
      → FrameIsMet n.family p (One r)
  one_is_met r need s (inl same) =
      subst (λ (x : Record). NeedOf (histories_of (bill_of x) n.family) (histories_of (bill_of x) n.family p) x) same need
  one_is_met r need s (inr no_more) = absurd no_more

  module _ (chain : List ChainLink) (manifest : Manifest) (sure : IsSure n chain manifest) where
    -- the judgement, by the bill of the manifest
    pub by_bill : (J : Judgement) → judgement_by roster p (newest_first d) chain manifest ≡ J
        → judgement_of roster p manifest.bill (newest_first d) chain manifest ≡ J
    by_bill J is =
        sym (judged_by_bill roster p (newest_first d) manifest.bill chain manifest sure.end sure.good sure.end_is) ∙ is

    -- such a chain is never disputed
    pub not_disputed : (evidence : Evidence)
        → judgement_by roster p (newest_first d) chain manifest ≡ Parts evidence → ⊥
    not_disputed evidence is = on_own (own manifest.bill)
      where
        x : IsDisputed roster p manifest.bill (newest_first d) chain manifest sure.end sure.end_is
        x = disputed roster p manifest.bill (newest_first d) chain manifest sure.end sure.end_is evidence
            (by_bill (Parts evidence) is)

        no_way : true ≡ false → ⊥
        no_way e = cc e

        on_own : (histories_of manifest.bill n.family p ≡ history manifest.bill d) ⊎ (history manifest.bill d ≡ []) → ⊥
        on_own (inr none) = no_way (sym (ap (λ (h : List Record). continues (place_of h) chain) none) ∙ x.parts)
        on_own (inl same) =
            no_way
            (sym (chain_continues n.family (steady_sound roster rings n at.steady at.grounds.one_signer)
            (steady_closed roster rings n at.steady) at.distinct manifest.bill chain sure.end p sure.good sure.parted
            sure.end_is x.here
            (subst (λ (h : List Record). is_taken sure.end.name h ≡ false) (sym same)
            (none_of_bill (takes sure.end.name) manifest.bill (newest_first d) x.not_taken))
            (subst (λ (h : List Record). is_declined sure.end.name h ≡ false) (sym same)
            (none_of_bill (declines sure.end.name) manifest.bill (newest_first d) x.not_declined_before)))
            ∙ ap (λ (h : List Record). continues (place_of h) chain) same ∙ x.parts)

    last_was_parted : WasParted (histories_of manifest.bill n.family) manifest.last
    last_was_parted = on_end (from_the_end chain)
      where
        on_end : (chain ≡ []) ⊎ HasLast chain → WasParted (histories_of manifest.bill n.family) manifest.last
        on_end (inl none) = let two = sym sure.end_is ∙ ap last_of none in cc two
        on_end (inr l) =
            let lasts = sym (last_of-push l.front l.last) ∙ ap last_of (sym l.parts) ∙ sure.end_is in
            let same : l.last ≡ sure.end = cc lasts in
            subst (WasParted (histories_of manifest.bill n.family))
            (ap (λ (x : ChainLink). x.name) same ∙ sym sure.names_last) (
              l.last.entry.platform,
              parted_by_name l.last (histories_of manifest.bill n.family l.last.entry.platform)
                  (every_last (histories_of manifest.bill n.family) l.front l.last
                  (subst (EveryEntryWasParted (histories_of manifest.bill n.family)) l.parts sure.parted)),
            )

    begun_is_met : (r : Record) → IsBegunOf chain manifest (Some r) → FrameIsMet n.family p (One r)
    begun_is_met r (body, is) =
        one_is_met r
        (subst (λ (x : Record). NeedOf (histories_of (bill_of x) n.family) (histories_of (bill_of x) n.family p) x)
        (sym is) sure.parted)

    -- the Taken in the frame of a Begun
    pub taken_there : (body : List ℕ)
        → records_of (BegunTaken (records.Begun manifest.bill chain manifest body))
        ≡ records.Begun manifest.bill chain manifest body ∷ records.Taken manifest.bill manifest.last ∷ []
    taken_there body =
        ap (λ (o : Option ChainLink). records.Begun manifest.bill chain manifest body
        ∷ option_to_list (option_map (λ (link : ChainLink). records.Taken manifest.bill link.name) o)) sure.end_is
        ∙ ap (λ (name : Checksum). records.Begun manifest.bill chain manifest body ∷ records.Taken manifest.bill name ∷ [])
        (sym sure.names_last)

    both_are_met : (r : Record) → IsBegunOf chain manifest (Some r) → FrameIsMet n.family p (BegunTaken r)
    both_are_met r (body, is) s among =
        on_place (subst (IsAmong s)
        (ap (λ (x : Record). records_of (BegunTaken x)) is ∙ taken_there body) among)
      where
        on_place : IsAmong s (records.Begun manifest.bill chain manifest body
            ∷ records.Taken manifest.bill manifest.last ∷ [])
            → NeedOf (histories_of (bill_of s) n.family) (histories_of (bill_of s) n.family p) s
        on_place (inl same) =
            subst (λ (x : Record). NeedOf (histories_of (bill_of x) n.family) (histories_of (bill_of x) n.family p) x) same
            sure.parted
        on_place (inr (inl same)) =
            subst (λ (x : Record). NeedOf (histories_of (bill_of x) n.family) (histories_of (bill_of x) n.family p) x) same
            tt
        on_place (inr (inr no_more)) = absurd no_more

    -- what is written of a judgement has what it needs
    pub judged_is_met : (begun : Option Record) → IsBegunOf chain manifest begun → (J : Judgement)
        → judgement_by roster p (newest_first d) chain manifest ≡ J
        → IfSome (frame_for begun (subject_of manifest) J) (FrameIsMet n.family p)
    judged_is_met begun is_of (Parts evidence) is = absurd (not_disputed evidence is)
    judged_is_met begun is_of Unknown is =
        one_is_met (records.Declined manifest.bill manifest.last codes.BadEnvelope reasons.Party no_evidence)
        (refl, last_was_parted)
    judged_is_met None is_of (Missing checksums) is = tt
    judged_is_met (Some r) is_of (Missing checksums) is = begun_is_met r is_of
    judged_is_met None is_of Accept is = one_is_met (records.Taken manifest.bill manifest.last) tt
    judged_is_met (Some r) is_of Accept is = both_are_met r is_of
    judged_is_met begun is_of Elsewhere is = tt
    judged_is_met begun is_of Duplicate is = tt
    judged_is_met begun is_of (Declined code reason evidence) is = tt
