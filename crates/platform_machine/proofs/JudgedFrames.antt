-- What a start and a finish write may follow a legal diary.
use Rattle.std.proofs.Common.{◌≡◌, ℕ, Bool, true, false, cond, List, ◌∷◌, Option, Some, None, refl, ap, sym, subst, ◌∙◌}
use Rattle.std.specs.Prelude.{bytes_eq, option_map}
use Rattle.std.specs.Option.{option_map_or, option_to_list}
use Rattle.std.proofs.lemmas.Slice.Eq.{bytes_eq-Decides}
use Rattle.ebl_base.specs.Reference.{reference_of}
use Rattle.ebl_base.specs.declared.checksum.Checksum.{Checksum}
use Rattle.ebl_base.specs.declared.chain.ChainLink.{ChainLink}
use Rattle.ebl_base.specs.declared.code.Code.TheVariants as codes
use Rattle.ebl_base.specs.declared.evidence.Evidence.{Evidence}
use Rattle.ebl_base.specs.declared.platform_code.PlatformCode.{PlatformCode}
use Rattle.ebl_base.specs.declared.reason.Reason.TheVariants as reasons
use Rattle.ebl_base.specs.declared.reference.Reference.{Reference}
use Rattle.signed_envelope.specs.KeyRing.{Keys}
use Rattle.party_roster.specs.RosterRecord.{RosterRecord}
use Rattle.envelope_manifest.specs.declared.manifest.Manifest.{Manifest}
use Rattle.bill_chain.specs.Chain.{last_of, IsChainOfBill}
use Rattle.bill_diary.specs.declared.record.Record.{Record}
use Rattle.bill_diary.specs.declared.record.Record.TheVariants as records
use Rattle.bill_diary.specs.declared.frame.Frame.{Frame}
use Rattle.bill_diary.specs.declared.frame.Frame.TheVariants.{One}
use Rattle.bill_diary.specs.History.{newest_first, of_bill}
use Rattle.bill_diary.specs.Known.{last_begun}
use Rattle.bill_diary.specs.Receiving.{is_declined, is_taken}
use Rattle.bill_diary.specs.Sound.{IsNotAgain, IsSound, MayDecline, has_reference, last_with_reference}
use Rattle.bill_diary.proofs.ReferenceLemmas.{last_of_both}
use Rattle.transfer_judge.specs.declared.judgement.Judgement.{Judgement}
use Rattle.transfer_judge.specs.declared.judgement.Judgement.TheVariants as judgements
use Rattle.transfer_judge.specs.Judgement.{judgement_of}
use Rattle.transfer_judge.specs.Legal.{BeginsLegally, FollowEachLegally, FollowsDiaryLegally, IsLegal, IsReceivable}
use Rattle.transfer_judge.specs.Sealing.{CanBeSealed}
use Rattle.transfer_judge.proofs.BegunLemmas.{begun_changes_nothing}
use Rattle.transfer_judge.proofs.LegalLemmas.{legal_is_sound, links_are}
use Rattle.transfer_judge.proofs.SealLemmas.{judged_can_be_sealed}
use Rattle.platform_machine.specs.Preface.{ShownRecord, Shows}
use Rattle.platform_machine.specs.Answer.{no_evidence, reference_for, subject_of}
use Rattle.platform_machine.specs.Judged.{frame_for, taken_with}
use Rattle.platform_machine.specs.Receiving.{begun_of, body_text, frame_at_start, is_again, judgement_at_start, news_of}
use Rattle.platform_machine.proofs.BegunLemmas.{AreBodiesReadBack, again_is, body_is_of, not_again_is}
use Rattle.platform_machine.proofs.JudgedLemmas.{IsParts, IsUnknownParty, judged_by_bill, parts_free, parts_not_absent, reaches_place, unknown_free, unknown_not_held}

-- the frame, if there is one, may follow
abbrev pub MayFollowIfAny : RosterRecord → Keys → PlatformCode → List Frame → Option Frame → Type 0
MayFollowIfAny roster keys me diary None = Unit {0}
MayFollowIfAny roster keys me diary (Some frame) = FollowsDiaryLegally roster keys me diary frame

-- ---- what is declined for good

-- a chain of the manifest's bill whose last entry the manifest names
pub record IsNamed (chain : List ChainLink) (manifest : Manifest) : Type 0 where
  pub end : ChainLink
  pub end_is : last_of chain ≡ Some end
  pub good : IsChainOfBill manifest.bill chain
  pub names_last : manifest.last ≡ end.name

same_name : (chain : List ChainLink) (manifest : Manifest) (named : IsNamed chain manifest) (last : ChainLink)
    → last_of chain ≡ Some last → last.name ≡ manifest.last
same_name chain manifest named last is =
    let both : Some last ≡ Some named.end = sym is ∙ named.end_is in
    let same : last ≡ named.end = cc both in
    ap (λ (l : ChainLink). l.name) same ∙ sym named.names_last

-- a chain that is disputed
pub parts_may : (roster : RosterRecord) (me : PlatformCode) (all : List Record) (chain : List ChainLink)
    (manifest : Manifest) (evidence : Evidence) → IsNamed chain manifest
    → CanBeSealed (judgement_of roster me manifest.bill all chain manifest)
    → judgement_of roster me manifest.bill all chain manifest ≡ judgements.Parts evidence
    → MayDecline all (of_bill manifest.bill all) manifest.last codes.DisputedEnvelope reasons.Parts evidence
parts_may roster me all chain manifest evidence named fine p =
    let reached = reaches_place (IsParts evidence) (parts_free evidence) roster me manifest.bill all chain manifest p in
    let same = same_name chain manifest named reached.last reached.last_is in
    record {
      not_taken = subst (λ (n : Checksum). is_taken n all ≡ false) same reached.not_taken;
      not_declined = subst (λ (n : Checksum). is_declined n all ≡ false) same reached.not_declined;
      cause = parts_not_absent evidence roster (of_bill manifest.bill all) reached.receiver chain manifest reached.rest;
      evidence_is = subst CanBeSealed p fine;
    }

-- a party that is unknown
pub unknown_may : (roster : RosterRecord) (me : PlatformCode) (all : List Record) (chain : List ChainLink)
    (manifest : Manifest) → IsNamed chain manifest
    → judgement_of roster me manifest.bill all chain manifest ≡ judgements.Unknown
    → MayDecline all (of_bill manifest.bill all) manifest.last codes.BadEnvelope reasons.Party no_evidence
unknown_may roster me all chain manifest named p =
    let reached = reaches_place IsUnknownParty unknown_free roster me manifest.bill all chain manifest p in
    let same = same_name chain manifest named reached.last reached.last_is in
    record {
      not_taken = subst (λ (n : Checksum). is_taken n all ≡ false) same reached.not_taken;
      not_declined = subst (λ (n : Checksum). is_declined n all ≡ false) same reached.not_declined;
      cause = (unknown_not_held roster (of_bill manifest.bill all) reached.receiver chain manifest reached.rest, refl, refl);
      evidence_is = record { own = tt; theirs = tt };
    }

-- ---- what is taken

-- the last Begun of the entry came with this chain and this manifest
pub taken_may : (roster : RosterRecord) (keys : Keys) (me : PlatformCode) (diary : List Frame) (chain : List ChainLink)
    (manifest : Manifest)
    → last_begun manifest.last (of_bill manifest.bill (newest_first diary))
    ≡ Some (record { chain = chain; manifest = manifest })
    → judgement_of roster me manifest.bill (newest_first diary) chain manifest ≡ judgements.Accept
    → FollowsDiaryLegally roster keys me diary (One (records.Taken manifest.bill manifest.last))
taken_may roster keys me diary chain manifest begun_is accepted = record {
  is_frame = tt;
  records = (
    record {
      begun = record { chain = chain; manifest = manifest };
      begun_is = begun_is;
      accepted = accepted;
    },
    tt,
    tt,
  );
}

-- ---- what is begun

-- the manifest of what was shown names the last entry
named_shown : (roster : RosterRecord) (keys : Keys) (bytes : List ℕ) (s : ShownRecord) → Shows roster keys bytes s
    → IsNamed s.chain s.manifest
named_shown roster keys bytes s shows =
    let envelops = shows.shows.envelops in
    record {
      end = envelops.end;
      end_is = envelops.end_is;
      good = subst (λ (b : Checksum). IsChainOfBill b s.chain) (sym envelops.manifests.names.0) envelops.good.entries;
      names_last = envelops.manifests.names.1;
    }

begins : (roster : RosterRecord) (keys : Keys) (me : PlatformCode) (all : List Record) (bytes : List ℕ)
    (s : ShownRecord) → AreBodiesReadBack → Shows roster keys bytes s
    → IsReceivable (judgement_of roster me s.manifest.bill all s.chain s.manifest)
    → BeginsLegally roster keys me all s.manifest.bill s.chain s.manifest (body_text s.parts)
unfolding body_is_of
begins roster keys me all bytes s back shows welcome =
    let envelops = shows.shows.envelops in
    record {
      body_is = body_is_of roster keys bytes s back shows;
      good = envelops.good;
      last = envelops.end;
      last_is = envelops.end_is;
      manifest_signed = (envelops.manifests.payload, envelops.manifests.signed);
      manifest_form = envelops.manifests.form;
      names_bill = refl;
      names_last = envelops.manifests.names.1;
      welcome = welcome;
    }

not_again : (diary : List Frame) (s : ShownRecord) → IsNamed s.chain s.manifest
    → is_again (reference_for (subject_of s.manifest)) (body_text s.parts) diary ≡ false
    → IsNotAgain (newest_first diary) (begun_of s)
not_again diary s named is last last_is found =
    let same : last.name ≡ s.manifest.last = same_name s.chain s.manifest named last last_is in
    not_again_is s (reference_for (subject_of s.manifest)) diary is
    (ap (λ (n : Checksum). last_with_reference (reference_of s.manifest.bill n) (newest_first diary)) (sym same) ∙ found)

-- a Begun has the reference of its manifest's names
has_its_reference : (s : ShownRecord) → IsNamed s.chain s.manifest → (all : List Record) (last : ChainLink)
    → last_of s.chain ≡ Some last
    → last_with_reference (reference_of s.manifest.bill last.name) (begun_of s ∷ all) ≡ Some (begun_of s)
has_its_reference s named all last last_is =
    let ref = reference_of s.manifest.bill last.name in
    let yes : has_reference ref (begun_of s) ≡ true =
    ap (λ (o : Option ChainLink). option_map_or (λ (link : ChainLink). bytes_eq (reference_of s.manifest.bill link.name).0 ref.0) o false) last_is
    ∙ (bytes_eq-Decides ref.0 ref.0).1 refl in
    ap (λ (b : Bool). cond b (Some (begun_of s)) (last_with_reference ref all)) yes

-- ---- a start

pub start_may : (roster : RosterRecord) (keys : Keys) (me : PlatformCode) (diary : List Frame) (bytes : List ℕ)
    (s : ShownRecord) → AreBodiesReadBack → Shows roster keys bytes s → IsLegal roster keys me diary
    → MayFollowIfAny roster keys me diary (frame_at_start diary s (judgement_at_start roster me diary s))
start_may roster keys me diary bytes s back shows legal =
    on_judgement (judgement_at_start roster me diary s) refl
  where
    all : List Record
    all = newest_first diary

    named : IsNamed s.chain s.manifest
    named = named_shown roster keys bytes s shows

    sound : IsSound me diary
    sound = legal_is_sound roster keys me diary legal

    fine : CanBeSealed (judgement_of roster me s.manifest.bill (newest_first diary) s.chain s.manifest)
    fine =
        judged_can_be_sealed roster me s.manifest.bill (newest_first diary) s.chain s.manifest sound.records
        (links_are keys s.parts.chain s.chain shows.shows.envelops.good.links)
        shows.shows.envelops.manifests.form.documents.count

    by_bill : (j : Judgement) → judgement_at_start roster me diary s ≡ j
        → judgement_of roster me s.manifest.bill (newest_first diary) s.chain s.manifest ≡ j
    by_bill j is =
        sym (judged_by_bill roster me (newest_first diary) s.manifest.bill s.chain s.manifest named.end named.good named.end_is)
        ∙ is

    begun_may : (j : Judgement) → judgement_at_start roster me diary s ≡ j → IsReceivable j
        → BeginsLegally roster keys me (newest_first diary) s.manifest.bill s.chain s.manifest (body_text s.parts)
    begun_may j is welcome =
        begins roster keys me (newest_first diary) bytes s back shows
        (subst IsReceivable (sym (by_bill j is)) welcome)

    on_missing_news : (checksums : List Checksum) → judgement_at_start roster me diary s ≡ judgements.Missing checksums
        → (b : Bool) → is_again (reference_for (subject_of s.manifest)) (body_text s.parts) diary ≡ b
        → MayFollowIfAny roster keys me diary (option_map One (cond b None (Some (begun_of s))))
    on_missing_news checksums is true again = tt
    on_missing_news checksums is false again = record {
      is_frame = tt;
      records = (begun_may (judgements.Missing checksums) is tt, not_again diary s named again, tt);
    }

    on_accept_news : judgement_at_start roster me diary s ≡ judgements.Accept
        → (b : Bool) → is_again (reference_for (subject_of s.manifest)) (body_text s.parts) diary ≡ b
        → FollowsDiaryLegally roster keys me diary (taken_with (cond b None (Some (begun_of s))) (subject_of s.manifest))
    on_accept_news is true again =
        let last = named.end in
        let ref_same : reference_for (subject_of s.manifest) ≡ reference_of s.manifest.bill last.name =
        ap (reference_of s.manifest.bill) named.names_last in
        let found : last_with_reference (reference_of s.manifest.bill last.name) (newest_first diary) ≡ Some (begun_of s) =
        ap (λ (r : Reference). last_with_reference r (newest_first diary)) (sym ref_same)
        ∙ again_is roster keys me bytes s (reference_for (subject_of s.manifest)) diary back shows sound again in
        let begun_is : last_begun last.name (of_bill s.manifest.bill (newest_first diary))
        ≡ Some (record { chain = s.chain; manifest = s.manifest }) =
        last_of_both (newest_first diary) s.manifest.bill s.chain s.manifest (body_text s.parts) last named.end_is found in
        taken_may roster keys me diary s.chain s.manifest
        (ap (λ (n : Checksum). last_begun n (of_bill s.manifest.bill (newest_first diary))) named.names_last ∙ begun_is)
        (by_bill judgements.Accept is)
    on_accept_news is false again =
        let last = named.end in
        let before = newest_first diary in
        let begun_is : last_begun last.name (of_bill s.manifest.bill (begun_of s ∷ before))
        ≡ Some (record { chain = s.chain; manifest = s.manifest }) =
        last_of_both (begun_of s ∷ before) s.manifest.bill s.chain s.manifest (body_text s.parts) last named.end_is
        (has_its_reference s named before last named.end_is) in
        let accepted : judgement_of roster me s.manifest.bill (begun_of s ∷ before) s.chain s.manifest ≡ judgements.Accept =
        begun_changes_nothing roster me s.manifest.bill before s.chain s.manifest s.manifest.bill s.chain s.manifest (body_text s.parts)
        ∙ by_bill judgements.Accept is in
        let P : Option ChainLink → Type 0 =
        λ o. FollowEachLegally roster keys me before
        (begun_of s ∷ option_to_list (option_map (λ (link : ChainLink). records.Taken s.manifest.bill link.name) o)) in
        record {
          is_frame = tt;
          records = subst P (sym named.end_is) (
            begun_may judgements.Accept is tt,
            not_again diary s named again,
            (
              record {
                begun = record { chain = s.chain; manifest = s.manifest };
                begun_is = begun_is;
                accepted = accepted;
              },
              tt,
              tt,
            ),
          );
        }

    on_judgement : (j : Judgement) → judgement_at_start roster me diary s ≡ j
        → MayFollowIfAny roster keys me diary (frame_for (news_of diary s) (subject_of s.manifest) j)
    on_judgement judgements.Elsewhere is = tt
    on_judgement judgements.Duplicate is = tt
    on_judgement (judgements.Declined code reason evidence) is = tt
    on_judgement (judgements.Parts evidence) is = record {
      is_frame = tt;
      records = (
        parts_may roster me (newest_first diary) s.chain s.manifest evidence named fine
            (by_bill (judgements.Parts evidence) is),
        tt,
        tt,
      );
    }
    on_judgement judgements.Unknown is = record {
      is_frame = tt;
      records = (unknown_may roster me (newest_first diary) s.chain s.manifest named (by_bill judgements.Unknown is), tt, tt);
    }
    on_judgement (judgements.Missing checksums) is =
        on_missing_news checksums is (is_again (reference_for (subject_of s.manifest)) (body_text s.parts) diary) refl
    on_judgement judgements.Accept is =
        on_accept_news is (is_again (reference_for (subject_of s.manifest)) (body_text s.parts) diary) refl
