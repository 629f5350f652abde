-- What a judgement says of the diary by which it was made.
use Rattle.std.proofs.Common.{◌≡◌, Bool, true, false, cond, List, [], ◌∷◌, Option, Some, None, Ok, Err, refl, sym, ap, subst, ◌∙◌, inl, inr}
use Rattle.ebl_base.specs.Checksum.{checksum_eq}
use Rattle.ebl_base.specs.declared.checksum.Checksum.{Checksum}
use Rattle.ebl_base.specs.declared.chain.ChainLink.{ChainLink}
use Rattle.ebl_base.specs.declared.code.Code.{Code}
use Rattle.ebl_base.specs.declared.evidence.Evidence.{Evidence}
use Rattle.ebl_base.specs.declared.party.Party.{Party}
use Rattle.ebl_base.specs.declared.platform_code.PlatformCode.{PlatformCode}
use Rattle.ebl_base.specs.declared.reason.Reason.{Reason}
use Rattle.envelope_manifest.specs.declared.manifest.Manifest.{Manifest}
use Rattle.party_roster.specs.RosterRecord.{RosterRecord, knows}
use Rattle.title_fold.specs.Title.{possessor}
use Rattle.title_fold.specs.Fold.{Folded}
use Rattle.bill_chain.specs.Chain.{last_of, destination, platform_with, possessor_with, title_after_chain}
use Rattle.bill_diary.specs.declared.record.Record.{Record}
use Rattle.bill_diary.specs.declared.record.Record.TheVariants as records
use Rattle.bill_diary.specs.History.{of_bill}
use Rattle.bill_diary.specs.Place.{place_of, chain_at}
use Rattle.bill_diary.specs.Pieces.{missing_of}
use Rattle.bill_diary.specs.Receiving.{Declination, takes, continues, is_declined, is_taken, last_declined}
use Rattle.transfer_judge.specs.declared.judgement.Judgement.{Judgement}
use Rattle.transfer_judge.specs.declared.judgement.Judgement.TheVariants.{Duplicate, Declined, Parts, Unknown, Missing, Accept}
use Rattle.transfer_judge.specs.Dispute.{dispute_of, evidence_of}
use Rattle.transfer_judge.specs.Judgement.{receiver_of, on_missing, on_dispute, on_declined, on_taken, judgement_at_place, judgement_of}
use Rattle.transfer_judge.proofs.LegalLemmas.{past_last, past_here, past_taken, past_declined, past_dispute, past_receiver, not_declined}
use Rattle.closed_family.specs.Chains.{IsAmong}
use Rattle.closed_family.proofs.Names.{Passes, passing_item, checksum_eq-same}

-- ---- records of an entry

-- a Taken of the entry, of whatever bill
pub record TakenAs (entry : Checksum) (rs : List Record) : Type 0 where
  pub bill : Checksum
  pub among : IsAmong (records.Taken bill entry) rs

pub taken_as : (entry : Checksum) (rs : List Record) → is_taken entry rs ≡ true → TakenAs entry rs
taken_as entry rs is =
    let p : Passes (takes entry) rs = passing_item (takes entry) rs is in by_record p.item p.among p.passes
  where
    by_record : (x : Record) → IsAmong x rs → takes entry x ≡ true → TakenAs entry rs
    by_record (records.Taken bill other) among passes = record {
      bill = bill;
      among = subst (λ (n : Checksum). IsAmong (records.Taken bill n) rs) (checksum_eq-same other entry passes) among;
    }
    by_record (records.Signed b d t) among passes = cc passes
    by_record (records.Acted b t) among passes = cc passes
    by_record (records.Attached b q t) among passes = cc passes
    by_record (records.Parted b l m t) among passes = cc passes
    by_record (records.Settled b n) among passes = cc passes
    by_record (records.Regained b n) among passes = cc passes
    by_record (records.Begun b c m t) among passes = cc passes
    by_record (records.Stored b n c t) among passes = cc passes
    by_record (records.Declined b n c q v) among passes = cc passes

-- a Declined of the entry that says so, of whatever bill
pub record DeclinedAs (entry : Checksum) (code : Code) (reason : Reason) (evidence : Evidence) (rs : List Record)
    : Type 0 where
  pub bill : Checksum
  pub among : IsAmong (records.Declined bill entry code reason evidence) rs

declined_later : (entry : Checksum) (d : Declination) (r : Record) (rs : List Record)
    → DeclinedAs entry d.code d.reason d.evidence rs → DeclinedAs entry d.code d.reason d.evidence (r ∷ rs)
declined_later entry d r rs found = record { bill = found.bill; among = inr found.among }

declined_as : (entry : Checksum) (rs : List Record) (d : Declination) → last_declined entry rs ≡ Some d
    → DeclinedAs entry d.code d.reason d.evidence rs
declined_as entry [] d is = cc is
declined_as entry (records.Declined bill other code reason evidence ∷ rs) d is =
    on_test (checksum_eq other entry) refl (declined_as entry rs d) is
  where
    on_test : (test : Bool) → checksum_eq other entry ≡ test
        → (last_declined entry rs ≡ Some d → DeclinedAs entry d.code d.reason d.evidence rs)
        → cond test (Some (record { code = code; reason = reason; evidence = evidence })) (last_declined entry rs)
        ≡ Some d
        → DeclinedAs entry d.code d.reason d.evidence (records.Declined bill other code reason evidence ∷ rs)
    on_test true same further found =
        let one : record { code = code; reason = reason; evidence = evidence } ≡ d = cc found in
        subst (λ (x : Declination). DeclinedAs entry x.code x.reason x.evidence
        (records.Declined bill other code reason evidence ∷ rs)) one
        (record {
          bill = bill;
          among = inl (ap (λ (n : Checksum). records.Declined bill n code reason evidence)
              (checksum_eq-same other entry same));
        })
    on_test false other_name further found =
        declined_later entry d (records.Declined bill other code reason evidence) rs (further found)
declined_as entry (r ∷ rs) d is = declined_later entry d r rs (declined_as entry rs d is)

-- ---- judgements at the place

-- the last four judgements
abbrev IsAtPlace : Judgement → Type 0
IsAtPlace (Parts evidence) = Unit {0}
IsAtPlace Unknown = Unit {0}
IsAtPlace (Missing checksums) = Unit {0}
IsAtPlace Accept = Unit {0}
IsAtPlace judgement = ⊥

kind_of_missing : (checksums : List Checksum) → IsAtPlace (on_missing checksums)
kind_of_missing [] = tt
kind_of_missing (c ∷ cs) = tt

kind_of_rest : (known : Bool) (checksums : List Checksum) → IsAtPlace (cond known (on_missing checksums) Unknown)
kind_of_rest true checksums = kind_of_missing checksums
kind_of_rest false checksums = tt

kind_at_place : (o : Option Evidence) (known : Bool) (checksums : List Checksum)
    → IsAtPlace (on_dispute o (cond known (on_missing checksums) Unknown))
kind_at_place None known checksums = kind_of_rest known checksums
kind_at_place (Some evidence) known checksums = tt

at_place : (roster : RosterRecord) (h : List Record) (receiver : Party) (chain : List ChainLink) (manifest : Manifest)
    → IsAtPlace (judgement_at_place roster h receiver chain manifest)
at_place roster h receiver chain manifest =
    kind_at_place (dispute_of (place_of h) chain) (knows roster receiver) (missing_of manifest h)

never_parts : (evidence : Evidence) (known : Bool) (checksums : List Checksum)
    → cond known (on_missing checksums) Unknown ≡ Parts evidence → ⊥
never_parts evidence true [] is = cc is
never_parts evidence true (c ∷ cs) is = cc is
never_parts evidence false checksums is = cc is

-- ---- where the chain ends

destination_on : (folded : Folded) (receiver : Party) → possessor_with folded ≡ Some receiver
    → platform_with folded ≡ Some receiver.platform
destination_on (Err at) receiver is = absurd (let no_way : None ≡ Some receiver = is in cc)
destination_on (Ok None) receiver is = absurd (let no_way : None ≡ Some receiver = is in cc)
destination_on (Ok (Some title)) receiver is =
    let same : possessor title ≡ receiver = let whole : Some (possessor title) ≡ Some receiver = is in cc in
    ap (λ (party : Party). Some party.platform) same

-- ---- what each says

module _ (roster : RosterRecord) (me : PlatformCode) (bill : Checksum) (rs : List Record) (chain : List ChainLink)
    (manifest : Manifest) (end : ChainLink) (end_is : last_of chain ≡ Some end) where
  the_end : (link : ChainLink) → last_of chain ≡ Some link → link ≡ end
  the_end link is = let two = sym is ∙ end_is in cc two

  -- a duplicate was taken
  pub duplicate_taken : judgement_of roster me bill rs chain manifest ≡ Duplicate → is_taken end.name rs ≡ true
  duplicate_taken is =
      let (link, link_is, p1) = past_last Is (λ q. cc q) (last_of chain) _ is in
      let (receiver, receiver_is, here, p2) = past_here Is (λ q. cc q) me (receiver_of chain) _ p1 in
      subst (λ (l : ChainLink). is_taken l.name rs ≡ true) (the_end link link_is)
      (on_test (is_taken link.name rs) (last_declined link.name rs)
      (judgement_at_place roster (of_bill bill rs) receiver chain manifest)
      (at_place roster (of_bill bill rs) receiver chain manifest) p2)
    where
      Is : Judgement → Type 0
      Is x = x ≡ Duplicate

      on_test : (taken : Bool) (o : Option Declination) (rest : Judgement) → IsAtPlace rest
          → on_taken taken (on_declined o rest) ≡ Duplicate → taken ≡ true
      on_test true o rest kind q = refl
      on_test false None rest kind q = absurd (subst IsAtPlace q kind)
      on_test false (Some d) rest kind q = absurd (let no_way : Declined d.code d.reason d.evidence ≡ Duplicate = q in cc)

  -- what is declined was declined so
  pub declined_before : (code : Code) (reason : Reason) (evidence : Evidence)
      → judgement_of roster me bill rs chain manifest ≡ Declined code reason evidence
      → DeclinedAs end.name code reason evidence rs
  declined_before code reason evidence is =
      let (link, link_is, p1) = past_last Is (λ q. cc q) (last_of chain) _ is in
      let (receiver, receiver_is, here, p2) = past_here Is (λ q. cc q) me (receiver_of chain) _ p1 in
      let (not_taken, p3) = past_taken Is (λ q. cc q) (is_taken link.name rs) _ p2 in
      subst (λ (l : ChainLink). DeclinedAs l.name code reason evidence rs) (the_end link link_is)
      (on_found link (last_declined link.name rs) refl
      (judgement_at_place roster (of_bill bill rs) receiver chain manifest)
      (at_place roster (of_bill bill rs) receiver chain manifest) p3)
    where
      Is : Judgement → Type 0
      Is x = x ≡ Declined code reason evidence

      on_found : (link : ChainLink) (o : Option Declination) → last_declined link.name rs ≡ o → (rest : Judgement)
          → IsAtPlace rest → on_declined o rest ≡ Declined code reason evidence
          → DeclinedAs link.name code reason evidence rs
      on_found link None found rest kind q = absurd (subst IsAtPlace q kind)
      on_found link (Some d) found rest kind q =
          let whole : Declined d.code d.reason d.evidence ≡ Declined code reason evidence = q in
          let codes_are : d.code ≡ code = cc whole in
          let reasons_are : d.reason ≡ reason = cc whole in
          let evidences_are : d.evidence ≡ evidence = cc whole in
          subst (λ (c : Code). DeclinedAs link.name c reason evidence rs) codes_are
          (subst (λ (q : Reason). DeclinedAs link.name d.code q evidence rs) reasons_are
          (subst (λ (v : Evidence). DeclinedAs link.name d.code d.reason v rs) evidences_are
          (declined_as link.name rs d found)))

  -- what is disputed ends here, was neither taken nor declined, and doesn't continue the place
  pub record IsDisputed : Type 0 where
    pub here : destination chain ≡ Some me
    pub not_taken : is_taken end.name rs ≡ false
    pub not_declined_before : is_declined end.name rs ≡ false
    pub parts : continues (place_of (of_bill bill rs)) chain ≡ false

  pub disputed : (evidence : Evidence) → judgement_of roster me bill rs chain manifest ≡ Parts evidence → IsDisputed
  disputed evidence is =
      let (link, link_is, p1) = past_last Is (λ q. cc q) (last_of chain) _ is in
      let (receiver, receiver_is, here, p2) = past_here Is (λ q. cc q) me (receiver_of chain) _ p1 in
      let (not_taken, p3) = past_taken Is (λ q. cc q) (is_taken link.name rs) _ p2 in
      let (none, p4) = past_declined Is (λ c r e q. cc q) (last_declined link.name rs) _ p3 in
      let same = the_end link link_is in
      record {
        here = destination_on (title_after_chain chain) receiver receiver_is ∙ ap Some here;
        not_taken = subst (λ (l : ChainLink). is_taken l.name rs ≡ false) same not_taken;
        not_declined_before = subst (λ (l : ChainLink). is_declined l.name rs ≡ false) same
            (not_declined link.name rs none);
        parts = on_goes (continues (place_of (of_bill bill rs)) chain)
            (evidence_of (chain_at (place_of (of_bill bill rs))) chain) (knows roster receiver)
            (missing_of manifest (of_bill bill rs)) p4;
      }
    where
      Is : Judgement → Type 0
      Is x = x ≡ Parts evidence

      on_goes : (goes : Bool) (shown : Evidence) (known : Bool) (checksums : List Checksum)
          → on_dispute (cond goes None (Some shown)) (cond known (on_missing checksums) Unknown) ≡ Parts evidence
          → goes ≡ false
      on_goes true shown known checksums q = absurd (never_parts evidence known checksums q)
      on_goes false shown known checksums q = refl

  -- what is missing are documents of the manifest
  pub missing_listed : (checksums : List Checksum) → judgement_of roster me bill rs chain manifest ≡ Missing checksums
      → missing_of manifest (of_bill bill rs) ≡ checksums
  missing_listed checksums is =
      let (link, link_is, p1) = past_last Is (λ q. cc q) (last_of chain) _ is in
      let (receiver, receiver_is, here, p2) = past_here Is (λ q. cc q) me (receiver_of chain) _ p1 in
      let (not_taken, p3) = past_taken Is (λ q. cc q) (is_taken link.name rs) _ p2 in
      let (none, p4) = past_declined Is (λ c r e q. cc q) (last_declined link.name rs) _ p3 in
      let (goes, p5) = past_dispute Is (λ e q. cc q) (continues (place_of (of_bill bill rs)) chain)
      (evidence_of (chain_at (place_of (of_bill bill rs))) chain) _ p4 in
      let (known, p6) = past_receiver Is (λ q. cc q) (knows roster receiver) _ p5 in
      on_rest (missing_of manifest (of_bill bill rs)) p6
    where
      Is : Judgement → Type 0
      Is x = x ≡ Missing checksums

      on_rest : (cs : List Checksum) → on_missing cs ≡ Missing checksums → cs ≡ checksums
      on_rest [] q = absurd (let no_way : Accept ≡ Missing checksums = q in cc)
      on_rest (c ∷ cs) q = let whole : Missing (c ∷ cs) ≡ Missing checksums = q in cc whole
