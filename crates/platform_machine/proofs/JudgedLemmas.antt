-- What a judgement says of the chain that was judged.
use Rattle.std.proofs.Common.{◌≡◌, ◌≢◌, Bool, true, false, cond, List, [], ◌∷◌, ◌++◌, Option, Some, None, refl, ap, sym, subst, ◌∙◌}
use Rattle.std.specs.Option.{option_or}
use Rattle.ebl_base.specs.declared.checksum.Checksum.{Checksum}
use Rattle.ebl_base.specs.declared.chain.ChainLink.{ChainLink}
use Rattle.ebl_base.specs.declared.code.Code.{Code}
use Rattle.ebl_base.specs.declared.evidence.Evidence.{Evidence}
use Rattle.ebl_base.specs.declared.party.Party.{Party}
use Rattle.ebl_base.specs.declared.platform_code.PlatformCode.{PlatformCode}
use Rattle.ebl_base.specs.declared.reason.Reason.{Reason}
use Rattle.envelope_manifest.specs.declared.manifest.Manifest.{Manifest}
use Rattle.party_roster.specs.RosterRecord.{RosterRecord, knows}
use Rattle.bill_chain.specs.Chain.{last_of, FollowEachOther, IsChainOfBill}
use Rattle.bill_diary.specs.declared.record.Record.{Record}
use Rattle.bill_diary.specs.declared.bill_place.BillPlace.{BillPlace}
use Rattle.bill_diary.specs.declared.bill_place.BillPlace.TheVariants.{Absent, Held, Parting, Gone}
use Rattle.bill_diary.specs.History.{of_bill}
use Rattle.bill_diary.specs.Pieces.{missing_of}
use Rattle.bill_diary.specs.Place.{place_of, chain_at}
use Rattle.bill_diary.specs.Receiving.{continues, is_declined, is_taken, last_declined}
use Rattle.bill_diary.specs.Sound.{IsNotHeld}
use Rattle.transfer_judge.specs.declared.judgement.Judgement.{Judgement}
use Rattle.transfer_judge.specs.declared.judgement.Judgement.TheVariants as judgements
use Rattle.transfer_judge.specs.Dispute.{evidence_of}
use Rattle.transfer_judge.specs.Judgement.{judgement_at_place, judgement_by, judgement_of, on_dispute, on_last, on_missing, receiver_of}
use Rattle.transfer_judge.proofs.LegalLemmas.{not_declined, past_declined, past_dispute, past_here, past_last, past_taken}

-- ---- the bill of a chain

last_bill_from : (bill : Checksum) (before chain : List ChainLink) (link : ChainLink)
    → FollowEachOther bill before chain → last_of chain ≡ Some link → link.entry.bill ≡ bill
last_bill_from bill before [] link follow is = cc is
last_bill_from bill before (x ∷ xs) link follow is =
    on_rest (last_of xs) refl is (last_bill_from bill (before ++ x ∷ []) xs link follow.1)
  where
    on_rest : (o : Option ChainLink) → last_of xs ≡ o → option_or o (Some x) ≡ Some link
        → (last_of xs ≡ Some link → link.entry.bill ≡ bill) → link.entry.bill ≡ bill
    on_rest None none same further =
        let one : x ≡ link = cc same in
        subst (λ (l : ChainLink). l.entry.bill ≡ bill) one follow.0.bill_is
    on_rest (Some l) some same further = further (some ∙ same)

-- the last entry of a chain of a bill names the bill
pub last_bill : (bill : Checksum) (chain : List ChainLink) (link : ChainLink) → IsChainOfBill bill chain
    → last_of chain ≡ Some link → link.entry.bill ≡ bill
last_bill bill chain link is = last_bill_from bill [] chain link is

-- so it is judged by the records of that bill
pub judged_by_bill : (roster : RosterRecord) (me : PlatformCode) (records : List Record) (bill : Checksum)
    (chain : List ChainLink) (manifest : Manifest) (link : ChainLink) → IsChainOfBill bill chain
    → last_of chain ≡ Some link
    → judgement_by roster me records chain manifest ≡ judgement_of roster me bill records chain manifest
judged_by_bill roster me records bill chain manifest link is last =
    ap (λ (o : Option ChainLink). on_last o (λ (l : ChainLink). judgement_of roster me l.entry.bill records chain manifest)) last
    ∙ ap (λ (b : Checksum). judgement_of roster me b records chain manifest) (last_bill bill chain link is last)

-- ---- up to the place

-- the chain ends here, and its last entry was neither taken nor declined; what is left goes by the place
pub record ReachesPlace (P : Judgement → Type 0) (roster : RosterRecord) (me : PlatformCode) (bill : Checksum)
    (records : List Record) (chain : List ChainLink) (manifest : Manifest) : Type 0 where
  pub last : ChainLink
  pub last_is : last_of chain ≡ Some last
  pub receiver : Party
  pub not_taken : is_taken last.name records ≡ false
  pub not_declined : is_declined last.name records ≡ false
  pub rest : P (judgement_at_place roster (of_bill bill records) receiver chain manifest)

-- a fact that no judgement before the place has
pub record ExcludesNames (P : Judgement → Type 0) : Type 0 where
  pub elsewhere : P judgements.Elsewhere → ⊥
  pub duplicate : P judgements.Duplicate → ⊥
  pub declined : (code : Code) (reason : Reason) (evidence : Evidence) → P (judgements.Declined code reason evidence) → ⊥

pub reaches_place : (P : Judgement → Type 0) → ExcludesNames P → (roster : RosterRecord) (me : PlatformCode)
    (bill : Checksum) (records : List Record) (chain : List ChainLink) (manifest : Manifest)
    → P (judgement_of roster me bill records chain manifest) → ReachesPlace P roster me bill records chain manifest
reaches_place P free roster me bill records chain manifest p =
    let (last, last_is, p1) = past_last P free.elsewhere (last_of chain) _ p in
    let (receiver, receiver_is, here, p2) = past_here P free.elsewhere me (receiver_of chain) _ p1 in
    let (not_taken, p3) = past_taken P free.duplicate (is_taken last.name records) _ p2 in
    let (none, p4) = past_declined P free.declined (last_declined last.name records) _ p3 in
    record {
      last = last;
      last_is = last_is;
      receiver = receiver;
      not_taken = not_taken;
      not_declined = not_declined last.name records none;
      rest = p4;
    }

-- ---- at the place

abbrev pub IsParts : Evidence → Judgement → Type 0
IsParts evidence judgement = judgement ≡ judgements.Parts evidence

abbrev pub IsUnknownParty : Judgement → Type 0
IsUnknownParty judgement = judgement ≡ judgements.Unknown

pub parts_free : (evidence : Evidence) → ExcludesNames (IsParts evidence)
parts_free evidence = record {
  elsewhere = λ p. cc;
  duplicate = λ p. cc;
  declined = λ code reason other p. cc;
}

pub unknown_free : ExcludesNames IsUnknownParty
unknown_free = record {
  elsewhere = λ p. cc;
  duplicate = λ p. cc;
  declined = λ code reason other p. cc;
}

no_parts_missing : (evidence : Evidence) (checksums : List Checksum) → on_missing checksums ≡ judgements.Parts evidence → ⊥
no_parts_missing evidence [] p = cc p
no_parts_missing evidence (c ∷ cs) p = cc p

no_parts_on : (evidence : Evidence) (known : Bool) (checksums : List Checksum)
    → cond known (on_missing checksums) judgements.Unknown ≡ judgements.Parts evidence → ⊥
no_parts_on evidence true checksums p = no_parts_missing evidence checksums p
no_parts_on evidence false checksums p = cc p

-- what is disputed isn't absent
pub parts_not_absent : (evidence : Evidence) (roster : RosterRecord) (h : List Record) (receiver : Party)
    (chain : List ChainLink) (manifest : Manifest)
    → IsParts evidence (judgement_at_place roster h receiver chain manifest) → place_of h ≢ Absent
parts_not_absent evidence roster h receiver chain manifest p absent = on_goes (continues (place_of h) chain) refl p
  where
    on_goes : (goes : Bool) → continues (place_of h) chain ≡ goes
        → IsParts evidence (on_dispute (cond goes None (Some (evidence_of (chain_at (place_of h)) chain)))
        (cond (knows roster receiver) (on_missing (missing_of manifest h)) judgements.Unknown)) → ⊥
    on_goes true is q = no_parts_on evidence (knows roster receiver) (missing_of manifest h) q
    on_goes false is q =
        let yes : continues (place_of h) chain ≡ true = ap (λ (place : BillPlace). continues place chain) absent in
        let no : true ≡ false = sym yes ∙ is in
        cc no

not_held_on : (place : BillPlace) (chain : List ChainLink) → continues place chain ≡ true → IsNotHeld place
not_held_on Absent chain goes = tt
not_held_on (Held known since) chain goes = cc goes
not_held_on (Parting known link) chain goes = tt
not_held_on (Gone known) chain goes = tt

-- where a party is unknown, the bill isn't held
pub unknown_not_held : (roster : RosterRecord) (h : List Record) (receiver : Party) (chain : List ChainLink)
    (manifest : Manifest) → IsUnknownParty (judgement_at_place roster h receiver chain manifest)
    → IsNotHeld (place_of h)
unknown_not_held roster h receiver chain manifest p =
    not_held_on (place_of h) chain
    (past_dispute IsUnknownParty (λ evidence q. cc q) (continues (place_of h) chain)
    (evidence_of (chain_at (place_of h)) chain) _ p).0
