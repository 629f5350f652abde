-- Whatever is judged by a sound diary can be sealed.
use Rattle.std.proofs.Common.{◌≡◌, ℕ, zero, suc, ◌≤◌, Bool, true, false, not, cond, List, [], ◌∷◌, length, map, filter, Option, Some, None, refl, subst, arith}
use Rattle.std.specs.Prelude.{IfSome, option_map, slice_get}
use Rattle.std.specs.Option.{option_or}
use Rattle.ebl_base.specs.Checksum.{checksum_eq}
use Rattle.ebl_base.specs.PlatformCode.{code_eq}
use Rattle.ebl_base.specs.declared.chain.ChainLink.{ChainLink}
use Rattle.ebl_base.specs.declared.checksum.Checksum.{Checksum}
use Rattle.ebl_base.specs.declared.evidence.Evidence.{Evidence}
use Rattle.ebl_base.specs.declared.party.Party.{Party}
use Rattle.ebl_base.specs.declared.platform_code.PlatformCode.{PlatformCode}
use Rattle.envelope_manifest.specs.declared.manifest.Manifest.{Manifest}
use Rattle.envelope_manifest.specs.declared.piece.Piece.{Piece}
use Rattle.party_roster.specs.RosterRecord.{RosterRecord, knows}
use Rattle.bill_chain.specs.Chain.{common_front, last_of}
use Rattle.bill_diary.specs.declared.record.Record.{Record}
use Rattle.bill_diary.specs.declared.record.Record.TheVariants.{Signed, Acted, Attached, Parted, Settled, Regained, Begun, Stored, Taken, Declined}
use Rattle.bill_diary.specs.History.{of_bill}
use Rattle.bill_diary.specs.Pieces.{is_there, missing_of}
use Rattle.bill_diary.specs.Place.{place_of, chain_at}
use Rattle.bill_diary.specs.Receiving.{is_taken, last_declined, continues}
use Rattle.bill_diary.specs.Sound.{AreSound}
use Rattle.bill_diary.specs.Texts.{LinkIsItsText, LinksAreTheirTexts, IsCompactText, AreCompact}
use Rattle.bill_diary.proofs.HistoryLemmas.{sound_alone}
use Rattle.bill_diary.proofs.TextLemmas.{chain_at_texts}
use Rattle.transfer_judge.specs.declared.judgement.Judgement.{Judgement}
use Rattle.transfer_judge.specs.declared.judgement.Judgement.TheVariants as judgements
use Rattle.transfer_judge.specs.Dispute.{text_at, evidence_of}
use Rattle.transfer_judge.specs.Judgement.{receiver_of, on_missing, on_dispute, on_declined, on_receiver_here, on_last, judgement_here, judgement_at_place, judgement_of}
use Rattle.transfer_judge.specs.Sealing.{CanBeSealed}

-- ---- texts of links

compact_is : (link : ChainLink) → LinkIsItsText link → IsCompactText link.text
compact_is link is = (is.has_payload.parts, is.has_payload.compact)

last_is : (o : Option ChainLink) (x : ChainLink) → ((l : ChainLink) → o ≡ Some l → LinkIsItsText l) → LinkIsItsText x
    → (l : ChainLink) → option_or o (Some x) ≡ Some l → LinkIsItsText l
last_is None x rest is l same = let one : x ≡ l = cc same in subst LinkIsItsText one is
last_is (Some k) x rest is l same = rest l same

last_text : (chain : List ChainLink) → LinksAreTheirTexts chain → (l : ChainLink) → last_of chain ≡ Some l → LinkIsItsText l
last_text [] are l same = cc same
last_text (x ∷ xs) are l same = last_is (last_of xs) x (last_text xs are.1) are.0 l same

get_text : (chain : List ChainLink) (k : ℕ) → LinksAreTheirTexts chain → (l : ChainLink) → slice_get chain k ≡ Some l
    → LinkIsItsText l
get_text [] k are l same = cc same
get_text (x ∷ xs) zero are l same = let one : x ≡ l = cc same in subst LinkIsItsText one are.0
get_text (x ∷ xs) (suc k) are l same = get_text xs k are.1 l same

either_text : (a b : Option ChainLink) → ((l : ChainLink) → a ≡ Some l → LinkIsItsText l)
    → ((l : ChainLink) → b ≡ Some l → LinkIsItsText l)
    → IfSome (option_map (λ (link : ChainLink). link.text) (option_or a b)) IsCompactText
either_text (Some l) b first second = compact_is l (first l refl)
either_text None (Some l) first second = compact_is l (second l refl)
either_text None None first second = tt

text_is : (k : ℕ) (chain : List ChainLink) → LinksAreTheirTexts chain → IfSome (text_at k chain) IsCompactText
text_is k chain are = either_text (slice_get chain k) (last_of chain) (get_text chain k are) (last_text chain are)

-- ---- each case

fine_missing : (checksums : List Checksum) → length checksums ≤ 16 → CanBeSealed (on_missing checksums)
fine_missing [] few = tt
fine_missing (c ∷ cs) few = few

fine_receiver : (known : Bool) (rest : Judgement) → CanBeSealed rest → CanBeSealed (cond known rest judgements.Unknown)
fine_receiver true rest fine = fine
fine_receiver false rest fine = tt

fine_dispute : (goes : Bool) (evidence : Evidence) (rest : Judgement) → AreCompact evidence → CanBeSealed rest
    → CanBeSealed (on_dispute (cond goes None (Some evidence)) rest)
fine_dispute true evidence rest are fine = fine
fine_dispute false evidence rest are fine = are

fine_declined : (me : PlatformCode) (entry : Checksum) (records : List Record) (rest : Judgement)
    → AreSound me records → CanBeSealed rest → CanBeSealed (on_declined (last_declined entry records) rest)
fine_declined me entry [] rest sound fine = fine
fine_declined me entry (Declined b e c r v ∷ records) rest sound fine =
    on_test (checksum_eq e entry) (fine_declined me entry records rest sound.2 fine)
  where
    on_test : (b : Bool) → CanBeSealed (on_declined (last_declined entry records) rest)
        → CanBeSealed
        (on_declined (cond b (Some (record { code = c; reason = r; evidence = v })) (last_declined entry records)) rest)
    on_test true later = sound.0.evidence_is
    on_test false later = later
fine_declined me entry (Signed b x t ∷ records) rest sound fine = fine_declined me entry records rest sound.2 fine
fine_declined me entry (Acted b t ∷ records) rest sound fine = fine_declined me entry records rest sound.2 fine
fine_declined me entry (Attached b q t ∷ records) rest sound fine = fine_declined me entry records rest sound.2 fine
fine_declined me entry (Parted b l m t ∷ records) rest sound fine = fine_declined me entry records rest sound.2 fine
fine_declined me entry (Settled b e ∷ records) rest sound fine = fine_declined me entry records rest sound.2 fine
fine_declined me entry (Regained b e ∷ records) rest sound fine = fine_declined me entry records rest sound.2 fine
fine_declined me entry (Begun b c m t ∷ records) rest sound fine = fine_declined me entry records rest sound.2 fine
fine_declined me entry (Stored b e c t ∷ records) rest sound fine = fine_declined me entry records rest sound.2 fine
fine_declined me entry (Taken b e ∷ records) rest sound fine = fine_declined me entry records rest sound.2 fine

fine_taken : (taken : Bool) (rest : Judgement) → CanBeSealed rest → CanBeSealed (cond taken judgements.Duplicate rest)
fine_taken true rest fine = tt
fine_taken false rest fine = fine

fine_here : (me : PlatformCode) (o : Option Party) (rest : Party → Judgement)
    → ((p : Party) → CanBeSealed (rest p)) → CanBeSealed (on_receiver_here me o rest)
fine_here me None rest fine = tt
fine_here me (Some p) rest fine = on_test (code_eq p.platform me)
  where
    on_test : (b : Bool) → CanBeSealed (cond b (rest p) judgements.Elsewhere)
    on_test true = fine p
    on_test false = tt

fine_last : (o : Option ChainLink) (rest : ChainLink → Judgement) → ((l : ChainLink) → CanBeSealed (rest l))
    → CanBeSealed (on_last o rest)
fine_last None rest fine = tt
fine_last (Some l) rest fine = fine l

few : (P : Checksum → Bool) (pieces : List Piece) (most : ℕ) → length pieces ≤ most
    → length (filter P (map (λ (piece : Piece). piece.checksum) pieces)) ≤ most
few P [] most fits = omega (arith, fits)
few P (piece ∷ pieces) zero fits = absurd (omega (arith, fits))
few P (piece ∷ pieces) (suc most) fits = on_test (P piece.checksum) (few P pieces most (omega (arith, fits)))
  where
    on_test : (b : Bool) → length (filter P (map (λ (p : Piece). p.checksum) pieces)) ≤ most
        → length (cond b (piece.checksum ∷ filter P (map (λ (p : Piece). p.checksum) pieces))
        (filter P (map (λ (p : Piece). p.checksum) pieces))) ≤ suc most
    on_test true rest = omega (arith, rest)
    on_test false rest = omega (arith, rest)

-- ---- the whole

pub judged_can_be_sealed : (roster : RosterRecord) (me : PlatformCode) (bill : Checksum) (records : List Record)
    (chain : List ChainLink) (manifest : Manifest) → AreSound me records → LinksAreTheirTexts chain
    → length manifest.documents ≤ 16 → CanBeSealed (judgement_of roster me bill records chain manifest)
judged_can_be_sealed roster me bill records chain manifest sound shown_are count =
    let h = of_bill bill records in
    let place = place_of h in
    let at = common_front (chain_at place) chain in
    let own_are = chain_at_texts me h (sound_alone me bill records sound) in
    let missing = few (λ (c : Checksum). not (is_there h c)) manifest.documents 16 count in
    fine_last (last_of chain) (λ last. on_receiver_here me (receiver_of chain)
    (λ receiver. judgement_here roster bill records last.name receiver chain manifest)) (λ last.
    fine_here me (receiver_of chain)
    (λ receiver. judgement_here roster bill records last.name receiver chain manifest) (λ receiver.
    let rest = judgement_at_place roster h receiver chain manifest in
    fine_taken (is_taken last.name records) (on_declined (last_declined last.name records) rest)
    (fine_declined me last.name records rest sound
    (fine_dispute (continues place chain) (evidence_of (chain_at place) chain)
    (cond (knows roster receiver) (on_missing (missing_of manifest h)) judgements.Unknown)
    (record { own = text_is at (chain_at place) own_are; theirs = text_is at chain shown_are })
    (fine_receiver (knows roster receiver) (on_missing (missing_of manifest h))
    (fine_missing (missing_of manifest h) missing))))))
