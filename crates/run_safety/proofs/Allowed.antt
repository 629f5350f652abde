-- The answers of the machine are well-formed responses, so each is read as it was sealed.
use Rattle.std.proofs.Common.{◌≡◌, ◌⊎◌, inl, inr, ◌≤◌, ◌+◌, ◌-◌, ℕ, suc, Bool, true, false, List, [], ◌∷◌, ◌++◌, length, Option, Some, None, refl, sym, ap, subst, ◌∙◌, arith}
use Rattle.std.specs.Prelude.{All, option_map, slice_get, not, nat_le}
use Rattle.std.proofs.lemmas.List.{length-append}
use Rattle.std.proofs.lemmas.List.Elements.{All-nil, All-cons, All-filter}
use Rattle.std.proofs.lemmas.Bool.{le-leb}
use Rattle.ebl_base.specs.Code.{response_code_eq}
use Rattle.ebl_base.specs.Reason.{code_for, reason_index}
use Rattle.ebl_base.specs.declared.chain.ChainLink.{ChainLink}
use Rattle.ebl_base.specs.declared.checksum.Checksum.{Checksum}
use Rattle.ebl_base.specs.declared.code.Code.{Code}
use Rattle.ebl_base.specs.declared.entry.Entry.{Entry}
use Rattle.ebl_base.specs.declared.code.Code.TheVariants as codes
use Rattle.ebl_base.specs.declared.reason.Reason.{Reason}
use Rattle.ebl_base.specs.declared.reason.Reason.TheVariants as reasons
use Rattle.ebl_base.specs.declared.signed_text.SignedText.{SignedText}
use Rattle.document_checksum.specs.Digest.{IsChecksum, checksum_of}
use Rattle.signed_envelope.specs.KeyRing.{Keys}
use Rattle.party_roster.specs.RosterRecord.{RosterRecord}
use Rattle.transport_document.specs.DocumentRecord.{DocumentRecord, bill_of}
use Rattle.envelope_manifest.specs.Manifest.{ArePieces, IsManifest, checksums_of}
use Rattle.envelope_manifest.specs.declared.manifest.Manifest.{Manifest}
use Rattle.envelope_manifest.specs.declared.piece.Piece.{Piece}
use Rattle.pint_responses.specs.Response.{IsAllowed, IsOptionalChecksum, IsReasonOf, is_place}
use Rattle.transfer_chain.specs.GoodChain.{AreLinks}
use Rattle.transfer_chain.specs.Refusal as chains
use Rattle.transfer_chain.specs.declared.fault.ChainRefusal.{ChainRefusal}
use Rattle.transfer_chain.specs.declared.fault.ChainRefusal.TheVariants.{Empty, TooLong, BadSignature, EntryForm, WrongSigner, BrokenLink, WrongBill, Carrier, WrongPlatform, Fold, Move, NoMemory}
use Rattle.bill_diary.specs.declared.record.Record.{Record}
use Rattle.bill_diary.specs.Pieces.{is_there, missing_of}
use Rattle.transfer_judge.specs.declared.judgement.Judgement.TheVariants.{Elsewhere, Duplicate, Unknown, Missing, Accept}
use Rattle.transfer_judge.proofs.FormLemmas.{checksum_form}
use Rattle.end_manifest.specs.EndManifest.{IsManifestRefused, reason_for}
use Rattle.platform_machine.specs.declared.refusal.Refusal.{Refusal}
use Rattle.platform_machine.specs.Preface.{IsRefused, IsEnvelopeRefused, last_text_name}
use Rattle.platform_machine.specs.Answer.{document_response, refusal_response, no_evidence, subject_of}
use Rattle.platform_machine.specs.Judged.{response_for}

-- ---- reasons

code_itself : (code : Code) → response_code_eq code code ≡ true
code_itself codes.Received = refl
code_itself codes.Duplicate = refl
code_itself codes.BadSignature = refl
code_itself codes.BadEnvelope = refl
code_itself codes.InconsistentDocument = refl
code_itself codes.MissingDocuments = refl
code_itself codes.DisputedEnvelope = refl

-- a place in a list of at most 64
place_fits : {X : Type 0} (all front rest : List X) (x : X) (i : ℕ) → all ≡ front ++ x ∷ rest → length front ≡ i
    → length all ≤ 64 → nat_le i 63 ≡ true
place_fits all front rest x i parts place few =
    let size : length all ≡ length front + suc (length rest) = ap length parts ∙ length-append front (x ∷ rest) in
    le-leb i 63 (omega (arith, size, place, few))

links_size : (keys : Keys) (texts : List SignedText) (chain : List ChainLink) → AreLinks keys texts chain
    → length chain ≡ length texts
links_size keys [] [] links = refl
links_size keys [] (link ∷ chain) links = absurd links
links_size keys (text ∷ texts) [] links = absurd links
links_size keys (text ∷ texts) (link ∷ chain) links = ap suc (links_size keys texts chain links.1)

text_place : (keys : Keys) (texts : List SignedText) (i : ℕ) (wrong : SignedText → Type 0) → length texts ≤ 64
    → chains.IsTextWrong keys texts i wrong → nat_le i 63 ≡ true
text_place keys texts i wrong few w = place_fits texts w.front w.rest w.text i w.parts w.place few

entry_place : (roster : RosterRecord) (keys : Keys) (document : DocumentRecord) (texts : List SignedText)
    (chain : List ChainLink) (i : ℕ) (wrong : List ChainLink → Entry → Type 0) → length texts ≤ 64
    → AreLinks keys texts chain → chains.IsEntryWrong roster document chain i wrong → nat_le i 63 ≡ true
entry_place roster keys document texts chain i wrong few links w =
    place_fits chain w.front w.rest w.link i w.parts w.place (subst (λ (n : ℕ). n ≤ 64)
    (sym (links_size keys texts chain links)) few)

by_reason : (one reason : Reason) → Some one ≡ Some reason → is_place (reason_index one) ≡ true
    → is_place (reason_index reason) ≡ true
by_reason one reason is place =
    let same : one ≡ reason = cc is in subst (λ (x : Reason). is_place (reason_index x) ≡ true) same place

-- the place that a chain's refusal names is one of 64
chain_place : (roster : RosterRecord) (keys : Keys) (document : DocumentRecord) (texts : List SignedText)
    (refusal : ChainRefusal) (reason : Reason) → reason_for refusal ≡ Some reason
    → chains.IsRefused roster keys document texts refusal → is_place (reason_index reason) ≡ true
chain_place roster keys document texts Empty reason is r = by_reason reasons.Length reason is refl
chain_place roster keys document texts TooLong reason is r = by_reason reasons.Length reason is refl
chain_place roster keys document texts NoMemory reason is r = cc is
chain_place roster keys document texts Carrier reason is r = by_reason reasons.Carrier reason is refl
chain_place roster keys document texts (BadSignature i why) reason is r =
    by_reason (reasons.Signature i) reason is (on_cause r.cause)
  where
    on_cause : chains.IsTextWrong keys texts i (chains.IsBadlySigned keys why)
        ⊎ ((chain : List ChainLink) × AreLinks keys texts chain × ⊥) → nat_le i 63 ≡ true
    on_cause (inl w) = text_place keys texts i (chains.IsBadlySigned keys why) r.most w
    on_cause (inr no_way) = absurd no_way.2
chain_place roster keys document texts (EntryForm i field) reason is r =
    by_reason (reasons.Entry i) reason is (on_cause r.cause)
  where
    on_cause : chains.IsTextWrong keys texts i (chains.HasNoEntry keys field)
        ⊎ ((chain : List ChainLink) × AreLinks keys texts chain × ⊥) → nat_le i 63 ≡ true
    on_cause (inl w) = text_place keys texts i (chains.HasNoEntry keys field) r.most w
    on_cause (inr no_way) = absurd no_way.2
chain_place roster keys document texts (WrongSigner i) reason is r =
    by_reason (reasons.Signer i) reason is (on_cause r.cause)
  where
    on_cause : chains.IsTextWrong keys texts i (chains.IsOfAnother keys)
        ⊎ ((chain : List ChainLink) × AreLinks keys texts chain × ⊥) → nat_le i 63 ≡ true
    on_cause (inl w) = text_place keys texts i (chains.IsOfAnother keys) r.most w
    on_cause (inr no_way) = absurd no_way.2
chain_place roster keys document texts (BrokenLink i) reason is r =
    by_reason (reasons.Link i) reason is (on_cause r.cause)
  where
    on_cause : ⊥ ⊎ ((chain : List ChainLink) × AreLinks keys texts chain
        × chains.IsChainRefused roster document chain (BrokenLink i)) → nat_le i 63 ≡ true
    on_cause (inl no_way) = absurd no_way
    on_cause (inr (chain, links, w)) = entry_place roster keys document texts chain i _ r.most links w
chain_place roster keys document texts (WrongBill i) reason is r =
    by_reason (reasons.Bill i) reason is (on_cause r.cause)
  where
    on_cause : ⊥ ⊎ ((chain : List ChainLink) × AreLinks keys texts chain
        × chains.IsChainRefused roster document chain (WrongBill i)) → nat_le i 63 ≡ true
    on_cause (inl no_way) = absurd no_way
    on_cause (inr (chain, links, w)) = entry_place roster keys document texts chain i _ r.most links w
chain_place roster keys document texts (WrongPlatform i) reason is r =
    by_reason (reasons.Platform i) reason is (on_cause r.cause)
  where
    on_cause : ⊥ ⊎ ((chain : List ChainLink) × AreLinks keys texts chain
        × chains.IsChainRefused roster document chain (WrongPlatform i)) → nat_le i 63 ≡ true
    on_cause (inl no_way) = absurd no_way
    on_cause (inr (chain, links, w)) = entry_place roster keys document texts chain i _ r.most links w
chain_place roster keys document texts (Fold i k rule) reason is r =
    by_reason (reasons.Fold i) reason is (on_cause r.cause)
  where
    on_cause : ⊥ ⊎ ((chain : List ChainLink) × AreLinks keys texts chain
        × chains.IsChainRefused roster document chain (Fold i k rule)) → nat_le i 63 ≡ true
    on_cause (inl no_way) = absurd no_way
    on_cause (inr (chain, links, w)) = entry_place roster keys document texts chain i _ r.most links w
chain_place roster keys document texts (Move i) reason is r =
    by_reason (reasons.Move i) reason is (on_cause r.cause)
  where
    on_cause : ⊥ ⊎ ((chain : List ChainLink) × AreLinks keys texts chain
        × chains.IsChainRefused roster document chain (Move i)) → nat_le i 63 ≡ true
    on_cause (inl no_way) = absurd no_way
    on_cause (inr (chain, links, w)) = entry_place roster keys document texts chain i _ r.most links w

manifest_place : (keys : Keys) (bill : Checksum) (end : ChainLink) (text : SignedText) (reason : Reason)
    → IsManifestRefused keys bill end text reason → is_place (reason_index reason) ≡ true
manifest_place keys bill end text reasons.ManifestSignature r = refl
manifest_place keys bill end text reasons.ManifestForm r = refl
manifest_place keys bill end text reasons.ManifestNames r = refl
manifest_place keys bill end text reason r = absurd r

-- ---- responses

no_checksums : All IsChecksum []
no_checksums = All-nil IsChecksum

-- a response with a reason that comes with its code, and without evidence
plain_allowed : (code : Code) (bill last : Option Checksum) (standing : Bool) (reason : Option Reason)
    (missing : List Checksum)
    → IsOptionalChecksum bill → IsOptionalChecksum last → IsReasonOf code reason → All IsChecksum missing
    → IsAllowed (record {
      code = code;
      bill = bill;
      last = last;
      standing = standing;
      reason = reason;
      missing = missing;
      evidence = no_evidence;
    })
plain_allowed code bill last standing reason missing has_bill has_last is_reason are = record {
  bill = has_bill;
  last = has_last;
  reason = is_reason;
  missing = are;
  own = tt;
  theirs = tt;
}

-- ---- refusals

last_text_form : (texts : List SignedText) → IsOptionalChecksum (last_text_name texts)
last_text_form texts = on_got (slice_get texts (length texts - 1))
  where
    on_got : (o : Option SignedText) → IsOptionalChecksum (option_map (λ (t : SignedText). checksum_of t.0) o)
    on_got None = tt
    on_got (Some t) = checksum_form t.0

refusal_allowed_by : (reason : Reason) (bill last : Option Checksum) → IsOptionalChecksum bill → IsOptionalChecksum last
    → is_place (reason_index reason) ≡ true
    → IsAllowed (refusal_response (record { reason = reason; bill = bill; last = last }))
refusal_allowed_by reason bill last has_bill has_last place =
    plain_allowed (code_for reason) bill last false (Some reason) [] has_bill has_last
    (code_itself (code_for reason), place) no_checksums

pub refusal_allowed : (roster : RosterRecord) (keys : Keys) (body : List ℕ) (r : Refusal) → IsRefused roster keys body r
    → IsAllowed (refusal_response r)
refusal_allowed roster keys body r (inl (field, wrong, is)) =
    subst (λ (x : Refusal). IsAllowed (refusal_response x)) (sym is) (refusal_allowed_by reasons.Body None None tt tt refl)
refusal_allowed roster keys body r (inr (parts, reads, inl (fault, document, is))) =
    subst (λ (x : Refusal). IsAllowed (refusal_response x)) (sym is)
    (refusal_allowed_by reasons.Document None (last_text_name parts.chain) tt (last_text_form parts.chain) refl)
refusal_allowed roster keys body r (inr (parts, reads, inr (document, reason, is_document, refused, is))) =
    subst (λ (x : Refusal). IsAllowed (refusal_response x)) (sym is)
    (refusal_allowed_by reason (Some (bill_of document)) (last_text_name parts.chain) (checksum_form document.text)
    (last_text_form parts.chain) (on_refused refused))
  where
    on_refused : IsEnvelopeRefused roster keys document parts reason → is_place (reason_index reason) ≡ true
    on_refused (inl (refusal, for, chain)) = chain_place roster keys document parts.chain refusal reason for chain
    on_refused (inr end) = manifest_place keys (bill_of document) end.end parts.manifest reason end.refused

pub not_listed_allowed : (manifest : Manifest) → IsManifest manifest
    → IsAllowed (document_response (subject_of manifest) reasons.NotListed)
not_listed_allowed manifest form =
    plain_allowed codes.InconsistentDocument (Some manifest.bill) (Some manifest.last) false (Some reasons.NotListed) []
    form.bill form.last (refl, refl) no_checksums

pub other_bytes_allowed : (manifest : Manifest) → IsManifest manifest
    → IsAllowed (document_response (subject_of manifest) reasons.Bytes)
other_bytes_allowed manifest form =
    plain_allowed codes.InconsistentDocument (Some manifest.bill) (Some manifest.last) false (Some reasons.Bytes) []
    form.bill form.last (refl, refl) no_checksums

-- ---- judgements

pieces_have_checksums : (pieces : List Piece) → ArePieces pieces → All IsChecksum (checksums_of pieces)
pieces_have_checksums [] are = All-nil IsChecksum
pieces_have_checksums (piece ∷ pieces) are =
    All-cons IsChecksum piece.checksum (checksums_of pieces) are.0.checksum (pieces_have_checksums pieces are.1)

pub missing_have_form : (manifest : Manifest) (h : List Record) → IsManifest manifest
    → All IsChecksum (missing_of manifest h)
missing_have_form manifest h form =
    All-filter (λ (c : Checksum). not (is_there h c)) IsChecksum (checksums_of manifest.documents)
    (pieces_have_checksums manifest.documents form.documents.each)

pub elsewhere_allowed : (manifest : Manifest) → IsManifest manifest
    → IsAllowed (response_for (subject_of manifest) Elsewhere)
elsewhere_allowed manifest form =
    plain_allowed codes.BadEnvelope (Some manifest.bill) (Some manifest.last) false (Some reasons.Destination) []
    form.bill form.last (refl, refl) no_checksums

pub duplicate_allowed : (manifest : Manifest) → IsManifest manifest
    → IsAllowed (response_for (subject_of manifest) Duplicate)
duplicate_allowed manifest form =
    plain_allowed codes.Duplicate (Some manifest.bill) (Some manifest.last) false None [] form.bill form.last tt
    no_checksums

pub accept_allowed : (manifest : Manifest) → IsManifest manifest → IsAllowed (response_for (subject_of manifest) Accept)
accept_allowed manifest form =
    plain_allowed codes.Received (Some manifest.bill) (Some manifest.last) false None [] form.bill form.last tt
    no_checksums

pub unknown_allowed : (manifest : Manifest) → IsManifest manifest → IsAllowed (response_for (subject_of manifest) Unknown)
unknown_allowed manifest form =
    plain_allowed codes.BadEnvelope (Some manifest.bill) (Some manifest.last) true (Some reasons.Party) []
    form.bill form.last (refl, refl) no_checksums

pub missing_allowed : (manifest : Manifest) (checksums : List Checksum) → IsManifest manifest
    → All IsChecksum checksums → IsAllowed (response_for (subject_of manifest) (Missing checksums))
missing_allowed manifest checksums form are =
    plain_allowed codes.MissingDocuments (Some manifest.bill) (Some manifest.last) false None checksums
    form.bill form.last tt are
