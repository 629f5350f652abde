-- A body shows one thing at most, or has one refusal at most, and never both.
use Rattle.std.proofs.Common.{◌≡◌, ◌≢◌, inl, inr, ℕ, List, Some, None, Ok, Err, ap, sym, subst, ◌∙◌}
use Rattle.ebl_base.specs.declared.chain.ChainLink.{ChainLink}
use Rattle.ebl_base.specs.declared.reason.Reason.{Reason}
use Rattle.ebl_base.specs.declared.signed_text.SignedText.{SignedText}
use Rattle.canonical_json.specs.Value.{Value}
use Rattle.canonical_json.specs.Reading.{Reads}
use Rattle.signed_envelope.specs.KeyRing.{Keys}
use Rattle.signed_envelope.specs.SignedText.{IsSigned}
use Rattle.party_roster.specs.RosterRecord.{RosterRecord}
use Rattle.transport_document.specs.DocumentRecord.{DocumentRecord, bill_of}
use Rattle.transport_document.specs.Reading.{document_of}
use Rattle.envelope_manifest.specs.Body.{BodyRecord, IsWrongAt, ReadsAs, body_of}
use Rattle.envelope_manifest.specs.declared.fault.BodyField.{BodyField}
use Rattle.envelope_manifest.specs.declared.manifest.Manifest.{Manifest}
use Rattle.envelope_manifest.proofs.WholeBodies.{body_once}
use Rattle.bill_chain.specs.Chain.{last_of}
use Rattle.transfer_chain.specs.GoodChain.{IsGoodChain}
use Rattle.transfer_chain.specs.Refusal as chains
use Rattle.transfer_chain.specs.declared.fault.ChainRefusal.{ChainRefusal}
use Rattle.transfer_chain.specs.declared.fault.ChainRefusal.TheVariants as stops
use Rattle.end_manifest.specs.EndManifest.{IsManifestRefused, reason_for}
use Rattle.end_manifest.proofs.ManifestLemmas.{refused_is_none, same_manifest, same_reason}
use Rattle.platform_machine.specs.declared.refusal.Refusal.{Refusal}
use Rattle.platform_machine.specs.Preface.{ArePartsRefused, Envelops, IsEnvelopeRefused, IsRefused, ShownRecord, Shows, ShowsIn, refusal_of}

-- what is known of chains
pub record Exclusions : Type 0 where
  pub no_good_chain : (roster : RosterRecord) (keys : Keys) (document : DocumentRecord) (texts : List SignedText)
      (chain : List ChainLink) (refusal : ChainRefusal) → chains.IsRefused roster keys document texts refusal
      → refusal ≢ stops.NoMemory → IsGoodChain roster keys document texts chain → ⊥
  pub chain_once : (roster : RosterRecord) (keys : Keys) (document : DocumentRecord) (texts : List SignedText)
      (a b : List ChainLink) → IsGoodChain roster keys document texts a → IsGoodChain roster keys document texts b
      → a ≡ b
  pub refused_once : (roster : RosterRecord) (keys : Keys) (document : DocumentRecord) (texts : List SignedText)
      (one other : ChainRefusal) → chains.IsRefused roster keys document texts one
      → chains.IsRefused roster keys document texts other → one ≢ stops.NoMemory → other ≢ stops.NoMemory
      → one ≡ other

-- ---- the envelope

has_reason : (refusal : ChainRefusal) (reason : Reason) → reason_for refusal ≡ Some reason → refusal ≢ stops.NoMemory
has_reason refusal reason is same =
    let none : reason_for refusal ≡ None = ap reason_for same in
    let both : None ≡ Some reason = sym none ∙ is in
    cc both

same_end : (a b : List ChainLink) (x y : ChainLink) → a ≡ b → last_of a ≡ Some x → last_of b ≡ Some y → x ≡ y
same_end a b x y same a_is b_is = let both : Some x ≡ Some y = sym a_is ∙ ap last_of same ∙ b_is in cc both

envelope_not_refused : (laws : Exclusions) (roster : RosterRecord) (keys : Keys) (document : DocumentRecord)
    (parts : BodyRecord) (chain : List ChainLink) (manifest : Manifest) (reason : Reason)
    → Envelops roster keys document parts chain manifest → IsEnvelopeRefused roster keys document parts reason → ⊥
envelope_not_refused laws roster keys document parts chain manifest reason is (inl (refusal, has, refused)) =
    laws.no_good_chain roster keys document parts.chain chain refusal refused (has_reason refusal reason has) is.good
envelope_not_refused laws roster keys document parts chain manifest reason is (inr end) =
    let chains_are = laws.chain_once roster keys document parts.chain end.chain chain end.good is.good in
    let ends_are = same_end end.chain chain end.end is.end chains_are end.end_is is.end_is in
    refused_is_none keys (bill_of document) is.end parts.manifest manifest reason
    (subst (λ (l : ChainLink). IsManifestRefused keys (bill_of document) l parts.manifest reason) ends_are end.refused)
    is.manifests

-- ---- the body

reads_once : (bytes : List ℕ) (v w : Value) → Reads bytes v → Reads bytes w → v ≡ w
reads_once bytes v w first second = let both : Ok v ≡ Ok w = sym first ∙ second in cc both

body_not_refused : (bytes : List ℕ) (parts : BodyRecord) (field : BodyField) → ReadsAs bytes parts
    → IsWrongAt bytes field → ⊥
body_not_refused bytes parts field (v, reads, is) (inl (json, unread)) = unread v reads
body_not_refused bytes parts field (v, reads, is) (inr (w, read, wrong)) =
    let both : Ok parts ≡ Err field = sym is ∙ ap body_of (reads_once bytes v w reads read) ∙ wrong in
    cc both

parts_not_refused : (laws : Exclusions) (roster : RosterRecord) (keys : Keys) (s : ShownRecord) (r : Refusal)
    → ShowsIn roster keys s → ArePartsRefused roster keys s.parts r → ⊥
parts_not_refused laws roster keys s r shows (inl (fault, wrong, is)) =
    let both : Err fault ≡ Ok s.document = sym wrong ∙ shows.document_is in
    cc both
parts_not_refused laws roster keys s r shows (inr (document, reason, read, refused, is)) =
    let both : Ok document ≡ Ok s.document = sym read ∙ shows.document_is in
    let same : document ≡ s.document = cc both in
    envelope_not_refused laws roster keys s.document s.parts s.chain s.manifest reason shows.envelops
    (subst (λ (d : DocumentRecord). IsEnvelopeRefused roster keys d s.parts reason) same refused)

-- a body that shows something has no refusal
pub shown_not_refused : (laws : Exclusions) (roster : RosterRecord) (keys : Keys) (bytes : List ℕ) (s : ShownRecord)
    (r : Refusal) → Shows roster keys bytes s → IsRefused roster keys bytes r → ⊥
shown_not_refused laws roster keys bytes s r shows (inl (field, wrong, is)) =
    body_not_refused bytes s.parts field shows.reads wrong
shown_not_refused laws roster keys bytes s r shows (inr (parts, reads, refused)) =
    let same = body_once bytes parts s.parts reads shows.reads in
    parts_not_refused laws roster keys s r shows.shows
    (subst (λ (p : BodyRecord). ArePartsRefused roster keys p r) same refused)

-- it shows one thing
pub shown_once : (laws : Exclusions) (roster : RosterRecord) (keys : Keys) (bytes : List ℕ) (a b : ShownRecord)
    → Shows roster keys bytes a → Shows roster keys bytes b → a ≡ b
shown_once laws roster keys bytes a b first second =
    let parts = body_once bytes a.parts b.parts first.reads second.reads in
    let both : Ok a.document ≡ Ok b.document =
    sym first.shows.document_is ∙ ap (λ (p : BodyRecord). document_of p.document) parts ∙ second.shows.document_is in
    let documents : a.document ≡ b.document = cc both in
    let one = first.shows.envelops in
    let two = second.shows.envelops in
    let one_good : IsGoodChain roster keys b.document b.parts.chain a.chain =
    subst (λ (d : DocumentRecord). IsGoodChain roster keys d b.parts.chain a.chain) documents
    (subst (λ (p : BodyRecord). IsGoodChain roster keys a.document p.chain a.chain) parts one.good) in
    let chains_are = laws.chain_once roster keys b.document b.parts.chain a.chain b.chain one_good two.good in
    let ends_are = same_end a.chain b.chain one.end two.end chains_are one.end_is two.end_is in
    let one_signed : IsSigned keys 16384 b.parts.manifest.0 two.end.entry.platform one.manifests.payload =
    subst (λ (l : ChainLink). IsSigned keys 16384 b.parts.manifest.0 l.entry.platform one.manifests.payload) ends_are
    (subst (λ (p : BodyRecord). IsSigned keys 16384 p.manifest.0 one.end.entry.platform one.manifests.payload) parts
    one.manifests.signed) in
    let manifests = same_manifest keys two.end b.parts.manifest one.manifests.payload two.manifests.payload
    a.manifest b.manifest one_signed one.manifests.manifest_is two.manifests.signed two.manifests.manifest_is in
    λ i. record { parts = parts i; document = documents i; chain = chains_are i; manifest = manifests i }

-- ---- one refusal

reason_once : (laws : Exclusions) (roster : RosterRecord) (keys : Keys) (document : DocumentRecord)
    (parts : BodyRecord) (a b : Reason) → IsEnvelopeRefused roster keys document parts a
    → IsEnvelopeRefused roster keys document parts b → a ≡ b
reason_once laws roster keys document parts a b (inl (one, has, refused)) (inl (other, also, too)) =
    let same = laws.refused_once roster keys document parts.chain one other refused too (has_reason one a has)
    (has_reason other b also) in
    let both : Some a ≡ Some b = sym has ∙ ap reason_for same ∙ also in
    cc both
reason_once laws roster keys document parts a b (inl (one, has, refused)) (inr end) =
    absurd (laws.no_good_chain roster keys document parts.chain end.chain one refused (has_reason one a has) end.good)
reason_once laws roster keys document parts a b (inr end) (inl (other, also, too)) =
    absurd (laws.no_good_chain roster keys document parts.chain end.chain other too (has_reason other b also) end.good)
reason_once laws roster keys document parts a b (inr end) (inr too) =
    let chains_are = laws.chain_once roster keys document parts.chain end.chain too.chain end.good too.good in
    let ends_are = same_end end.chain too.chain end.end too.end chains_are end.end_is too.end_is in
    same_reason keys (bill_of document) too.end parts.manifest a b
    (subst (λ (l : ChainLink). IsManifestRefused keys (bill_of document) l parts.manifest a) ends_are end.refused)
    too.refused

parts_refusal_once : (laws : Exclusions) (roster : RosterRecord) (keys : Keys) (parts : BodyRecord) (r q : Refusal)
    → ArePartsRefused roster keys parts r → ArePartsRefused roster keys parts q → r ≡ q
parts_refusal_once laws roster keys parts r q (inl (fault, wrong, is)) (inl (other, also, too)) = is ∙ sym too
parts_refusal_once laws roster keys parts r q (inl (fault, wrong, is)) (inr (document, reason, read, refused, too)) =
    let both : Err fault ≡ Ok document = sym wrong ∙ read in
    cc both
parts_refusal_once laws roster keys parts r q (inr (document, reason, read, refused, is)) (inl (fault, wrong, too)) =
    let both : Err fault ≡ Ok document = sym wrong ∙ read in
    cc both
parts_refusal_once laws roster keys parts r q (inr (d, a, read, refused, is)) (inr (e, b, also, too, also_is)) =
    let both : Ok d ≡ Ok e = sym read ∙ also in
    let same : d ≡ e = cc both in
    let reasons_are : a ≡ b =
    reason_once laws roster keys e parts a b
    (subst (λ (x : DocumentRecord). IsEnvelopeRefused roster keys x parts a) same refused) too in
    is ∙ (λ i. refusal_of (reasons_are i) (Some (bill_of (same i))) parts) ∙ sym also_is

-- a body that is refused is refused for one reason
pub refusal_once : (laws : Exclusions) (roster : RosterRecord) (keys : Keys) (bytes : List ℕ) (r q : Refusal)
    → IsRefused roster keys bytes r → IsRefused roster keys bytes q → r ≡ q
refusal_once laws roster keys bytes r q (inl (field, wrong, is)) (inl (other, also, too)) = is ∙ sym too
refusal_once laws roster keys bytes r q (inl (field, wrong, is)) (inr (parts, reads, refused)) =
    absurd (body_not_refused bytes parts field reads wrong)
refusal_once laws roster keys bytes r q (inr (parts, reads, refused)) (inl (field, wrong, is)) =
    absurd (body_not_refused bytes parts field reads wrong)
refusal_once laws roster keys bytes r q (inr (parts, reads, refused)) (inr (other, also, too)) =
    let same = body_once bytes parts other reads also in
    parts_refusal_once laws roster keys other r q
    (subst (λ (p : BodyRecord). ArePartsRefused roster keys p r) same refused) too
