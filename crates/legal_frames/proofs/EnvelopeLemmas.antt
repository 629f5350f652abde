-- Envelopes and signed texts.
use Rattle.std.proofs.Common.{◌≡◌, ◌≢◌, ℕ, Bool, true, false, cond, List, [], ◌∷◌, Option, Some, None, Result, Ok, Err, refl, ap, sym, subst, ◌∙◌, map}
use Rattle.std.specs.Option.{option_map_or}
use Rattle.std.proofs.lemmas.Slice.Eq.{bytes_eq-Decides}
use Rattle.ebl_base.specs.Reference.{reference_of}
use Rattle.ebl_base.specs.declared.chain.ChainLink.{ChainLink}
use Rattle.ebl_base.specs.declared.checksum.Checksum.{Checksum}
use Rattle.ebl_base.specs.declared.platform_code.PlatformCode.{PlatformCode}
use Rattle.ebl_base.specs.declared.reference.Reference.{Reference}
use Rattle.ebl_base.specs.declared.signed_text.SignedText.{SignedText}
use Rattle.canonical_json.specs.Canon.{canon}
use Rattle.canonical_json.specs.Lawful.{IsLawful}
use Rattle.canonical_json.specs.Value.{Value}
use Rattle.canonical_json.specs.Reading.{Reads}
use Rattle.canonical_json.proofs.Parts.{Reads_once}
use Rattle.canonical_json.proofs.Readings.{canon_same}
use Rattle.signed_envelope.specs.KeyRing.{Keys}
use Rattle.signed_envelope.specs.SignedText.{IsSigned}
use Rattle.signed_envelope.specs.Refusal as envelopes
use Rattle.signed_envelope.specs.declared.compact.Parts.{Parts}
use Rattle.signed_envelope.specs.declared.fault.BadSigned.{BadSigned}
use Rattle.signed_envelope.specs.declared.fault.BadSigned.TheVariants as bad
use Rattle.signed_envelope.proofs.Readings.{same_parts, refused_or_signed}
use Rattle.signed_envelope.proofs.Refusals.{asked_is_asked}
use Rattle.transport_document.specs.DocumentRecord.{DocumentRecord}
use Rattle.transport_document.specs.Reading as documents
use Rattle.transport_document.specs.Reading.{document_of}
use Rattle.transport_document.specs.declared.fault.DocumentFault.{DocumentFault}
use Rattle.transport_document.specs.declared.fault.DocumentFault.TheVariants as faults
use Rattle.transport_document.proofs.DocumentLemmas.{text-document_of, one_document}
use Rattle.envelope_manifest.specs.Body.{BodyRecord, IsBody, ReadsAs}
use Rattle.envelope_manifest.specs.Manifest.{IsManifest, manifest_of}
use Rattle.envelope_manifest.specs.declared.fault.ManifestField.{ManifestField}
use Rattle.envelope_manifest.specs.declared.manifest.Manifest.{Manifest}
use Rattle.envelope_manifest.proofs.WholeBodies.{body_once}
use Rattle.party_roster.specs.RosterRecord.{RosterRecord}
use Rattle.bill_chain.specs.Chain.{last_of, IsChainOfBill}
use Rattle.transfer_chain.specs.GoodChain.{AreLinks, IsGoodChain}
use Rattle.transfer_chain.specs.Refusal as chains
use Rattle.transfer_chain.specs.declared.fault.ChainRefusal.{ChainRefusal}
use Rattle.transfer_chain.specs.declared.fault.ChainRefusal.TheVariants as refusals
use Rattle.bill_diary.specs.declared.record.Record.{Record}
use Rattle.bill_diary.specs.declared.record.Record.TheVariants.{Signed, Acted, Attached, Parted, Settled, Regained, Begun, Stored, Taken, Declined}
use Rattle.bill_diary.specs.History.{of_bill}
use Rattle.bill_diary.specs.Sound.{AreSound, IsNotAgain, MayFollow, has_reference, last_with_reference}
use Rattle.bill_diary.specs.History as histories
use Rattle.bill_diary.specs.Texts.{IsBodyOf, IsDocumentOf, LinksAreTheirTexts, ManifestIsItsText}
use Rattle.bill_diary.proofs.BegunLemmas.{one_begun, one_chain}
use Rattle.record_bytes.specs.Forms.{IsBegun}
use Rattle.transfer_judge.specs.Judgement.{judgement_by, judgement_of}
use Rattle.transfer_judge.specs.Legal.{IsSignedBy}
use Rattle.transfer_judge.proofs.LegalLemmas.{links_are}
use Rattle.legal_frames.proofs.ReceivingLemmas.{judged_by_bill}
use Rattle.legal_frames.specs.Rows.{IsEnvelope, IsGoodBody, IsManifestBy, has_body, is_again}

-- ---- signed texts

-- a text that is verified is signed
pub signed_so : (keys : Keys) (who : PlatformCode) (text : SignedText) (seen : List ℕ) (value : Value)
    → seen ≡ text.0 → IsSigned keys 16384 seen who value → IsSignedBy keys who text
signed_so keys who text seen value same signed =
    (value, subst (λ (s : List ℕ). IsSigned keys 16384 s who value) same signed)

-- one that is refused, except out of memory, isn't signed by the platform that was asked for
pub not_signed : (keys : Keys) (who : PlatformCode) (text : SignedText) (seen : List ℕ) (e : BadSigned)
    → seen ≡ text.0 → envelopes.IsRefused keys 16384 (Some who) seen e → e ≢ bad.NoMemory
    → IsSignedBy keys who text → ⊥
not_signed keys who text seen e same refused some (value, signed) =
    refused_or_signed keys 16384 (Some who) seen e who value refused some
    (subst (λ (s : List ℕ). IsSigned keys 16384 s who value) (sym same) signed) (asked_is_asked who)

-- the payload that was verified is the one that a text has
pub same_payload : (keys : Keys) (who : PlatformCode) (text : SignedText) (manifest : Manifest) (value : Value)
    → ManifestIsItsText text manifest → IsSigned keys 16384 text.0 who value → manifest_of value ≡ Ok manifest
same_payload keys who text manifest value is signed =
    let parts : is.has_payload.parts ≡ signed.parts =
    same_parts 16384 text.0 is.has_payload.parts signed.parts is.has_payload.compact signed.compact in
    let payloads : is.payload ≡ value =
    Reads_once signed.parts.payload is.payload value
    (subst (λ (p : Parts). Reads p.payload is.payload) parts is.has_payload.reads) signed.payload in
    sym (ap manifest_of payloads) ∙ is.reads_as

-- what was found of a manifest is that it is the platform's
pub manifest_so : (keys : Keys) (who : PlatformCode) (text : SignedText) (seen : List ℕ) (manifest read : Manifest)
    (value : Value) (bill last : Checksum) → seen ≡ text.0 → ManifestIsItsText text manifest
    → IsSigned keys 16384 seen who value → manifest_of value ≡ Ok read → IsManifest read → manifest.bill ≡ bill
    → manifest.last ≡ last → IsManifestBy keys who bill last manifest text
manifest_so keys who text seen manifest read value bill last same is signed reads form names_bill names_last =
    let here : IsSigned keys 16384 text.0 who value =
    subst (λ (s : List ℕ). IsSigned keys 16384 s who value) same signed in
    let both : Ok read ≡ Ok manifest = sym reads ∙ same_payload keys who text manifest value is here in
    let one : read ≡ manifest = cc both in
    record {
      signed = (value, here);
      form = subst IsManifest one form;
      names_bill = names_bill;
      names_last = names_last;
    }

-- a manifest that is its text's is read from it
pub manifest_reads : (keys : Keys) (who : PlatformCode) (text : SignedText) (seen : List ℕ) (manifest : Manifest)
    (value : Value) (field : ManifestField) → seen ≡ text.0 → ManifestIsItsText text manifest
    → IsSigned keys 16384 seen who value → manifest_of value ≡ Err field → ⊥
manifest_reads keys who text seen manifest value field same is signed wrong =
    let here : IsSigned keys 16384 text.0 who value =
    subst (λ (s : List ℕ). IsSigned keys 16384 s who value) same signed in
    let clash : Err field ≡ Ok manifest = sym wrong ∙ same_payload keys who text manifest value is here in
    cc clash

-- ---- good bodies

-- a value that is refused, except out of memory, is no document
no_document : (read : Result DocumentRecord DocumentFault) (fault : DocumentFault) → documents.IsFault read fault
    → fault ≢ faults.NoMemory → (document : DocumentRecord) → read ≡ Ok document → ⊥
no_document read (faults.DocumentForm field) wrong some document is = cc (wrong, is)
no_document read faults.NotTitle wrong some document is = cc (wrong, is)
no_document read faults.TooLarge wrong some document is = cc (wrong, is)
no_document read faults.NoMemory wrong some document is = some refl

pub bad_document : (roster : RosterRecord) (keys : Keys) (parts : BodyRecord) (fault : DocumentFault)
    → documents.IsFault (document_of parts.document) fault → fault ≢ faults.NoMemory
    → IsGoodBody roster keys parts → ⊥
bad_document roster keys parts fault wrong some good =
    no_document (document_of parts.document) fault wrong some good.document good.document_is

-- texts that are refused, except out of memory, are no good chain
abbrev pub RefusedAreBad : Type 0
RefusedAreBad =
    (roster : RosterRecord) (keys : Keys) (document : DocumentRecord) (texts : List SignedText)
    (chain : List ChainLink) (refusal : ChainRefusal) → chains.IsRefused roster keys document texts refusal
    → refusal ≢ refusals.NoMemory → IsGoodChain roster keys document texts chain → ⊥

pub bad_chain : RefusedAreBad → (roster : RosterRecord) (keys : Keys) (parts : BodyRecord) (document : DocumentRecord)
    (refusal : ChainRefusal) → document_of parts.document ≡ Ok document
    → chains.IsRefused roster keys document parts.chain refusal → refusal ≢ refusals.NoMemory
    → IsGoodBody roster keys parts → ⊥
bad_chain bad_texts roster keys parts document refusal reads refused some good =
    let both : Ok good.document ≡ Ok document = sym good.document_is ∙ reads in
    let one : good.document ≡ document = cc both in
    bad_texts roster keys document parts.chain good.chain refusal refused some
    (subst (λ (d : DocumentRecord). IsGoodChain roster keys d parts.chain good.chain) one good.good)

pub good_so : (roster : RosterRecord) (keys : Keys) (parts : BodyRecord) (document : DocumentRecord)
    (chain : List ChainLink) → document_of parts.document ≡ Ok document
    → IsGoodChain roster keys document parts.chain chain → IsGoodBody roster keys parts
good_so roster keys parts document chain reads good = record {
  document = document;
  document_is = reads;
  chain = chain;
  good = good;
}

-- ---- what a body reads as

-- the parts that were read are those of the Begun
pub parts_are : (bill : Checksum) (chain : List ChainLink) (manifest : Manifest) (body : List ℕ) (parts : BodyRecord)
    (is : IsBodyOf bill chain manifest body) → ReadsAs body parts → parts ≡ is.parts
parts_are bill chain manifest body parts is reads =
    body_once body parts is.parts reads (is.value, is.reads, is.reads_as)

-- the document that was read is the one of the Begun
document_same : (bill : Checksum) (v : Value) (document : DocumentRecord) → IsLawful v → document_of v ≡ Ok document
    → (is : IsDocumentOf bill (canon v)) → document ≡ is.document
document_same bill v document lawful reads is =
    one_document v is.value document is.document reads is.reads
    (canon_same v is.value lawful is.lawful (sym is.text_is ∙ text-document_of is.value is.document is.reads))

-- ---- envelopes

envelope_from : (roster : RosterRecord) (keys : Keys) (bill : Checksum) (chain : List ChainLink) (manifest : Manifest)
    (body : List ℕ) (last : ChainLink) (is : IsBegun bill chain manifest body) → IsLawful is.body_is.parts.document
    → IsGoodBody roster keys is.body_is.parts → last_of chain ≡ Some last
    → IsManifestBy keys last.entry.platform bill last.name manifest is.body_is.parts.manifest
    → IsEnvelope roster keys bill chain manifest body
envelope_from roster keys bill chain manifest body last is lawful good last_is by =
    let b = is.body_is in
    let documents : good.document ≡ b.document_is.document =
    document_same bill b.parts.document good.document lawful good.document_is b.document_is in
    let texts = links_texts good.chain b.parts.chain good.good.links in
    let chains : good.chain ≡ chain =
    one_chain good.chain chain (links_are keys b.parts.chain good.chain good.good.links) is.links_are
    (sym texts ∙ b.chain_is) in
    record {
      body_is = b;
      good = subst (λ (c : List ChainLink). IsGoodChain roster keys b.document_is.document b.parts.chain c) chains
          (subst (λ (d : DocumentRecord). IsGoodChain roster keys d b.parts.chain good.chain) documents good.good);
      last = last;
      last_is = last_is;
      manifest_by = by;
    }
  where
    links_texts : (c : List ChainLink) (ts : List SignedText) → AreLinks keys ts c
        → ts ≡ map (λ (link : ChainLink). link.text) c
    links_texts [] [] are = refl
    links_texts (link ∷ c) [] are = absurd are
    links_texts [] (text ∷ ts) are = absurd are
    links_texts (link ∷ c) (text ∷ ts) are =
        let first = sym are.0.text in
        let rest = links_texts c ts are.1 in
        λ i. first i ∷ rest i

-- what was found of an envelope is that it is right
pub envelope_so : (roster : RosterRecord) (keys : Keys) (bill : Checksum) (chain : List ChainLink) (manifest : Manifest)
    (body : List ℕ) (last : ChainLink) (parts : BodyRecord) → IsBegun bill chain manifest body → ReadsAs body parts
    → IsBody parts → IsGoodBody roster keys parts → last_of chain ≡ Some last
    → IsManifestBy keys last.entry.platform bill last.name manifest parts.manifest
    → IsEnvelope roster keys bill chain manifest body
envelope_so roster keys bill chain manifest body last parts is reads form good last_is by =
    let same : parts ≡ is.body_is.parts = parts_are bill chain manifest body parts is.body_is reads in
    envelope_from roster keys bill chain manifest body last is
    (subst (λ (p : BodyRecord). IsLawful p.document) same form.lawful) (subst (IsGoodBody roster keys) same good)
    last_is
    (subst (λ (p : BodyRecord). IsManifestBy keys last.entry.platform bill last.name manifest p.manifest) same by)

-- and the other way round
pub envelope_good : (roster : RosterRecord) (keys : Keys) (bill : Checksum) (chain : List ChainLink)
    (manifest : Manifest) (body : List ℕ) (parts : BodyRecord) → ReadsAs body parts → IsBody parts
    → IsEnvelope roster keys bill chain manifest body → IsGoodBody roster keys parts
envelope_good roster keys bill chain manifest body parts reads form e =
    let b = e.body_is in
    let same : parts ≡ b.parts = parts_are bill chain manifest body parts b reads in
    let lawful : IsLawful b.parts.document = subst (λ (p : BodyRecord). IsLawful p.document) same form.lawful in
    let values : b.parts.document ≡ b.document_is.value =
    canon_same b.parts.document b.document_is.value lawful b.document_is.lawful
    (sym b.document_is.text_is ∙ text-document_of b.document_is.value b.document_is.document b.document_is.reads) in
    subst (IsGoodBody roster keys) (sym same) (record {
      document = b.document_is.document;
      document_is = ap document_of values ∙ b.document_is.reads;
      chain = chain;
      good = e.good;
    })

pub envelope_by : (roster : RosterRecord) (keys : Keys) (bill : Checksum) (chain : List ChainLink)
    (manifest : Manifest) (body : List ℕ) (parts : BodyRecord) (last : ChainLink) → ReadsAs body parts
    → last_of chain ≡ Some last → IsEnvelope roster keys bill chain manifest body
    → IsManifestBy keys last.entry.platform bill last.name manifest parts.manifest
envelope_by roster keys bill chain manifest body parts last reads last_is e =
    let same : parts ≡ e.body_is.parts = parts_are bill chain manifest body parts e.body_is reads in
    let both : Some e.last ≡ Some last = sym e.last_is ∙ last_is in
    let lasts : e.last ≡ last = cc both in
    subst (λ (p : BodyRecord). IsManifestBy keys last.entry.platform bill last.name manifest p.manifest) (sym same)
    (subst (λ (l : ChainLink). IsManifestBy keys l.entry.platform bill l.name manifest e.body_is.parts.manifest) lasts
    e.manifest_by)

-- ---- whether it is new

-- what a Begun that may follow says
record BeganSo (bill : Checksum) (chain : List ChainLink) (manifest : Manifest) (body : List ℕ) : Type 0 where
  body_is : IsBodyOf bill chain manifest body
  links_are : LinksAreTheirTexts chain

abbrev SaysSo : Record → Type 0
SaysSo (Begun bill chain manifest body) = BeganSo bill chain manifest body
SaysSo r = Unit {0}

says_so : (me : PlatformCode) (records h : List Record) (r : Record) → MayFollow me records h r → SaysSo r
says_so me records h (Begun b c m t) may = record { body_is = may.body_is; links_are = may.links_are }
says_so me records h (Signed b x t) may = tt
says_so me records h (Acted b t) may = tt
says_so me records h (Attached b q t) may = tt
says_so me records h (Parted b l m t) may = tt
says_so me records h (Settled b e) may = tt
says_so me records h (Regained b e) may = tt
says_so me records h (Stored b e x t) may = tt
says_so me records h (Taken b e) may = tt
says_so me records h (Declined b e x q v) may = tt

found_so : (me : PlatformCode) (reference : Reference) (records : List Record) → AreSound me records → (r : Record)
    → last_with_reference reference records ≡ Some r → SaysSo r
found_so me reference [] sound r is = cc is
found_so me reference (x ∷ records) sound r is =
    on_test (has_reference reference x) is (found_so me reference records sound.2 r)
  where
    on_test : (b : Bool) → cond b (Some x) (last_with_reference reference records) ≡ Some r
        → (last_with_reference reference records ≡ Some r → SaysSo r) → SaysSo r
    on_test true found further =
        let same : x ≡ r = cc found in
        subst SaysSo same (says_so me records (of_bill (histories.bill_of x) records) x sound.0)
    on_test false found further = further found

same_record : (bill : Checksum) (chain : List ChainLink) (manifest : Manifest) (body : List ℕ)
    → IsBodyOf bill chain manifest body → LinksAreTheirTexts chain → (r : Record) → SaysSo r → has_body body r ≡ true
    → r ≡ Begun bill chain manifest body
same_record bill chain manifest body is are (Begun b c m t) so has =
    let text : t ≡ body = (bytes_eq-Decides t body).0 has in
    ap (Begun b c m) text
    ∙ one_begun b bill c chain m manifest body (subst (IsBodyOf b c m) text so.body_is) so.links_are is are
same_record bill chain manifest body is are (Signed b x t) so has = cc has
same_record bill chain manifest body is are (Acted b t) so has = cc has
same_record bill chain manifest body is are (Attached b q t) so has = cc has
same_record bill chain manifest body is are (Parted b l m t) so has = cc has
same_record bill chain manifest body is are (Settled b e) so has = cc has
same_record bill chain manifest body is are (Regained b e) so has = cc has
same_record bill chain manifest body is are (Stored b e x t) so has = cc has
same_record bill chain manifest body is are (Taken b e) so has = cc has
same_record bill chain manifest body is are (Declined b e x q v) so has = cc has

has_itself : (bill : Checksum) (chain : List ChainLink) (manifest : Manifest) (body : List ℕ)
    → has_body body (Begun bill chain manifest body) ≡ true
has_itself bill chain manifest body = (bytes_eq-Decides body body).1 refl

-- where the test of a body says no, the Begun is new
pub new_so : (records : List Record) (bill : Checksum) (chain : List ChainLink) (manifest : Manifest) (body : List ℕ)
    → is_again bill body records (last_of chain) ≡ false → IsNotAgain records (Begun bill chain manifest body)
new_so records bill chain manifest body off last last_is found =
    let here : is_again bill body records (Some last) ≡ false =
    subst (λ (o : Option ChainLink). is_again bill body records o ≡ false) last_is off in
    let yes : is_again bill body records (Some last) ≡ true =
    ap (λ (o : Option Record). option_map_or (has_body body) o false) found ∙ has_itself bill chain manifest body in
    let clash : true ≡ false = sym yes ∙ here in
    cc clash

again_found : (me : PlatformCode) (records : List Record) (bill : Checksum) (chain : List ChainLink)
    (manifest : Manifest) (body : List ℕ) → AreSound me records → IsBodyOf bill chain manifest body
    → LinksAreTheirTexts chain → (reference : Reference) (o : Option Record)
    → last_with_reference reference records ≡ o → option_map_or (has_body body) o false ≡ true
    → last_with_reference reference records ≡ Some (Begun bill chain manifest body)
again_found me records bill chain manifest body sound is are reference None found on = cc on
again_found me records bill chain manifest body sound is are reference (Some r) found on =
    found ∙ ap Some (same_record bill chain manifest body is are r (found_so me reference records sound r found) on)

again_at : (me : PlatformCode) (records : List Record) (bill : Checksum) (chain : List ChainLink) (manifest : Manifest)
    (body : List ℕ) → AreSound me records → IsBodyOf bill chain manifest body → LinksAreTheirTexts chain
    → (o : Option ChainLink) → last_of chain ≡ o → is_again bill body records o ≡ true
    → IsNotAgain records (Begun bill chain manifest body) → ⊥
again_at me records bill chain manifest body sound is are None last_is on new = cc on
again_at me records bill chain manifest body sound is are (Some last) last_is on new =
    new last last_is
    (again_found me records bill chain manifest body sound is are (reference_of bill last.name)
    (last_with_reference (reference_of bill last.name) records) refl on)

-- what the test finds
pub again_found_at : (records : List Record) (bill : Checksum) (chain : List ChainLink) (body : List ℕ)
    (last : ChainLink) (reference : Reference) (r : Record) (b : Bool) → Some last ≡ last_of chain
    → reference ≡ reference_of bill last.name → last_with_reference reference records ≡ Some r
    → b ≡ has_body body r → b ≡ is_again bill body records (last_of chain)
again_found_at records bill chain body last reference r b last_is named is test =
    let here : last_with_reference (reference_of bill last.name) records ≡ Some r =
    ap (λ (x : Reference). last_with_reference x records) (sym named) ∙ is in
    let found : is_again bill body records (Some last) ≡ has_body body r =
    ap (λ (o : Option Record). option_map_or (has_body body) o false) here in
    test ∙ sym found ∙ ap (is_again bill body records) last_is

-- where it says yes, it isn't
pub not_new : (me : PlatformCode) (records : List Record) (bill : Checksum) (chain : List ChainLink)
    (manifest : Manifest) (body : List ℕ) → AreSound me records → IsBegun bill chain manifest body
    → is_again bill body records (last_of chain) ≡ true → IsNotAgain records (Begun bill chain manifest body) → ⊥
not_new me records bill chain manifest body sound is on new =
    again_at me records bill chain manifest body sound is.body_is is.links_are (last_of chain) refl on new

-- ---- how it is judged

-- it is judged by the records of its bill
pub judged : (roster : RosterRecord) (keys : Keys) (me : PlatformCode) (records : List Record) (bill : Checksum)
    (chain : List ChainLink) (manifest : Manifest) (body : List ℕ) → IsEnvelope roster keys bill chain manifest body
    → judgement_by roster me records chain manifest ≡ judgement_of roster me bill records chain manifest
judged roster keys me records bill chain manifest body e =
    judged_by_bill roster me records bill chain manifest e.last
    (subst (λ (b : Checksum). IsChainOfBill b chain) e.body_is.document_is.names e.good.entries) e.last_is
