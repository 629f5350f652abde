-- A Begun is fixed by its body's text.
use Rattle.std.proofs.Common.{◌≡◌, ℕ, List, [], ◌∷◌, Ok, refl, ap, sym, subst, ◌∙◌, map}
use Rattle.ebl_base.specs.declared.chain.ChainLink.{ChainLink}
use Rattle.ebl_base.specs.declared.checksum.Checksum.{Checksum}
use Rattle.ebl_base.specs.declared.signed_text.SignedText.{SignedText}
use Rattle.canonical_json.specs.Canon.{canon}
use Rattle.canonical_json.specs.Reading.{Reads}
use Rattle.canonical_json.specs.Value.{Value}
use Rattle.canonical_json.proofs.Parts.{Reads_once}
use Rattle.document_checksum.specs.Digest.{checksum_of}
use Rattle.signed_envelope.specs.Compact.{IsCompact}
use Rattle.signed_envelope.specs.declared.compact.Parts.{Parts}
use Rattle.signed_envelope.proofs.Readings.{same_parts}
use Rattle.chain_entry.specs.Reading.{entry_of}
use Rattle.envelope_manifest.specs.Body.{BodyRecord, ReadsAs, body_of, body_value}
use Rattle.envelope_manifest.specs.Manifest.{manifest_of}
use Rattle.envelope_manifest.specs.declared.manifest.Manifest.{Manifest}
use Rattle.bill_diary.specs.declared.record.Record.TheVariants.{Begun}
use Rattle.bill_diary.specs.Texts.{HasPayload, LinkIsItsText, LinksAreTheirTexts, IsBodyOf}

-- ---- a text fixes what it says

one_payload : (s t : SignedText) (v w : Value) → HasPayload s v → HasPayload t w → s.0 ≡ t.0 → v ≡ w
one_payload s t v w a b texts =
    let parts : b.parts ≡ a.parts
    = same_parts 16384 s.0 b.parts a.parts
    (subst (λ (x : List ℕ). IsCompact 16384 x b.parts) (sym texts) b.compact) a.compact in
    Reads_once a.parts.payload v w a.reads (subst (λ (p : Parts). Reads p.payload w) parts b.reads)

-- links that are their texts and have one text are one
pub one_link : (a b : ChainLink) → LinkIsItsText a → LinkIsItsText b → a.text ≡ b.text → a ≡ b
one_link a b ra rb same =
    let payloads = one_payload a.text b.text ra.payload rb.payload ra.has_payload rb.has_payload
    (ap (λ (t : SignedText). t.0) same) in
    let both : Ok a.entry ≡ Ok b.entry = sym ra.reads_as ∙ ap entry_of payloads ∙ rb.reads_as in
    let entries : a.entry ≡ b.entry = cc both in
    let names : a.name ≡ b.name = ra.name ∙ ap (λ (t : SignedText). checksum_of t.0) same ∙ sym rb.name in
    λ i. record { text = same i; name = names i; entry = entries i }

heads : (x y : SignedText) (xs ys : List SignedText) → x ∷ xs ≡ y ∷ ys → x ≡ y
heads x y xs ys same = cc same

tails : (x y : SignedText) (xs ys : List SignedText) → x ∷ xs ≡ y ∷ ys → xs ≡ ys
tails x y xs ys same = cc same

-- so are chains
pub one_chain : (a b : List ChainLink) → LinksAreTheirTexts a → LinksAreTheirTexts b
    → map (λ (link : ChainLink). link.text) a ≡ map (λ (link : ChainLink). link.text) b → a ≡ b
one_chain [] [] ra rb same = refl
one_chain [] (y ∷ b) ra rb same = cc same
one_chain (x ∷ a) [] ra rb same = cc same
one_chain (x ∷ a) (y ∷ b) ra rb same =
    let xs = map (λ (link : ChainLink). link.text) a in
    let ys = map (λ (link : ChainLink). link.text) b in
    let first = one_link x y ra.0 rb.0 (heads x.text y.text xs ys same) in
    let rest = one_chain a b ra.1 rb.1 (tails x.text y.text xs ys same) in
    λ i. first i ∷ rest i

-- ---- bodies

pub one_begun : (b b1 : Checksum) (c c1 : List ChainLink) (m m1 : Manifest) (body : List ℕ)
    → IsBodyOf b c m body → LinksAreTheirTexts c → IsBodyOf b1 c1 m1 body → LinksAreTheirTexts c1
    → Begun b c m body ≡ Begun b1 c1 m1 body
one_begun b b1 c c1 m m1 body f are g are1 =
    let values = Reads_once body f.value g.value f.reads g.reads in
    let both : Ok f.parts ≡ Ok g.parts = sym f.reads_as ∙ ap body_of values ∙ g.reads_as in
    let parts : f.parts ≡ g.parts = cc both in
    let chains : c ≡ c1 =
    one_chain c c1 are are1 (sym f.chain_is ∙ ap (λ (p : BodyRecord). p.chain) parts ∙ g.chain_is) in
    let payloads = one_payload f.parts.manifest g.parts.manifest f.manifest_is.payload g.manifest_is.payload
    f.manifest_is.has_payload g.manifest_is.has_payload (ap (λ (p : BodyRecord). p.manifest.0) parts) in
    let two : Ok m ≡ Ok m1 = sym f.manifest_is.reads_as ∙ ap manifest_of payloads ∙ g.manifest_is.reads_as in
    let manifests : m ≡ m1 = cc two in
    let documents : f.document_is.document.text ≡ g.document_is.document.text =
    f.document_is.text_is ∙ ap (λ (p : BodyRecord). canon p.document) parts ∙ sym g.document_is.text_is in
    let bills : b ≡ b1 = sym f.document_is.names ∙ ap checksum_of documents ∙ g.document_is.names in
    λ i. Begun (bills i) (chains i) (manifests i) body

-- a body is the canonical text of the written form of whatever it reads as
pub written_form : (b : Checksum) (c : List ChainLink) (m : Manifest) (body : List ℕ) (parts : BodyRecord)
    → IsBodyOf b c m body → ReadsAs body parts → canon (body_value parts) ≡ body
written_form b c m body parts f (v, reads, reads_as) =
    let values = Reads_once body v f.value reads f.reads in
    let both : Ok parts ≡ Ok f.parts = sym reads_as ∙ ap body_of values ∙ f.reads_as in
    let same : parts ≡ f.parts = cc both in
    ap (λ (p : BodyRecord). canon (body_value p)) same ∙ f.text_is
