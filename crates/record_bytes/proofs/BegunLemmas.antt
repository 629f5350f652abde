-- What a body makes, and what it doesn't.
use Rattle.std.proofs.Common.{◌≡◌, ℕ, ◌≤◌, List, Ok, length, map, refl, sym, ◌∙◌, ap, subst, arith}
use Rattle.std.proofs.lemmas.List.{length-map}
use Rattle.ebl_base.specs.declared.chain.ChainLink.{ChainLink}
use Rattle.ebl_base.specs.declared.checksum.Checksum.{Checksum}
use Rattle.ebl_base.specs.declared.signed_text.SignedText.{SignedText}
use Rattle.canonical_json.specs.Value.{depth}
use Rattle.canonical_json.specs.Canon.{canon}
use Rattle.canonical_json.proofs.Readings.{canon_reads}
use Rattle.envelope_manifest.specs.Body.{BodyRecord, IsBody, ReadsAs, body_value}
use Rattle.envelope_manifest.specs.declared.manifest.Manifest.{Manifest}
use Rattle.envelope_manifest.proofs.WholeBodies.{body_once}
use Rattle.transport_document.specs.DocumentRecord.{DocumentRecord, bill_of}
use Rattle.transport_document.specs.Reading.{document_of}
use Rattle.transport_document.proofs.DocumentLemmas.{text-document_of}
use Rattle.bill_diary.specs.declared.record.Record.{Record}
use Rattle.bill_diary.specs.declared.record.Record.TheVariants.{Begun}
use Rattle.bill_diary.specs.Texts.{ManifestIsItsText, IsDocumentOf, IsBodyOf}
use Rattle.bill_diary.proofs.BegunLemmas.{one_begun}
use Rattle.record_bytes.specs.Fields.{IsShort, text_bytes}
use Rattle.record_bytes.specs.Forms.{IsBegun}
use Rattle.record_bytes.specs.Reading.{AreFields, AreLinksOf, IsBodyWith}
use Rattle.record_bytes.proofs.FieldLemmas.{same_whole}
use Rattle.record_bytes.proofs.DocumentLemmas.{document_said}
use Rattle.record_bytes.proofs.RecordParts.{begun_parts}

-- a Begun with this body
pub record BegunOf (text : List ℕ) : Type 0 where
  pub bill : Checksum
  pub chain : List ChainLink
  pub manifest : Manifest
  pub form : IsBegun bill chain manifest text

pub begun_with_body : (text : List ℕ) (r : Record) → IsShort text → AreFields 7 (text_bytes text) r → BegunOf text
begun_with_body text r short are =
    let p = begun_parts (text_bytes text) r are in
    let same : p.body ≡ text = same_whole (text_bytes text) p.body text p.text (record { short = short; bytes_are = refl }) in
    record {
      bill = p.bill;
      chain = p.chain;
      manifest = p.manifest;
      form = subst (λ (t : List ℕ). IsBegun p.bill p.chain p.manifest t) same p.form;
    }

-- its text reads as a body, and as one body alone
body_read : (text : List ℕ) (b : BegunOf text) → ReadsAs text b.form.body_is.parts
body_read text b = (b.form.body_is.value, b.form.body_is.reads, b.form.body_is.reads_as)

one_body : (text : List ℕ) (b : BegunOf text) (parts : BodyRecord) → ReadsAs text parts → b.form.body_is.parts ≡ parts
one_body text b parts reads = body_once text b.form.body_is.parts parts (body_read text b) reads

pub no_begun_body : (text : List ℕ) → IsShort text → ((parts : BodyRecord) → ¬ ReadsAs text parts) → (r : Record)
    → ¬ AreFields 7 (text_bytes text) r
no_begun_body text short none r are =
    let b = begun_with_body text r short are in none b.form.body_is.parts (body_read text b)

-- so where the text isn't the written form of what it reads as, or a part of that is wrong, there is no Begun
pub no_begun_written : (text : List ℕ) (parts : BodyRecord) → IsShort text → ReadsAs text parts
    → ¬ (canon (body_value parts) ≡ text) → (r : Record) → ¬ AreFields 7 (text_bytes text) r
no_begun_written text parts short reads differs r are =
    let b = begun_with_body text r short are in
    differs (ap (λ (p : BodyRecord). canon (body_value p)) (sym (one_body text b parts reads)) ∙ b.form.body_is.text_is)

pub no_begun_document : (text : List ℕ) (parts : BodyRecord) → IsShort text → ReadsAs text parts → IsBody parts
    → depth parts.document ≤ 126 → ((d : DocumentRecord) → ¬ (document_of parts.document ≡ Ok d)) → (r : Record)
    → ¬ AreFields 7 (text_bytes text) r
no_begun_document text parts short reads form flat none r are =
    let b = begun_with_body text r short are in
    let document : IsDocumentOf b.bill (canon parts.document) =
    subst (λ (p : BodyRecord). IsDocumentOf b.bill (canon p.document)) (one_body text b parts reads)
    b.form.body_is.document_is in
    none document.document
    (document_said b.bill (canon parts.document) parts.document
    (canon_reads parts.document form.lawful form.texts (omega (arith, flat))) document)

-- ---- of a body whose document is one

abbrev parts_of : (text : List ℕ) (document : DocumentRecord) (manifest : SignedText) (chain : List SignedText)
    → IsBodyWith text document manifest chain → BodyRecord
parts_of text document manifest chain is = record { document = is.value; manifest = manifest; chain = chain }

pub no_begun_count : (text : List ℕ) (document : DocumentRecord) (manifest : SignedText) (chain : List SignedText)
    → IsShort text → IsBodyWith text document manifest chain → ¬ ((1 ≤ length chain) × (length chain ≤ 64))
    → (r : Record) → ¬ AreFields 7 (text_bytes text) r
no_begun_count text document manifest chain short is count r are =
    let b = begun_with_body text r short are in
    let texts : map (λ (l : ChainLink). l.text) b.chain ≡ chain =
    sym b.form.body_is.chain_is
    ∙ ap (λ (p : BodyRecord). p.chain) (one_body text b (parts_of text document manifest chain is) is.reads) in
    let size : length b.chain ≡ length chain =
    sym (length-map b.chain (λ (l : ChainLink). l.text)) ∙ ap length texts in
    let some = b.form.some in
    let most = b.form.most in
    count (omega (arith, size, some), omega (arith, size, most))

pub no_begun_manifest : (text : List ℕ) (document : DocumentRecord) (manifest : SignedText) (chain : List SignedText)
    → IsShort text → IsBodyWith text document manifest chain → ((m : Manifest) → ¬ ManifestIsItsText manifest m)
    → (r : Record) → ¬ AreFields 7 (text_bytes text) r
no_begun_manifest text document manifest chain short is none r are =
    let b = begun_with_body text r short are in
    none b.manifest
    (subst (λ (p : BodyRecord). ManifestIsItsText p.manifest b.manifest)
    (one_body text b (parts_of text document manifest chain is) is.reads) b.form.body_is.manifest_is)

pub no_begun_chain : (text : List ℕ) (document : DocumentRecord) (manifest : SignedText) (chain : List SignedText)
    → IsShort text → IsBodyWith text document manifest chain → ((links : List ChainLink) → ¬ AreLinksOf chain links)
    → (r : Record) → ¬ AreFields 7 (text_bytes text) r
no_begun_chain text document manifest chain short is none r are =
    let b = begun_with_body text r short are in
    none b.chain (record {
      texts_are =
          sym (ap (λ (p : BodyRecord). p.chain) (one_body text b (parts_of text document manifest chain is) is.reads))
          ∙ b.form.body_is.chain_is;
      links_are = b.form.links_are;
    })

pub begun_found : (text body : List ℕ) (document : DocumentRecord) (manifest_text : SignedText)
    → (texts : List SignedText) (manifest : Manifest) (chain : List ChainLink) → IsShort text
    → IsBodyWith text document manifest_text texts → 1 ≤ length texts → length texts ≤ 64
    → ManifestIsItsText manifest_text manifest → AreLinksOf texts chain → body ≡ text
    → AreFields 7 (text_bytes text) (Begun (bill_of document) chain manifest body)
begun_found text body document manifest_text texts manifest chain short is some most manifest_is links same =
    let size : length texts ≡ length chain =
    ap length links.texts_are ∙ length-map chain (λ (l : ChainLink). l.text) in
    let whole : AreFields 7 (text_bytes text) (Begun (bill_of document) chain manifest text) = record {
      kind = refl;
      form = record {
        body_is = record {
          value = is.reads.0;
          reads = is.reads.1;
          parts = parts_of text document manifest_text texts is;
          reads_as = is.reads.2;
          text_is = is.text_is;
          document_is = record {
            value = is.value;
            lawful = is.form.lawful;
            texts = is.form.texts;
            nests = is.nests;
            document = document;
            reads = is.said;
            text_is = text-document_of is.value document is.said;
            names = refl;
          };
          manifest_is = manifest_is;
          chain_is = links.texts_are;
        };
        links_are = links.links_are;
        some = omega (arith, size, some);
        most = omega (arith, size, most);
        short = short;
      };
      fields_are = refl;
    } in
    subst (λ (t : List ℕ). AreFields 7 (text_bytes text) (Begun (bill_of document) chain manifest t)) (sym same) whole

-- a body makes one Begun
pub one_begun_of : (text : List ℕ) (r s : Record) → AreFields 7 (text_bytes text) r → AreFields 7 (text_bytes text) s
    → r ≡ s
one_begun_of text r s p q = by r s p q
  where
    by : (a b : Record) → AreFields 7 (text_bytes text) a → AreFields 7 (text_bytes text) b → a ≡ b
    by (Begun b c m d) (Begun e f n g) x y =
        let same : d ≡ g = same_whole (text_bytes text) d g
        (record { short = x.form.short; bytes_are = x.fields_are }) (record { short = y.form.short; bytes_are = y.fields_are }) in
        ap (λ (z : List ℕ). Begun b c m z) same
        ∙ one_begun b e c f m n g (subst (λ (z : List ℕ). IsBodyOf b c m z) same x.form.body_is) x.form.links_are
        y.form.body_is y.form.links_are
    by (Begun b c m d) other x y = absurd (omega (arith, y.kind))
    by other b x y = absurd (omega (arith, x.kind))
