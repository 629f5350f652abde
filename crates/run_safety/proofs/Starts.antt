-- The start of a transfer is read as it was written: with the texts of the whole chain.
use Rattle.std.specs.Str.{IsUtf8}
use Rattle.std.proofs.Common.{◌≡◌, ◌≤◌, inl, inr, ℕ, Bool, true, false, cond, List, [], ◌∷◌, Option, Some, None, Result, Ok, Err, refl, sym, ap, subst, ◌∙◌, arith}
use Rattle.std.specs.Prelude.{codes, option_and_then, option_map}
use Rattle.std.specs.Result.{result_unwrap_or}
use Rattle.ebl_base.specs.declared.checksum.Checksum.{Checksum}
use Rattle.ebl_base.specs.declared.chain.ChainLink.{ChainLink}
use Rattle.ebl_base.specs.declared.platform_code.PlatformCode.{PlatformCode}
use Rattle.ebl_base.specs.declared.signed_text.SignedText.{SignedText}
use Rattle.ebl_base.specs.declared.transaction.Transaction.{Transaction}
use Rattle.canonical_json.specs.Canon.{canon}
use Rattle.canonical_json.specs.Field.{under}
use Rattle.canonical_json.specs.Value.{Value, null, flag, int, decimal, text, list, object, depth}
use Rattle.canonical_json.specs.Lawful.{IsLawful, HasTexts}
use Rattle.json.specs.Json as json
use Rattle.canonical_json.specs.Number.{is_fraction, is_big}
use Rattle.canonical_json.specs.Reading.{Reads, value_in, if_tree, has_repeated, has_number, tree_of, value_of}
use Rattle.canonical_json.specs.declared.fault.ReadError.{ReadError}
use Rattle.canonical_json.specs.declared.fault.ReadError.TheVariants.{Repeated, Fraction, Range}
use Rattle.canonical_json.proofs.Parts.{is_lawful-member_of}
use Rattle.canonical_json.proofs.Readings.{is_lawful-value_of, canon_reads, canon_same}
use Rattle.json_forms.proofs.ReadForms.{required-parts}
use Rattle.json_forms.specs.Reading.{signed_in}
use Rattle.signed_envelope.proofs.CompactLemmas.{compact_is_utf8}
use Rattle.transport_document.specs.DocumentRecord.{DocumentRecord}
use Rattle.transport_document.specs.Reading.{document_of}
use Rattle.transport_document.proofs.DocumentLemmas.{text-document_of}
use Rattle.envelope_manifest.specs.Body.{BodyRecord, AreUtf8, IsBody, ReadsAs, all_signed_in, body_of, body_value, body_of_reading, object_in}
use Rattle.envelope_manifest.specs.declared.fault.BodyField.{BodyField}
use Rattle.envelope_manifest.specs.declared.fault.BodyField.TheVariants as fields
use Rattle.envelope_manifest.specs.declared.manifest.Manifest.{Manifest}
use Rattle.envelope_manifest.proofs.ReadBodies.{made_of, object_same}
use Rattle.envelope_manifest.proofs.WholeBodies.{body_of-body_value, IsLawful-body, HasTexts-body, depth-body}
use Rattle.transfer_chain.specs.Checked.{texts_of}
use Rattle.bill_diary.specs.declared.record.Record.{Record}
use Rattle.bill_diary.specs.declared.record.Record.TheVariants.{Signed, Begun}
use Rattle.bill_diary.specs.Searches.{signed_text, last_body}
use Rattle.bill_diary.specs.Texts.{IsCompactText, IsBodyOf, IsDocumentOf, LinksAreTheirTexts}
use Rattle.bill_diary.specs.Sound.{IsSoundHistory, MaySign, MayBegin}
use Rattle.platform_machine.specs.Transfer.{IsStartBody, document_in, document_with, document_of_body, if_body, if_read}
use Rattle.closed_family.specs.Chains.{IsAmong}
use Rattle.run_safety.proofs.Links.{follows_among}

-- ---- what is read is lawful

past_fault : (test : Bool) (fault : ReadError) (rest : Result Value ReadError) (v : Value)
    → cond test (Err fault) rest ≡ Ok v → rest ≡ Ok v
past_fault true fault rest v is = cc is
past_fault false fault rest v is = is

lawful_tree : (o : Option json.Json) (v : Value) → if_tree o ≡ Ok v → IsLawful v
lawful_tree None v is = cc is
lawful_tree (Some t) v is =
    let third = past_fault (has_number is_big t) Range (Ok (value_of t)) v
    (past_fault (has_number is_fraction t) Fraction _ v (past_fault (has_repeated t) Repeated _ v is)) in
    let same : value_of t ≡ v = cc third in
    subst IsLawful same (is_lawful-value_of t)

reads_lawful : (bytes : List ℕ) (v : Value) → Reads bytes v → IsLawful v
unfolding value_in
reads_lawful bytes v is = lawful_tree (tree_of bytes) v is

document_lawful : (v : Value) (parts : BodyRecord) → IsLawful v → body_of v ≡ Ok parts → IsLawful parts.document
document_lawful null parts lawful is = cc is
document_lawful (flag b) parts lawful is = cc is
document_lawful (int z) parts lawful is = cc is
document_lawful (decimal z s) parts lawful is = cc is
document_lawful (text t) parts lawful is = cc is
document_lawful (list vs) parts lawful is = cc is
document_lawful (object ms) parts lawful is =
    let first = required-parts fields.Document (option_and_then object_in (under (codes "document") ms)) _ parts is in
    let second = required-parts fields.Manifest (option_and_then signed_in (under (codes "manifest") ms)) _ parts
    first.2 in
    let third = required-parts fields.Chain (option_and_then all_signed_in (under (codes "chain") ms)) _ parts second.2 in
    let document = made_of object_in (under (codes "document") ms) first.0 first.1 in
    let same : document.0 ≡ first.0 = object_same document.0 first.0 document.2 in
    let made : BodyRecord = record { document = first.0; manifest = second.0; chain = third.0 } in
    let whole : made ≡ parts = ap (λ (r : Result BodyRecord BodyField). result_unwrap_or r parts) third.2 in
    subst (λ (b : BodyRecord). IsLawful b.document) whole
    (subst IsLawful same (is_lawful-member_of (codes "document") (object ms) document.0 lawful document.1))

-- ---- documents

-- a document that may stand in a body
pub record IsInnerDocument (v : Value) : Type 0 where
  pub lawful : IsLawful v
  pub texts : HasTexts v
  pub nests : depth v ≤ 126
  pub is_object : object_in v ≡ Some v

document_is_object : (v : Value) (document : DocumentRecord) → document_of v ≡ Ok document → object_in v ≡ Some v
document_is_object null document is = cc is
document_is_object (flag b) document is = cc is
document_is_object (int z) document is = cc is
document_is_object (decimal z s) document is = cc is
document_is_object (text t) document is = cc is
document_is_object (list vs) document is = cc is
document_is_object (object ms) document is = refl

inner : (bill : Checksum) (t : List ℕ) (is : IsDocumentOf bill t) → IsInnerDocument is.value
inner bill t is = record {
  lawful = is.lawful;
  texts = is.texts;
  nests = is.nests;
  is_object = document_is_object is.value is.document is.reads;
}

-- ---- the document of a bill

record HasSignedText (h : List Record) (t : List ℕ) : Type 0 where
  bill : Checksum
  transaction : Transaction
  among : IsAmong (Signed bill t transaction) h

signed_text_among : (h : List Record) (t : List ℕ) → signed_text h ≡ Some t → HasSignedText h t
signed_text_among [] t is = cc is
signed_text_among (Signed b x u ∷ h) t is =
    let same : x ≡ t = cc is in
    record { bill = b; transaction = u; among = inl (ap (λ (y : List ℕ). Signed b y u) same) }
signed_text_among (r ∷ h) t is =
    let s = signed_text_among h t is in
    record { bill = s.bill; transaction = s.transaction; among = inr s.among }

record HasBody (h : List Record) (body : List ℕ) : Type 0 where
  bill : Checksum
  chain : List ChainLink
  manifest : Manifest
  among : IsAmong (Begun bill chain manifest body) h

last_body_among : (h : List Record) (body : List ℕ) → last_body h ≡ Some body → HasBody h body
last_body_among [] body is = cc is
last_body_among (Begun b c m t ∷ h) body is =
    let same : t ≡ body = cc is in
    record { bill = b; chain = c; manifest = m; among = inl (ap (λ (y : List ℕ). Begun b c m y) same) }
last_body_among (r ∷ h) body is =
    let s = last_body_among h body is in
    record { bill = s.bill; chain = s.chain; manifest = s.manifest; among = inr s.among }

-- the document that was signed
signed_document : (bill : Checksum) (t : List ℕ) → IsDocumentOf bill t → (v : Value) → if_read (value_in t) ≡ Some v
    → IsInnerDocument v
signed_document bill t is v found =
    let read : value_in t ≡ Ok is.value
    = ap value_in (sym is.text_is ∙ text-document_of is.value is.document is.reads)
    ∙ canon_reads is.value is.lawful is.texts (omega (arith, is.nests)) in
    let two = sym (ap if_read read) ∙ found in
    let same : is.value ≡ v = cc two in
    subst IsInnerDocument same (inner bill t is)

-- the document that came with a body
body_document : (bill : Checksum) (chain : List ChainLink) (manifest : Manifest) (body : List ℕ)
    → IsBodyOf bill chain manifest body → (v : Value) → document_of_body body ≡ Some v → IsInnerDocument v
body_document bill chain manifest body is v found =
    let read : document_of_body body ≡ Some is.parts.document
    = ap (λ (r : Result Value _). option_map (λ (parts : BodyRecord). parts.document) (if_body (body_of_reading r))) is.reads
    ∙ ap (λ (r : Result BodyRecord BodyField). option_map (λ (parts : BodyRecord). parts.document) (if_body r))
    is.reads_as in
    let two = sym read ∙ found in
    let same : is.parts.document ≡ v = cc two in
    let d = is.document_is in
    let values : d.value ≡ is.parts.document
    = canon_same d.value is.parts.document d.lawful
    (document_lawful is.value is.parts (reads_lawful body is.value is.reads) is.reads_as)
    (sym (text-document_of d.value d.document d.reads) ∙ d.text_is) in
    subst IsInnerDocument (values ∙ same) (inner bill (canon is.parts.document) d)

document_there : (me : PlatformCode) (h : List Record) → IsSoundHistory me h → (v : Value) → document_in h ≡ Some v
    → IsInnerDocument v
document_there me h sound v is = on_text (signed_text h) (last_body h) refl refl is
  where
    on_text : (t body : Option (List ℕ)) → signed_text h ≡ t → last_body h ≡ body → document_with t body ≡ Some v
        → IsInnerDocument v
    on_text (Some t) body signed came found =
        let s = signed_text_among h t signed in
        let (before, follows) = follows_among me h (Signed s.bill t s.transaction) sound s.among in
        let may : MaySign me before s.bill t s.transaction = follows in
        signed_document s.bill t may.document_is v found
    on_text None (Some body) signed came found =
        let s = last_body_among h body came in
        let (before, follows) = follows_among me h (Begun s.bill s.chain s.manifest body) sound s.among in
        let may : MayBegin me before before s.bill s.chain s.manifest body = follows in
        body_document s.bill s.chain s.manifest body may.body_is v found
    on_text None None signed came found = cc found

-- ---- the start

links_are_utf8 : (chain : List ChainLink) → LinksAreTheirTexts chain → AreUtf8 (texts_of chain)
links_are_utf8 [] are = tt
links_are_utf8 (link ∷ chain) are = (
  compact_is_utf8 16384 link.text.0 are.0.has_payload.parts are.0.has_payload.compact,
  links_are_utf8 chain are.1,
)

pub start_reads : (me : PlatformCode) (h : List Record) (chain : List ChainLink) (manifest_text : SignedText)
    (body : List ℕ) → IsSoundHistory me h → LinksAreTheirTexts chain → IsCompactText manifest_text
    → (is : IsStartBody h chain manifest_text body) → ReadsAs body is.parts
start_reads me h chain manifest_text body sound links compact is =
    let d = document_there me h sound is.parts.document is.document_is in
    let form : IsBody is.parts = record {
      object = d.is_object;
      lawful = d.lawful;
      texts = d.texts;
      manifest = subst (λ (t : SignedText). IsUtf8 t.0) (sym is.manifest_is)
          (compact_is_utf8 16384 manifest_text.0 compact.0 compact.1);
      chain = subst AreUtf8 (sym is.chain_is) (links_are_utf8 chain links);
    } in (
      body_value is.parts,
      subst (λ (b : List ℕ). Reads b (body_value is.parts)) (sym is.text_is)
          (canon_reads (body_value is.parts) (IsLawful-body is.parts d.lawful) (HasTexts-body is.parts form)
          (depth-body is.parts d.nests)),
      body_of-body_value is.parts d.is_object,
    )
