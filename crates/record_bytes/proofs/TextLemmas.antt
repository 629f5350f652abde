-- Texts fix what they say.
use Rattle.std.proofs.Common.{◌≡◌, ◌≢◌, ℕ, ◌<◌, ◌≤◌, ◌^◌, true, List, [], ◌∷◌, ◌++◌, Option, Some, None, Result, Ok, Err, IfOk, MatchOption, length, map, refl, sym, ◌∙◌, ap, subst, arith, append_assoc, append-nil}
use Rattle.ebl_base.specs.declared.chain.ChainLink.{ChainLink}
use Rattle.ebl_base.specs.declared.checksum.Checksum.{Checksum}
use Rattle.ebl_base.specs.declared.entry.Entry.{Entry}
use Rattle.ebl_base.specs.declared.signed_text.SignedText.{SignedText}
use Rattle.ebl_base.specs.declared.transaction.Transaction.{Transaction}
use Rattle.canonical_json.specs.Value.{Value}
use Rattle.canonical_json.specs.View.{view}
use Rattle.canonical_json.specs.declared.value.Json.{Json}
use Rattle.ebl_base.specs.declared.no_memory.NoMemory.{NoMemory}
use Rattle.canonical_json.specs.Canon.{canon}
use Rattle.canonical_json.specs.Reading.{IsUnread, Reads}
use Rattle.canonical_json.proofs.Parts.{Reads_once}
use Rattle.canonical_json.proofs.Readings.{canon_reads}
use Rattle.document_checksum.specs.Digest.{checksum_of}
use Rattle.chain_entry.specs.Form.{IsTransaction}
use Rattle.chain_entry.specs.Reading.{transaction_of, entry_of}
use Rattle.chain_entry.specs.Writing.{transaction_value}
use Rattle.chain_entry.proofs.CanonicalForms.{transaction-lawful, transaction-texts, transaction-depth}
use Rattle.chain_entry.proofs.RoundTrips.{transaction-reads_back, transaction_form}
use Rattle.envelope_manifest.specs.Piece.{IsPiece, piece_of, piece_value}
use Rattle.envelope_manifest.specs.declared.piece.Piece.{Piece}
use Rattle.envelope_manifest.proofs.ManifestLemmas.{piece_of-piece_value, IsLawful-piece, HasTexts-piece}
use Rattle.envelope_manifest.specs.Manifest.{manifest_of}
use Rattle.envelope_manifest.specs.declared.manifest.Manifest.{Manifest}
use Rattle.signed_envelope.specs.Compact.{IsCompact}
use Rattle.signed_envelope.specs.declared.compact.Parts.{Parts}
use Rattle.signed_envelope.proofs.Readings.{same_parts}
use Rattle.bill_diary.specs.Texts.{HasPayload, LinkIsItsText, LinksAreTheirTexts, ManifestIsItsText}
use Rattle.record_bytes.specs.Reading.{IsTransactionText, IsPieceText, SaysEntry, IsLinkOf, AreLinksOf}

-- ---- transactions and listed documents

-- the text of a transaction reads as its written form
pub transaction_reads : (text : List ℕ) (t : Transaction) → IsTransactionText text t → Reads text (transaction_value t)
transaction_reads text t is =
    subst (λ (x : List ℕ). Reads x (transaction_value t)) (sym is.text_is)
    (canon_reads (transaction_value t) (transaction-lawful t) (transaction-texts t) (omega (arith, transaction-depth t)))

-- so what the text reads as is that transaction
pub transaction_said : (text : List ℕ) (v : Value) (t : Transaction) → Reads text v → IsTransactionText text t
    → transaction_of v ≡ Some t
transaction_said text v t reads is =
    ap transaction_of (Reads_once text v (transaction_value t) reads (transaction_reads text t is))
    ∙ transaction-reads_back t is.form

pub no_transaction_unread : (text : List ℕ) → IsUnread text → (t : Transaction) → ¬ IsTransactionText text t
no_transaction_unread text unread t is = unread (transaction_value t) (transaction_reads text t is)

pub no_transaction_said : (text : List ℕ) (v : Value) (o : Option Transaction) → Reads text v → o ≡ transaction_of v
    → ((t : Transaction) → o ≡ Some t → ⊥) → (t : Transaction) → ¬ IsTransactionText text t
no_transaction_said text v o reads same never t is = never t (same ∙ transaction_said text v t reads is)

-- a text that differs from the written form of what it says is no transaction's
pub transaction_differs : (text : List ℕ) (v : Value) (t : Transaction) → Reads text v → Some t ≡ transaction_of v
    → canon (transaction_value t) ≢ text → (u : Transaction) → ¬ IsTransactionText text u
transaction_differs text v t reads said differs u is =
    let both : Some t ≡ Some u = said ∙ transaction_said text v u reads is in
    let same : t ≡ u = cc both in
    differs (ap (λ (x : Transaction). canon (transaction_value x)) same ∙ sym is.text_is)

pub transaction_found : (text : List ℕ) (v : Value) (t : Transaction) → Some t ≡ transaction_of v
    → canon (transaction_value t) ≡ text → IsTransactionText text t
transaction_found text v t said same = record { form = transaction_form v t (sym said); text_is = sym same }

pub piece_reads : (text : List ℕ) (piece : Piece) → IsPieceText text piece → Reads text (piece_value piece)
piece_reads text piece is =
    subst (λ (x : List ℕ). Reads x (piece_value piece)) (sym is.text_is)
    (canon_reads (piece_value piece) (IsLawful-piece piece is.form) (HasTexts-piece piece is.form) (omega arith))

pub piece_said : (text : List ℕ) (v : Value) (piece : Piece) → Reads text v → IsPieceText text piece
    → piece_of v ≡ Ok piece
piece_said text v piece reads is =
    ap piece_of (Reads_once text v (piece_value piece) reads (piece_reads text piece is))
    ∙ piece_of-piece_value piece is.form

pub no_piece_unread : (text : List ℕ) → IsUnread text → (piece : Piece) → ¬ IsPieceText text piece
no_piece_unread text unread piece is = unread (piece_value piece) (piece_reads text piece is)

pub no_piece_said : (text : List ℕ) (v : Value) → Reads text v → ((piece : Piece) → ¬ (piece_of v ≡ Ok piece))
    → (piece : Piece) → ¬ IsPieceText text piece
no_piece_said text v reads never piece is = never piece (piece_said text v piece reads is)

pub piece_differs : (text : List ℕ) (v : Value) (piece : Piece) → Reads text v → piece_of v ≡ Ok piece
    → canon (piece_value piece) ≢ text → (other : Piece) → ¬ IsPieceText text other
piece_differs text v piece reads said differs other is =
    let both : Ok piece ≡ Ok other = sym said ∙ piece_said text v other reads is in
    let same : piece ≡ other = cc both in
    differs (ap (λ (x : Piece). canon (piece_value x)) same ∙ sym is.text_is)

-- ---- payloads

pub one_payload : (text : SignedText) (v w : Value) → HasPayload text v → HasPayload text w → v ≡ w
one_payload text v w a b =
    let parts : b.parts ≡ a.parts = same_parts 16384 text.0 b.parts a.parts b.compact a.compact in
    Reads_once a.parts.payload v w a.reads (subst (λ (p : Parts). Reads p.payload w) parts b.reads)

-- the payload is that of the parts that were found
pub payload_found : (text : SignedText) (parts : Parts) (v : Value) → IsCompact 16384 text.0 parts → HasPayload text v
    → Reads parts.payload v
payload_found text parts v compact has =
    let same : has.parts ≡ parts = same_parts 16384 text.0 has.parts parts has.compact compact in
    subst (λ (p : Parts). Reads p.payload v) same has.reads

pub no_payload_read : (text : SignedText) (parts : Parts) → IsCompact 16384 text.0 parts → IsUnread parts.payload
    → (v : Value) → ¬ HasPayload text v
no_payload_read text parts compact unread v has = unread v (payload_found text parts v compact has)

-- what the reading of a payload gives is the text's payload
pub payload_result : (text : SignedText) (t bytes : List ℕ) (parts : Parts) (r : Result (Option Json) NoMemory)
    → t ≡ text.0 → IsCompact 16384 t parts → bytes ≡ parts.payload
    → IfOk r (λ any. MatchOption any (IsUnread bytes) (λ json. Reads bytes (view json)))
    → IfOk r (λ found. MatchOption found ((v : Value) → ¬ HasPayload text v) (λ json. HasPayload text (view json)))
payload_result text t bytes parts (Ok None) same compact payload unread =
    no_payload_read text parts (subst (λ (x : List ℕ). IsCompact 16384 x parts) same compact)
    (subst IsUnread payload unread)
payload_result text t bytes parts (Ok (Some json)) same compact payload reads = record {
  parts = parts;
  compact = subst (λ (x : List ℕ). IsCompact 16384 x parts) same compact;
  reads = subst (λ (x : List ℕ). Reads x (view json)) payload reads;
}
payload_result text t bytes parts (Err e) same compact payload reads = tt

-- the entry of a link, and of its text
pub entry_said : (text : SignedText) (v : Value) (entry : Entry) → HasPayload text v → SaysEntry text entry
    → entry_of v ≡ Ok entry
entry_said text v entry has says =
    ap entry_of (one_payload text v says.payload has says.has_payload) ∙ says.reads_as

pub no_entry_payload : (text : SignedText) → ((v : Value) → ¬ HasPayload text v) → (entry : Entry) → ¬ SaysEntry text entry
no_entry_payload text none entry says = none says.payload says.has_payload

pub entry_here : (text : SignedText) (v : Value) → HasPayload text v → (entry : Entry) → entry_of v ≡ Ok entry
    → SaysEntry text entry
entry_here text v has entry said = record { payload = v; has_payload = has; reads_as = said }

pub link_says : (text : SignedText) (link : ChainLink) → IsLinkOf text link → SaysEntry text link.entry
link_says text link is =
    subst (λ (t : SignedText). SaysEntry t link.entry) is.text_is
    (record {
      payload = is.link_is.payload;
      has_payload = is.link_is.has_payload;
      reads_as = is.link_is.reads_as;
    })

pub no_link : (text : SignedText) → ((entry : Entry) → ¬ SaysEntry text entry) → (link : ChainLink)
    → ¬ IsLinkOf text link
no_link text none link is = none link.entry (link_says text link is)

-- manifests
pub manifest_said : (text : SignedText) (v : Value) → HasPayload text v → (manifest : Manifest)
    → ManifestIsItsText text manifest → manifest_of v ≡ Ok manifest
manifest_said text v has manifest is =
    ap manifest_of (one_payload text v is.payload has is.has_payload) ∙ is.reads_as

pub manifest_here : (text : SignedText) (v : Value) → HasPayload text v → (manifest : Manifest)
    → manifest_of v ≡ Ok manifest → ManifestIsItsText text manifest
manifest_here text v has manifest said = record { payload = v; has_payload = has; reads_as = said }

pub no_manifest_payload : (text : SignedText) → ((v : Value) → ¬ HasPayload text v) → (manifest : Manifest)
    → ¬ ManifestIsItsText text manifest
no_manifest_payload text none manifest is = none is.payload is.has_payload

-- ---- chains

links_push : (links : List ChainLink) (link : ChainLink) → LinksAreTheirTexts links → LinkIsItsText link
    → LinksAreTheirTexts (links ++ link ∷ [])
links_push [] link are is = (is, tt)
links_push (x ∷ links) link are is = (are.0, links_push links link are.1 is)

map_push : (links : List ChainLink) (link : ChainLink)
    → map (λ (l : ChainLink). l.text) (links ++ link ∷ []) ≡ map (λ (l : ChainLink). l.text) links ++ link.text ∷ []
map_push [] link = refl
map_push (x ∷ links) link = ap (λ (l : List SignedText). x.text ∷ l) (map_push links link)

-- a link more
pub links_more : (front : List SignedText) (links after : List ChainLink) (text : SignedText) (link : ChainLink)
    → AreLinksOf front links → IsLinkOf text link → after ≡ links ++ link ∷ [] → AreLinksOf (front ++ text ∷ []) after
links_more front links after text link are is same =
    subst (AreLinksOf (front ++ text ∷ [])) (sym same) (record {
      texts_are = ap (λ (l : List SignedText). l ++ text ∷ []) are.texts_are
          ∙ ap (λ (t : SignedText). map (λ (l : ChainLink). l.text) links ++ t ∷ []) (sym is.text_is)
          ∙ sym (map_push links link);
      links_are = links_push links link are.links_are is.link_is;
    })

-- where texts make a chain, each of them makes a link
pub link_among : (front rest : List SignedText) (text : SignedText) (links : List ChainLink)
    → AreLinksOf (front ++ text ∷ rest) links → (link : ChainLink) × IsLinkOf text link
link_among [] rest text [] are = absurd (cc (are.texts_are))
link_among [] rest text (link ∷ links) are =
    let first : text ≡ link.text = cc (are.texts_are) in
    (link, record { text_is = sym first; link_is = are.links_are.0 })
link_among (x ∷ front) rest text [] are = absurd (cc (are.texts_are))
link_among (x ∷ front) rest text (link ∷ links) are =
    let behind : front ++ text ∷ rest ≡ map (λ (l : ChainLink). l.text) links = cc (are.texts_are) in
    link_among front rest text links (record { texts_are = behind; links_are = are.links_are.1 })

-- the links of the first texts are made, and these texts are left
pub record MadeSoFar (texts : List SignedText) (links : List ChainLink) (rest : List SignedText) : Type 0 where
  pub front : List SignedText
  pub split : texts ≡ front ++ rest
  pub are : AreLinksOf front links

pub one_more_made : (texts rest : List SignedText) (text : SignedText) (links after : List ChainLink) (link : ChainLink)
    → MadeSoFar texts links (text ∷ rest) → IsLinkOf text link → after ≡ links ++ link ∷ [] → MadeSoFar texts after rest
one_more_made texts rest text links after link made is same = record {
  front = made.front ++ text ∷ [];
  split = made.split ∙ sym (append_assoc made.front (text ∷ []) rest);
  are = links_more made.front links after text link made.are is same;
}

pub not_made : (texts rest : List SignedText) (text : SignedText) (links : List ChainLink)
    → MadeSoFar texts links (text ∷ rest) → ((link : ChainLink) → ¬ IsLinkOf text link) → (chain : List ChainLink)
    → ¬ AreLinksOf texts chain
not_made texts rest text links made none chain are =
    let one = link_among made.front rest text chain (subst (λ (ts : List SignedText). AreLinksOf ts chain) made.split are) in
    none one.0 one.1
