-- In a sound history the transactions that were made and the documents of the bill have their forms.
use Rattle.std.proofs.Common.{◌≡◌, ◌+◌, ◌≤◌, ◌<◌, ℕ, Bool, true, false, not, ◌&&◌, ◌||◌, cond, List, [], ◌∷◌, ◌++◌, Option, Some, None, length, refl, sym, ap, subst, ◌∙◌, arith, length-append}
use Rattle.std.specs.Prelude.{All, IfSome, IsTrue, map, sum_by, nat_le, option_map, count_by}
use Rattle.std.specs.List.{list_any}
use Rattle.std.specs.Option.{option_or, option_map_or}
use Rattle.std.specs.Set.{is_member}
use Rattle.std.proofs.lemmas.Bool.{le-leb, or_parts, not-true, and_parts}
use Rattle.std.proofs.lemmas.List.Elements.{All-append, All-nil, All-cons}
use Rattle.std.proofs.lemmas.List.Sums.{sum_by-append}
use Rattle.ebl_base.specs.Checksum.{checksum_eq}
use Rattle.ebl_base.specs.PlatformCode.{IsCode}
use Rattle.ebl_base.specs.declared.checksum.Checksum.{Checksum}
use Rattle.ebl_base.specs.declared.chain.ChainLink.{ChainLink}
use Rattle.ebl_base.specs.declared.platform_code.PlatformCode.{PlatformCode}
use Rattle.ebl_base.specs.declared.transaction.Transaction.{Transaction}
use Rattle.chain_entry.specs.Form.{IsTransaction, IsEntry}
use Rattle.document_checksum.specs.Digest.{IsChecksum, checksum_of}
use Rattle.sha2.proofs.Facts256.{length-sha256}
use Rattle.document_checksum.proofs.DigestBytes.{IsBytes-sha256}
use Rattle.envelope_manifest.specs.declared.piece.Piece.{Piece}
use Rattle.envelope_manifest.specs.declared.manifest.Manifest.{Manifest}
use Rattle.envelope_manifest.specs.Piece.{IsPiece}
use Rattle.envelope_manifest.specs.Manifest.{are_distinct, checksums_of, total_size, go_together, ArePieces, AreDocuments, IsManifest}
use Rattle.bill_chain.specs.Chain.{last_of, last_name, ends_in}
use Rattle.bill_diary.specs.declared.record.Record.{Record}
use Rattle.bill_diary.specs.declared.record.Record.TheVariants.{Signed, Acted, Attached, Parted, Settled, Regained, Begun, Stored, Taken, Declined}
use Rattle.bill_diary.specs.declared.bill_place.BillPlace.TheVariants.{Held}
use Rattle.bill_diary.specs.Known.{Received, last_begun}
use Rattle.bill_diary.specs.Place.{place_of, since, chain_at}
use Rattle.bill_diary.specs.Pieces.{lists, pieces_of}
use Rattle.bill_diary.specs.Texts.{LinkIsItsText, LinksAreTheirTexts}
use Rattle.bill_diary.specs.Sound.{IsSoundHistory, MayAttach, is_parted}
use Rattle.bill_diary.proofs.PlaceLemmas.{stands}
use Rattle.bill_diary.proofs.TextLemmas.{chain_at_texts}
use Rattle.transfer_judge.specs.Plan.{entry_by}

-- ---- transactions

pub since_forms : (me : PlatformCode) (h : List Record) → IsSoundHistory me h → All IsTransaction (since h)
since_forms me [] sound = All-nil IsTransaction
since_forms me (Signed b x t ∷ h) sound =
    All-append IsTransaction (since h) (t ∷ []) (since_forms me h sound.1)
    (All-cons IsTransaction t [] sound.0.form (All-nil IsTransaction))
since_forms me (Acted b t ∷ h) sound =
    All-append IsTransaction (since h) (t ∷ []) (since_forms me h sound.1)
    (All-cons IsTransaction t [] sound.0.form (All-nil IsTransaction))
since_forms me (Taken b e ∷ h) sound = All-nil IsTransaction
since_forms me (Attached b q x ∷ h) sound = since_forms me h sound.1
since_forms me (Parted b l m x ∷ h) sound = since_forms me h sound.1
since_forms me (Settled b e ∷ h) sound = since_forms me h sound.1
since_forms me (Regained b e ∷ h) sound = since_forms me h sound.1
since_forms me (Begun b c m x ∷ h) sound = since_forms me h sound.1
since_forms me (Stored b e c x ∷ h) sound = since_forms me h sound.1
since_forms me (Declined b e c q v ∷ h) sound = since_forms me h sound.1

-- ---- the name of the last link

pub checksum_form : (text : List ℕ) → IsChecksum (checksum_of text)
checksum_form text = record { size = length-sha256 text; bytes = IsBytes-sha256 text }

last_text : (chain : List ChainLink) → LinksAreTheirTexts chain → IfSome (last_of chain) LinkIsItsText
last_text [] are = tt
last_text (link ∷ links) are = on_rest (last_of links) (last_text links are.1)
  where
    on_rest : (o : Option ChainLink) → IfSome o LinkIsItsText → IfSome (option_or o (Some link)) LinkIsItsText
    on_rest None rest = are.0
    on_rest (Some last) rest = rest

last_form : (o : Option ChainLink) → IfSome o LinkIsItsText
    → IfSome (option_map (λ (link : ChainLink). link.name) o) IsChecksum
last_form None is = tt
last_form (Some link) is = subst IsChecksum (sym is.name) (checksum_form link.text.0)

-- ---- the entry

-- the next entry has its form
pub entry_form : (me : PlatformCode) (bill : Checksum) (h : List Record) (K : List ChainLink) (made : List Transaction)
    (t : Transaction) → IsSoundHistory me h → place_of h ≡ Held K made → IsCode me → IsChecksum bill
    → IsTransaction t → count_by is_parted h < 4294967295 → length made + 1 ≤ 32
    → IsEntry (entry_by me bill h K made t)
entry_form me bill h K made t sound held code name form few room =
    let there = stands h (Held K made) held in
    let many = length-append made (t ∷ []) in
    let links : LinksAreTheirTexts K =
    subst (λ place. LinksAreTheirTexts (chain_at place)) held (chain_at_texts me h sound) in
    record {
      platform = code;
      bill = name;
      previous = last_form (last_of K) (last_text K links);
      first_attempt = omega arith;
      last_attempt = omega arith;
      some = omega arith;
      most = omega arith;
      transactions = All-append IsTransaction made (t ∷ [])
          (subst (All IsTransaction) there.since_is (since_forms me h sound))
          (All-cons IsTransaction t [] form (All-nil IsTransaction));
    }

-- ---- documents

begun_manifest : (me : PlatformCode) (h : List Record) → IsSoundHistory me h → (entry : Checksum)
    → IfSome (last_begun entry h) (λ came. IsManifest came.manifest)
begun_manifest me [] sound entry = tt
begun_manifest me (Begun b c m x ∷ h) sound entry = on_test (ends_in entry c) (begun_manifest me h sound.1 entry)
  where
    on_test : (test : Bool) → IfSome (last_begun entry h) (λ (came : Received). IsManifest came.manifest)
        → IfSome (cond test (Some (record { chain = c; manifest = m })) (last_begun entry h))
        (λ (came : Received). IsManifest came.manifest)
    on_test true rest = sound.0.manifest_form
    on_test false rest = rest
begun_manifest me (r ∷ h) sound entry = begun_manifest me h sound.1 entry

no_documents : AreDocuments []
no_documents = record { count = omega arith; each = tt; together = refl }

listed_documents : (o : Option Received) → IfSome o (λ (came : Received). IsManifest came.manifest)
    → AreDocuments (option_map_or (λ (came : Received). came.manifest.documents) o [])
listed_documents None is = no_documents
listed_documents (Some came) is = is.documents

pieces-append : (pieces : List Piece) (piece : Piece) → ArePieces pieces → IsPiece piece
    → ArePieces (pieces ++ piece ∷ [])
pieces-append [] piece are is = (is, tt)
pieces-append (x ∷ pieces) piece are is = (are.0, pieces-append pieces piece are.1 is)

no_member-push : (pieces : List Piece) (piece : Piece) (checksum : Checksum)
    → is_member checksum_eq (checksums_of pieces) checksum ≡ false → checksum_eq checksum piece.checksum ≡ false
    → is_member checksum_eq (checksums_of (pieces ++ piece ∷ [])) checksum ≡ false
no_member-push [] piece checksum none other = ap (λ b. b || false) other
no_member-push (x ∷ pieces) piece checksum none other =
    let parts = or_parts (checksum_eq checksum x.checksum) (is_member checksum_eq (checksums_of pieces) checksum) none in
    ap (λ b. b || is_member checksum_eq (checksums_of (pieces ++ piece ∷ [])) checksum) parts.0
    ∙ no_member-push pieces piece checksum parts.1 other

distinct-push : (pieces : List Piece) (piece : Piece) → lists pieces piece.checksum ≡ false
    → are_distinct (checksums_of pieces) ≡ true → are_distinct (checksums_of (pieces ++ piece ∷ [])) ≡ true
distinct-push [] piece new distinct = refl
distinct-push (x ∷ pieces) piece new distinct =
    let others = or_parts (checksum_eq x.checksum piece.checksum) (lists pieces piece.checksum) new in
    let parts = and_parts (not (is_member checksum_eq (checksums_of pieces) x.checksum)) (are_distinct (checksums_of pieces)) distinct in
    let none = no_member-push pieces piece x.checksum (not-true _ parts.0) others.0 in
    ap (λ b. not b && are_distinct (checksums_of (pieces ++ piece ∷ []))) none
    ∙ distinct-push pieces piece others.1 parts.1

documents-push : (pieces : List Piece) (piece : Piece) → AreDocuments pieces → IsPiece piece
    → lists pieces piece.checksum ≡ false → length pieces + 1 ≤ 16 → total_size pieces + piece.size ≤ 4194304
    → AreDocuments (pieces ++ piece ∷ [])
documents-push pieces piece are is new count room =
    let many = length-append pieces (piece ∷ []) in
    let sum : total_size (pieces ++ piece ∷ []) ≡ total_size pieces + (0 + piece.size) =
    sum_by-append (λ (p : Piece). p.size) pieces (piece ∷ []) in
    let within : total_size (pieces ++ piece ∷ []) ≤ 4194304 = omega arith in
    let parts = and_parts (are_distinct (checksums_of pieces)) (nat_le (total_size pieces) 4194304) are.together in
    record {
      count = omega arith;
      each = pieces-append pieces piece are.each is;
      together = ap (λ b. b && nat_le (total_size (pieces ++ piece ∷ [])) 4194304)
          (distinct-push pieces piece new parts.0)
          ∙ le-leb (total_size (pieces ++ piece ∷ [])) 4194304 within;
    }

-- the documents of a bill are as a manifest allows them
pub documents_form : (me : PlatformCode) (h : List Record) → IsSoundHistory me h → AreDocuments (pieces_of h)
documents_form me [] sound = no_documents
documents_form me (Attached b piece bytes ∷ h) sound =
    let size = sound.0.fits.size in
    let room = sound.0.together in
    documents-push (pieces_of h) piece (documents_form me h sound.1) sound.0.form sound.0.new sound.0.count
    (omega arith)
documents_form me (Taken b e ∷ h) sound = listed_documents (last_begun e h) (begun_manifest me h sound.1 e)
documents_form me (Signed b x t ∷ h) sound = documents_form me h sound.1
documents_form me (Acted b t ∷ h) sound = documents_form me h sound.1
documents_form me (Parted b l m x ∷ h) sound = documents_form me h sound.1
documents_form me (Settled b e ∷ h) sound = documents_form me h sound.1
documents_form me (Regained b e ∷ h) sound = documents_form me h sound.1
documents_form me (Begun b c m x ∷ h) sound = documents_form me h sound.1
documents_form me (Stored b e c x ∷ h) sound = documents_form me h sound.1
documents_form me (Declined b e c q v ∷ h) sound = documents_form me h sound.1
