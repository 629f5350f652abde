-- A manifest beside its written form.
use Rattle.std.proofs.Common.{◌≡◌, ℕ, ◌≤◌, pos, List, [], ◌∷◌, true, ◌&&◌, nat_le, cond, IsTrue, Option, Some, None, Result, Ok, codes, refl, sym, ap, ◌∙◌, arith}
use Rattle.std.specs.Prelude.{option_and_then}
use Rattle.std.specs.Result.{result_unwrap_or}
use Rattle.std.proofs.lemmas.Bool.Decides.{nat_tests}
use Rattle.canonical_json.specs.Value.{depth, values_depth}
use Rattle.canonical_json.specs.Lawful.{IsLawful, are_lawful, HasTexts, HaveTexts}
use Rattle.document_checksum.specs.Text.{checksum_text, checksum_of_text}
use Rattle.document_checksum.proofs.Texts.{checksum_of_text-checksum_text}
use Rattle.document_checksum.proofs.ReadTexts.{IsUtf8-checksum_text}
use Rattle.json_forms.specs.Reading.{required, number_in, all_of, with_more, count_of}
use Rattle.json_forms.specs.Writing.{each_written}
use Rattle.json_forms.proofs.RoundTrips.{count_of-each_written}
use Rattle.ebl_base.specs.declared.checksum.Checksum.{Checksum}
use Rattle.envelope_manifest.specs.declared.fault.ManifestField.TheVariants.{Bill, Last, Documents}
use Rattle.envelope_manifest.specs.declared.piece.Piece.{Piece}
use Rattle.envelope_manifest.specs.declared.manifest.Manifest.{Manifest}
use Rattle.envelope_manifest.specs.Piece.{IsPiece, plain_text, piece_with, piece_in, piece_of, piece_value}
use Rattle.envelope_manifest.specs.Manifest.{ArePieces, AreDocuments, IsManifest, together, pieces_in, required_pieces, manifest_of, manifest_value}
use Rattle.envelope_manifest.proofs.FormLemmas.{IsUtf8-ascii}
use Rattle.envelope_manifest.proofs.PieceLemmas.{IsLawful-piece_value, IsLawful-manifest_value}

-- ---- one document

number_in-most : (most n : ℕ) → n ≤ most → number_in 0 most (pos n) ≡ Some n
number_in-most most n h =
    let low : nat_le 0 n ≡ true = grind (arith, nat_tests) in
    let high : nat_le n most ≡ true = grind (arith, nat_tests, h) in
    ap (λ b. cond (b && nat_le n most) (Some n) None) low ∙ ap (λ b. cond b (Some n) None) high

pub piece_in-piece_value : (piece : Piece) → IsPiece piece → piece_in (piece_value piece) ≡ Some piece
piece_in-piece_value piece h =
    let name : plain_text 128 piece.name ≡ Some piece.name = ap (λ b. cond b (Some piece.name) None) h.name in
    let media : plain_text 64 piece.media ≡ Some piece.media = ap (λ b. cond b (Some piece.media) None) h.media in
    let size = number_in-most 2097152 piece.size h.size in
    let checksum = checksum_of_text-checksum_text piece.checksum h.checksum in
    ap (λ n. piece_with n (plain_text 64 piece.media) (number_in 0 2097152 (pos piece.size))
    (checksum_of_text (checksum_text piece.checksum))) name
    ∙ ap (λ m. piece_with (Some piece.name) m (number_in 0 2097152 (pos piece.size))
    (checksum_of_text (checksum_text piece.checksum))) media
    ∙ ap (λ s. piece_with (Some piece.name) (Some piece.media) s (checksum_of_text (checksum_text piece.checksum))) size
    ∙ ap (λ c. piece_with (Some piece.name) (Some piece.media) (Some piece.size) c) checksum

pub piece_of-piece_value : (piece : Piece) → IsPiece piece → piece_of (piece_value piece) ≡ Ok piece
piece_of-piece_value piece h = ap (λ p. required Documents p Ok) (piece_in-piece_value piece h)

pub IsLawful-piece : (piece : Piece) → IsPiece piece → IsLawful (piece_value piece)
IsLawful-piece piece h = let size = h.size in IsLawful-piece_value piece (omega arith)

pub HasTexts-piece : (piece : Piece) → IsPiece piece → HasTexts (piece_value piece)
HasTexts-piece piece h = (
  IsUtf8-ascii (codes "checksum") refl,
  IsUtf8-checksum_text piece.checksum,
  (
    IsUtf8-ascii (codes "media") refl,
    h.media_utf8,
    (IsUtf8-ascii (codes "name") refl, h.name_utf8, (IsUtf8-ascii (codes "size") refl, tt, tt)),
  ),
)

-- ---- several

pub all_of-written : (pieces : List Piece) → ArePieces pieces
    → all_of piece_in (each_written piece_value pieces) ≡ Some pieces
all_of-written [] h = refl
all_of-written (piece ∷ pieces) h =
    ap (λ p. with_more p (all_of piece_in (each_written piece_value pieces))) (piece_in-piece_value piece h.0)
    ∙ ap (with_more (Some piece)) (all_of-written pieces h.1)

pub are_lawful-written : (pieces : List Piece) → ArePieces pieces
    → IsTrue (are_lawful (each_written piece_value pieces))
are_lawful-written [] h = refl
are_lawful-written (piece ∷ pieces) h =
    ap (λ b. b && are_lawful (each_written piece_value pieces)) (IsLawful-piece piece h.0)
    ∙ are_lawful-written pieces h.1

pub HaveTexts-written : (pieces : List Piece) → ArePieces pieces → HaveTexts (each_written piece_value pieces)
HaveTexts-written [] h = tt
HaveTexts-written (piece ∷ pieces) h = (HasTexts-piece piece h.0, HaveTexts-written pieces h.1)

values_depth-written : (pieces : List Piece) → values_depth (each_written piece_value pieces) ≤ 1
values_depth-written [] = omega arith
values_depth-written (piece ∷ pieces) = let behind = values_depth-written pieces in omega arith

-- ---- the manifest

required_pieces-manifest_value : (manifest : Manifest) → AreDocuments manifest.documents
    → required_pieces (manifest_value manifest) ≡ Some manifest.documents
required_pieces-manifest_value manifest h =
    let written = each_written piece_value manifest.documents in
    let count = count_of-each_written piece_value manifest.documents in
    let most = h.count in
    let low : nat_le 0 (count_of written) ≡ true = grind (arith, nat_tests) in
    let high : nat_le (count_of written) 16 ≡ true = grind (arith, nat_tests, count, most) in
    ap (λ b. option_and_then pieces_in (cond (b && nat_le (count_of written) 16) (Some written) None)) low
    ∙ ap (λ b. option_and_then pieces_in (cond b (Some written) None)) high
    ∙ ap (option_and_then together) (all_of-written manifest.documents h.each)
    ∙ ap (λ b. cond b (Some manifest.documents) None) h.together

pub manifest_of-manifest_value : (manifest : Manifest) → IsManifest manifest
    → manifest_of (manifest_value manifest) ≡ Ok manifest
manifest_of-manifest_value manifest h =
    let bill = checksum_of_text-checksum_text manifest.bill h.bill in
    let last = checksum_of_text-checksum_text manifest.last h.last in
    let documents = required_pieces-manifest_value manifest h.documents in
    with_parts (checksum_of_text (checksum_text manifest.bill)) (checksum_of_text (checksum_text manifest.last))
    (required_pieces (manifest_value manifest)) bill last documents
  where
    with_parts : (b l : Option Checksum) (d : Option (List Piece)) → b ≡ Some manifest.bill
        → l ≡ Some manifest.last → d ≡ Some manifest.documents
        → required Bill b (λ bill. required Last l
        (λ last. required Documents d
        (λ documents. Ok (record { bill = bill; last = last; documents = documents })))) ≡ Ok manifest
    with_parts b l d hb hl hd = rw (hb, hl, hd) refl

pub IsLawful-manifest : (manifest : Manifest) → IsManifest manifest → IsLawful (manifest_value manifest)
IsLawful-manifest manifest h = IsLawful-manifest_value manifest (are_lawful-written manifest.documents h.documents.each)

pub HasTexts-manifest : (manifest : Manifest) → IsManifest manifest → HasTexts (manifest_value manifest)
HasTexts-manifest manifest h = (
  IsUtf8-ascii (codes "bill") refl,
  IsUtf8-checksum_text manifest.bill,
  (
    IsUtf8-ascii (codes "documents") refl,
    HaveTexts-written manifest.documents h.documents.each,
    (IsUtf8-ascii (codes "last") refl, IsUtf8-checksum_text manifest.last, tt),
  ),
)

pub depth-manifest : (manifest : Manifest) → depth (manifest_value manifest) ≤ 3
depth-manifest manifest = let pieces = values_depth-written manifest.documents in omega arith

-- ---- one text, one value

same_ok : {T F : Type 0} (x y : T) (r s : Result T F) → r ≡ s → r ≡ Ok x → s ≡ Ok y → x ≡ y
same_ok x y r s same first second =
    ap (λ q. result_unwrap_or q x) (sym first ∙ same ∙ second)

pub one_piece : (a b : Piece) → IsPiece a → IsPiece b → piece_value a ≡ piece_value b → a ≡ b
one_piece a b first second same =
    same_ok a b (piece_of (piece_value a)) (piece_of (piece_value b)) (ap piece_of same) (piece_of-piece_value a first)
    (piece_of-piece_value b second)

pub one_manifest : (a b : Manifest) → IsManifest a → IsManifest b → manifest_value a ≡ manifest_value b → a ≡ b
one_manifest a b first second same =
    same_ok a b (manifest_of (manifest_value a)) (manifest_of (manifest_value b)) (ap manifest_of same)
    (manifest_of-manifest_value a first) (manifest_of-manifest_value b second)
