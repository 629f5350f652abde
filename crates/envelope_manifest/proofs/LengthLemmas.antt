-- How long the canonical texts of manifests are.
use Rattle.std.proofs.Common.{◌≡◌, ◌≤◌, ◌<◌, ◌+◌, ◌*◌, ◌/◌, ℕ, Bool, true, false, ◌&&◌, nat_le, nat_lt, List, [], ◌∷◌, ◌++◌, IsTrue, IsUtf8, codes, cond, length, refl, subst, arith}
use Rattle.std.proofs.Math.Bool.{not}
use Rattle.std.specs.List.{list_all}
use Rattle.std.specs.Str.{chars}
use Rattle.std.proofs.lemmas.Bool.{and_parts}
use Rattle.std.proofs.lemmas.Bool.Decides.{nat_tests}
use Rattle.std.proofs.lemmas.Fmt.{length-decimal-le}
use Rattle.std.proofs.lemmas.List.{length-append}
use Rattle.std.proofs.lemmas.List.Folds.{list_all-append}
use Rattle.std.proofs.lemmas.Str.{encodes-chars}
use Rattle.json.specs.Print.{quoted, escape_byte}
use lib.Utf8.{encode, encodes, next}
use Rattle.canonical_json.specs.Canon.{canon, values_text}
use Rattle.canonical_json.specs.Value.{text, list, no_members, member}
use Rattle.json_forms.specs.Writing.{each_written, number_value, checksum_value}
use Rattle.json_forms.proofs.LengthLemmas.{checksum_length, member_length, printed_length}
use Rattle.envelope_manifest.specs.declared.piece.Piece.{Piece}
use Rattle.envelope_manifest.specs.declared.manifest.Manifest.{Manifest}
use Rattle.envelope_manifest.specs.Piece.{IsPiece, has_no_control, is_control, is_plain_text, piece_value}
use Rattle.envelope_manifest.specs.Manifest.{ArePieces, IsManifest, manifest_value}

-- ---- texts without control characters have bytes past them alone

-- a byte that is no control character
abbrev printed : ℕ → Bool
printed b = nat_lt 31 b

above : (b : ℕ) → 31 < b → printed b ≡ true
above b h = grind (arith, nat_tests)

one_of : (b : Bool) (xs ys : List ℕ) → (b ≡ true → list_all printed xs ≡ true) → (b ≡ false → list_all printed ys ≡ true)
    → list_all printed (cond b xs ys) ≡ true
one_of true xs ys hx hy = hx refl
one_of false xs ys hx hy = hy refl

char_printed : (c : ℕ) → not (is_control c) ≡ true → list_all printed (encode c) ≡ true
unfolding encode
char_printed c h =
    let past : 31 < c = grind (arith, nat_tests) in
    one_of (nat_lt c 128) _ _ (λ e. rw (above c past) refl)
    (λ _. one_of (nat_lt c 2048) _ _
    (λ e. rw (above (192 + c / 64) (omega arith), above (next c) (omega arith)) refl)
    (λ _. one_of (nat_lt c 65536) _ _
    (λ e. rw (above (224 + c / 4096) (omega arith), above (next (c / 64)) (omega arith), above (next c) (omega arith)) refl)
    (λ _. rw (above (240 + c / 262144) (omega arith), above (next (c / 4096)) (omega arith), above (next (c / 64)) (omega arith), above (next c) (omega arith)) refl)))

chars_printed : (cs : List ℕ) → list_all (λ c. not (is_control c)) cs ≡ true → list_all printed (encodes cs) ≡ true
chars_printed [] h = refl
chars_printed (c ∷ cs) h =
    let parts = and_parts (not (is_control c)) (list_all (λ x. not (is_control x)) cs) h in
    rw (list_all-append printed (encode c) (encodes cs), char_printed c parts.0, chars_printed cs parts.1) refl

-- such a text has at most two bytes in JSON for each of its own, and two quotes
plain_length : (most : ℕ) (t : List ℕ) → IsUtf8 t → IsTrue (is_plain_text most t) → length (canon (text t)) ≤ 2 * most + 2
plain_length most t utf8 h =
    let parts = and_parts (nat_le 1 (length t) && nat_le (length t) most) (has_no_control t) h in
    let within = and_parts (nat_le 1 (length t)) (nat_le (length t) most) parts.0 in
    let short : length t ≤ most = grind (arith, nat_tests, within.1) in
    let bytes : list_all printed t ≡ true =
    subst (λ bs. list_all printed bs ≡ true) (encodes-chars t utf8) (chars_printed (chars t) parts.1) in
    printed_length t most bytes short

-- ---- documents

size_length : (n : ℕ) → n ≤ 2097152 → length (canon (number_value n)) ≤ 7
size_length n h = length-decimal-le 7 n (omega arith) (omega (arith, h)) (omega (arith, h))

checksum_name : length (quoted (codes "checksum")) ≡ 10
unfolding escape_byte
checksum_name = refl

media_name : length (quoted (codes "media")) ≡ 7
unfolding escape_byte
media_name = refl

name_name : length (quoted (codes "name")) ≡ 6
unfolding escape_byte
name_name = refl

size_name : length (quoted (codes "size")) ≡ 6
unfolding escape_byte
size_name = refl

pub piece_length : (piece : Piece) → IsPiece piece → length (canon (piece_value piece)) ≤ 499
piece_length piece form =
    let last = member (codes "size") (number_value piece.size) no_members in
    let at_name = member (codes "name") (text piece.name) last in
    let at_media = member (codes "media") (text piece.media) at_name in
    omega (
      arith,
      member_length false (codes "checksum") (checksum_value piece.checksum) at_media,
      member_length true (codes "media") (text piece.media) at_name,
      member_length true (codes "name") (text piece.name) last,
      member_length true (codes "size") (number_value piece.size) no_members,
      checksum_length piece.checksum form.checksum,
      plain_length 64 piece.media form.media_utf8 form.media,
      plain_length 128 piece.name form.name_utf8 form.name,
      size_length piece.size form.size,
      checksum_name,
      media_name,
      name_name,
      size_name,
    )

-- ---- manifests

-- each document behind the first, with its comma
behind_length : (pieces : List Piece) → ArePieces pieces
    → length (values_text true (each_written piece_value pieces)) ≤ 1 + 500 * length pieces
behind_length [] h = omega arith
behind_length (piece ∷ pieces) h =
    let rest = values_text true (each_written piece_value pieces) in
    omega (
      arith,
      length-append (codes ",") (canon (piece_value piece) ++ rest),
      length-append (canon (piece_value piece)) rest,
      piece_length piece h.0,
      behind_length pieces h.1,
    )

pieces_length : (pieces : List Piece) → ArePieces pieces → length pieces ≤ 16
    → length (values_text false (each_written piece_value pieces)) ≤ 8000
pieces_length [] h few = omega arith
pieces_length (piece ∷ pieces) h few =
    let rest = values_text true (each_written piece_value pieces) in
    omega (
      arith,
      length-append (canon (piece_value piece)) rest,
      piece_length piece h.0,
      behind_length pieces h.1,
      few,
    )

bill_name : length (quoted (codes "bill")) ≡ 6
unfolding escape_byte
bill_name = refl

documents_name : length (quoted (codes "documents")) ≡ 11
unfolding escape_byte
documents_name = refl

last_name : length (quoted (codes "last")) ≡ 6
unfolding escape_byte
last_name = refl

pub manifest_length : (manifest : Manifest) → IsManifest manifest → length (canon (manifest_value manifest)) ≤ 8163
manifest_length manifest form =
    let listed = list (each_written piece_value manifest.documents) in
    let end = member (codes "last") (checksum_value manifest.last) no_members in
    let at_documents = member (codes "documents") listed end in
    omega (
      arith,
      member_length false (codes "bill") (checksum_value manifest.bill) at_documents,
      member_length true (codes "documents") listed end,
      member_length true (codes "last") (checksum_value manifest.last) no_members,
      checksum_length manifest.bill form.bill,
      checksum_length manifest.last form.last,
      pieces_length manifest.documents form.documents.each form.documents.count,
      bill_name,
      documents_name,
      last_name,
    )
