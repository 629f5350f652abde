-- Fields stand at the front of bytes in one way only.
use Rattle.std.proofs.Common.{◌≡◌, ℕ, zero, suc, ◌+◌, ◌<◌, ◌≤◌, ◌^◌, List, [], ◌∷◌, ◌++◌, length, take, drop, refl, sym, ◌∙◌, ap, subst, arith, append_assoc, append-nil, length-append, take-append-drop}
use Rattle.std.proofs.lemmas.List.{take_at, drop_at}
use Rattle.std.proofs.lemmas.Nat.{from_be_bytes-to_be_bytes_4}
use Rattle.std.specs.Int.{w32, from_be_bytes}
use Rattle.hex.specs.Hex.{IsBytes}
use Rattle.ebl_base.specs.declared.checksum.Checksum.{Checksum}
use Rattle.document_checksum.specs.Digest.{IsChecksum}
use Rattle.record_bytes.specs.Fields.{four_bytes, text_bytes, IsShort}
use Rattle.record_bytes.specs.Forms.{AreNames}
use Rattle.record_bytes.specs.Reading.{BeginsWithText, BeginsWithName, BeginsWithNames, IsText, AreTexts, AreTwoNames}

-- ---- texts

pub length-four_bytes : (n : ℕ) → length (four_bytes n) ≡ 4
unfolding four_bytes
length-four_bytes n = refl

-- the four bytes tell the length
pub four_bytes-same : (m n : ℕ) → m < 2 ^ 32 → n < 2 ^ 32 → four_bytes m ≡ four_bytes n → m ≡ n
unfolding four_bytes
four_bytes-same m n p q same = sym (from_be_bytes-to_be_bytes_4 m p) ∙ ap (from_be_bytes w32) same
    ∙ from_be_bytes-to_be_bytes_4 n q

pub length-text_bytes : (x : List ℕ) → length (text_bytes x) ≡ 4 + length x
length-text_bytes x = omega (arith, length-append (four_bytes (length x)) x, length-four_bytes (length x))

-- two lists of bytes that begin alike with a text begin with the same text
pub same_text : (x y t u : List ℕ) → IsShort x → IsShort y → text_bytes x ++ t ≡ text_bytes y ++ u → (x ≡ y) × (t ≡ u)
same_text x y t u short_x short_y same =
    let whole : four_bytes (length x) ++ (x ++ t) ≡ four_bytes (length y) ++ (y ++ u) =
    sym (append_assoc (four_bytes (length x)) x t) ∙ same ∙ append_assoc (four_bytes (length y)) y u in
    let fours = sym (take_at (four_bytes (length x)) (x ++ t) 4 (length-four_bytes (length x))) ∙ ap (take 4) whole
    ∙ take_at (four_bytes (length y)) (y ++ u) 4 (length-four_bytes (length y)) in
    let behind = sym (drop_at (four_bytes (length x)) (x ++ t) 4 (length-four_bytes (length x))) ∙ ap (drop 4) whole
    ∙ drop_at (four_bytes (length y)) (y ++ u) 4 (length-four_bytes (length y)) in
    let long : length x ≡ length y = four_bytes-same (length x) (length y) short_x short_y fours in
    let contents = sym (take_at x t (length y) long) ∙ ap (take (length y)) behind ∙ take_at y u (length y) refl in
    (contents, sym (drop_at x t (length y) long) ∙ ap (drop (length y)) behind ∙ drop_at y u (length y) refl)

-- fewer bytes than the length tells
pub text_missing : (bytes four rest : List ℕ) (n : ℕ) → four ≡ take 4 bytes → rest ≡ drop 4 bytes
    → four_bytes n ≡ four → n < 2 ^ 32 → length rest < n → (text behind : List ℕ) → ¬ BeginsWithText bytes text behind
text_missing bytes four rest n fours rests told short few text behind begins =
    let whole : bytes ≡ four_bytes (length text) ++ (text ++ behind) =
    begins.bytes_are ∙ append_assoc (four_bytes (length text)) text behind in
    let front : four_bytes n ≡ four_bytes (length text) = told ∙ fours ∙ ap (take 4) whole
    ∙ take_at (four_bytes (length text)) (text ++ behind) 4 (length-four_bytes (length text)) in
    let size : n ≡ length text = four_bytes-same n (length text) short begins.short front in
    let left : rest ≡ text ++ behind = rests ∙ ap (drop 4) whole
    ∙ drop_at (four_bytes (length text)) (text ++ behind) 4 (length-four_bytes (length text)) in
    omega (arith, few, size, ap length left, length-append text behind)

-- fewer than four bytes
pub no_text : (bytes : List ℕ) → length bytes < 4 → (text behind : List ℕ) → ¬ BeginsWithText bytes text behind
no_text bytes few text behind begins =
    omega (
      arith,
      few,
      ap length begins.bytes_are,
      length-append (text_bytes text) behind,
      length-text_bytes text,
    )

pub one_text : (bytes text : List ℕ) → IsText bytes text → BeginsWithText bytes text []
one_text bytes text is = record { short = is.short; bytes_are = is.bytes_are ∙ sym (append-nil (text_bytes text)) }

-- one text at the front
pub same_front : (bytes x y t u : List ℕ) → BeginsWithText bytes x t → BeginsWithText bytes y u → (x ≡ y) × (t ≡ u)
same_front bytes x y t u a b = same_text x y t u a.short b.short (sym a.bytes_are ∙ b.bytes_are)

-- so where something follows the text at the front, the bytes are no text
pub text_ends : (bytes x rest text : List ℕ) → BeginsWithText bytes x rest → IsText bytes text → rest ≡ []
text_ends bytes x rest text begins is = (same_front bytes x text rest [] begins (one_text bytes text is)).1

pub same_whole : (bytes x y : List ℕ) → IsText bytes x → IsText bytes y → x ≡ y
same_whole bytes x y a b = (same_front bytes x y [] [] (one_text bytes x a) (one_text bytes y b)).0

pub first_of : (bytes first second : List ℕ) → AreTexts bytes first second
    → BeginsWithText bytes first (text_bytes second)
first_of bytes first second are = record { short = are.first_short; bytes_are = are.bytes_are }

-- what follows the first of two texts is the second
pub second_of : (bytes x rest first second : List ℕ) → BeginsWithText bytes x rest → AreTexts bytes first second
    → IsText rest second
second_of bytes x rest first second begins are = record {
  short = are.second_short;
  bytes_are = (same_front bytes x first rest (text_bytes second) begins (first_of bytes first second are)).1;
}

pub same_texts : (bytes a b c d : List ℕ) → AreTexts bytes a b → AreTexts bytes c d → (a ≡ c) × (b ≡ d)
same_texts bytes a b c d p q =
    let fronts = same_front bytes a c (text_bytes b) (text_bytes d) (first_of bytes a b p) (first_of bytes c d q) in (
      fronts.0,
      same_whole (text_bytes b) b d (record { short = p.second_short; bytes_are = refl })
          (record { short = q.second_short; bytes_are = fronts.1 }),
    )

-- ---- names

named : List ℕ → Checksum
named bytes = record { 0 = bytes }

pub same_name : (a b : Checksum) (t u : List ℕ) → IsChecksum a → IsChecksum b → a.0 ++ t ≡ b.0 ++ u
    → (a ≡ b) × (t ≡ u)
unfolding named
same_name a b t u p q same =
    let fronts : a.0 ≡ b.0 = sym (take_at a.0 t 32 p.size) ∙ ap (take 32) same ∙ take_at b.0 u 32 q.size in
    let names : a ≡ b = ap named fronts in
    (names, sym (drop_at a.0 t 32 p.size) ∙ ap (drop 32) same ∙ drop_at b.0 u 32 q.size)

bytes_take : (n : ℕ) (xs : List ℕ) → IsBytes xs → IsBytes (take n xs)
bytes_take zero xs are i = omega arith
bytes_take (suc n) [] are i = omega arith
bytes_take (suc n) (x ∷ xs) are zero = are 0
bytes_take (suc n) (x ∷ xs) are (suc i) = bytes_take n xs (λ j. are (suc j)) i

pub name_found : (bytes name rest : List ℕ) → IsBytes bytes → name ≡ take 32 bytes → rest ≡ drop 32 bytes
    → length rest + 32 ≡ length bytes → BeginsWithName bytes (record { 0 = name }) rest
name_found bytes name rest are names rests long =
    let whole : bytes ≡ name ++ rest = sym (take-append-drop 32 bytes)
    ∙ ap (λ (l : List ℕ). l ++ drop 32 bytes) (sym names) ∙ ap (λ (l : List ℕ). name ++ l) (sym rests) in
    record {
      form = record {
        size = omega (arith, long, ap length whole, length-append name rest);
        bytes = subst IsBytes (sym names) (bytes_take 32 bytes are);
      };
      bytes_are = whole;
    }

pub same_begin : (bytes : List ℕ) (a b : Checksum) (t u : List ℕ) → BeginsWithName bytes a t → BeginsWithName bytes b u
    → (a ≡ b) × (t ≡ u)
same_begin bytes a b t u p q = same_name a b t u p.form q.form (sym p.bytes_are ∙ q.bytes_are)

-- two names at the front
pub bill_of_names : (bytes : List ℕ) (bill entry : Checksum) (rest : List ℕ) → BeginsWithNames bytes bill entry rest
    → BeginsWithName bytes bill (entry.0 ++ rest)
bill_of_names bytes bill entry rest is = record { form = is.names.bill_is; bytes_are = is.bytes_are }

pub entry_of_names : (bytes : List ℕ) (a : Checksum) (t : List ℕ) (bill entry : Checksum) (rest : List ℕ)
    → BeginsWithName bytes a t → BeginsWithNames bytes bill entry rest → BeginsWithName t entry rest
entry_of_names bytes a t bill entry rest begins is = record {
  form = is.names.entry_is;
  bytes_are = (same_begin bytes a bill t (entry.0 ++ rest) begins (bill_of_names bytes bill entry rest is)).1;
}

pub same_names : (bytes : List ℕ) (a b c d : Checksum) (t u : List ℕ) → BeginsWithNames bytes a b t
    → BeginsWithNames bytes c d u → (a ≡ c) × (b ≡ d) × (t ≡ u)
same_names bytes a b c d t u p q =
    let first = same_begin bytes a c (b.0 ++ t) (d.0 ++ u) (bill_of_names bytes a b t p) (bill_of_names bytes c d u q) in
    let second = same_name b d t u p.names.entry_is q.names.entry_is first.1 in
    (first.0, second.0, second.1)

pub two_names : (bytes : List ℕ) (bill entry : Checksum) → AreTwoNames bytes bill entry
    → BeginsWithNames bytes bill entry []
two_names bytes bill entry is = record {
  names = is.names;
  bytes_are = is.bytes_are ∙ ap (λ (l : List ℕ). bill.0 ++ l) (sym (append-nil entry.0));
}
