-- How long the canonical texts of small forms are.
use Rattle.std.proofs.Common.{◌≡◌, ◌≤◌, ◌+◌, ◌*◌, ℕ, Bool, true, false, ◌&&◌, ◌==◌, nat_le, nat_lt, List, [], ◌∷◌, ◌++◌, Option, Some, None, cond, length, min, refl, ap, arith}
use Rattle.std.proofs.Math.Bool.{not}
use Rattle.std.specs.Prelude.{IfSome, IsSome}
use Rattle.std.specs.List.{list_all}
use Rattle.std.proofs.lemmas.Bool.{and_parts}
use Rattle.std.proofs.lemmas.Bool.Decides.{nat_tests}
use Rattle.std.proofs.lemmas.Fmt.{length-decimal-le}
use Rattle.std.proofs.lemmas.List.{length-append}
use Rattle.json.specs.Print.{quoted, escape, escape_byte}
use Rattle.hex.specs.Hex.{lower_digits}
use Rattle.hex.proofs.HexLemmas.{length-encode_with}
use Rattle.canonical_json.specs.Canon.{canon, comma_if, members_text}
use Rattle.canonical_json.specs.Value.{Value, Members, no_members, member}
use Rattle.document_checksum.specs.Digest.{IsChecksum}
use Rattle.document_checksum.specs.Text.{checksum_of_text, checksum_text, is_lower_digit}
use Rattle.document_checksum.proofs.Texts.{checksum_of_text-checksum_text}
use Rattle.ebl_base.specs.declared.checksum.Checksum.{Checksum}
use Rattle.json_forms.specs.Writing.{capped_value, number_value, checksum_value, optional_member}

-- ---- texts

-- neither a control character below U+0020, nor a quotation mark, nor a reverse solidus (RFC 8785, section 3.2.2.2)
abbrev pub is_unescaped : ℕ → Bool
is_unescaped c = nat_lt 31 c && not (c == 34) && not (c == 92)

unescaped_byte : (c : ℕ) → is_unescaped c ≡ true → escape_byte c ≡ c ∷ []
unfolding escape_byte
unescaped_byte c h = grind (arith, nat_tests)

unescaped : (s : List ℕ) → list_all is_unescaped s ≡ true → escape s ≡ s
unescaped [] h = refl
unescaped (c ∷ cs) h =
    let parts = and_parts (is_unescaped c) (list_all is_unescaped cs) h in
    rw (unescaped_byte c parts.0, unescaped cs parts.1) refl

-- so its canonical text has two quotes more
pub unescaped_length : (s : List ℕ) (n : ℕ) → list_all is_unescaped s ≡ true → length s ≤ n → length (quoted s) ≤ n + 2
unescaped_length s n h short =
    let len = length-append s (34 ∷ []) in
    let same : length (quoted s) ≡ length (34 ∷ (s ++ 34 ∷ [])) = ap (λ e. length (34 ∷ (e ++ 34 ∷ []))) (unescaped s h) in
    omega (arith, len, same)

-- a byte that is no control character has at most two bytes in JSON
printed_byte : (c : ℕ) → nat_lt 31 c ≡ true → length (escape_byte c) ≤ 2
unfolding escape_byte
printed_byte c h = grind (arith, nat_tests)

-- so a text without them has at most two for each
pub printed_length : (s : List ℕ) (n : ℕ) → list_all (λ c. nat_lt 31 c) s ≡ true → length s ≤ n
    → length (quoted s) ≤ 2 * n + 2
printed_length s n h short =
    let len = length-append (escape s) (34 ∷ []) in
    let twice = all s h in
    omega (arith, len, twice)
  where
    all : (t : List ℕ) → list_all (λ c. nat_lt 31 c) t ≡ true → length (escape t) ≤ 2 * length t
    all [] e = omega arith
    all (c ∷ cs) e =
        let parts = and_parts (nat_lt 31 c) (list_all (λ b. nat_lt 31 b) cs) e in
        omega (arith, length-append (escape_byte c) (escape cs), printed_byte c parts.0, all cs parts.1)

-- what passes a test passes a weaker one
pub weaker : (p q : ℕ → Bool) → ((c : ℕ) → p c ≡ true → q c ≡ true) → (s : List ℕ) → list_all p s ≡ true
    → list_all q s ≡ true
weaker p q holds [] h = refl
weaker p q holds (c ∷ cs) h =
    let parts = and_parts (p c) (list_all p cs) h in
    rw (holds c parts.0, weaker p q holds cs parts.1) refl

-- ---- values

digit_unescaped : (c : ℕ) → is_lower_digit c ≡ true → is_unescaped c ≡ true
digit_unescaped c h = grind (arith, nat_tests)

test_holds : {T : Type 0} (b : Bool) (o : Option T) (x : T) → cond b o None ≡ Some x → b ≡ true
test_holds true o x h = refl
test_holds false o x h = cc

-- a checksum is 64 digits in quotes
pub checksum_length : (c : Checksum) → IsChecksum c → length (canon (checksum_value c)) ≤ 66
checksum_length c is =
    let digits = length-encode_with lower_digits c.0 in
    let size = is.size in
    unescaped_length (checksum_text c) 64
    (weaker is_lower_digit is_unescaped digit_unescaped (checksum_text c)
    (test_holds (list_all is_lower_digit (checksum_text c)) _ c (checksum_of_text-checksum_text c is)))
    (omega (arith, digits, size))

-- a number of canonical JSON has at most 16 digits
pub number_length : (n : ℕ) → n ≤ 9007199254740991 → length (canon (number_value n)) ≤ 16
number_length n h = length-decimal-le 16 n (omega arith) (omega (arith, h)) (omega (arith, h))

pub capped_length : (n : ℕ) → length (canon (capped_value n)) ≤ 16
capped_length n = number_length (min n 9007199254740991) (omega arith)

-- ---- objects

-- one member more
pub member_length : (later : Bool) (name : List ℕ) (v : Value) (ms : Members)
    → length (members_text later (member name v ms))
    ≡ length (comma_if later) + (length (quoted name) + (1 + (length (canon v) + length (members_text true ms))))
member_length later name v ms =
    let outer = length-append (comma_if later) (quoted name ++ 58 ∷ (canon v ++ members_text true ms)) in
    let named = length-append (quoted name) (58 ∷ (canon v ++ members_text true ms)) in
    let inner = length-append (canon v) (members_text true ms) in
    omega (arith, outer, named, inner)

-- a member that may be left out adds no more than the member
pub optional_member_length : {T : Type 0} (name : List ℕ) (write : T → Value) (P : T → Type 0) (n : ℕ)
    → ((x : T) → P x → length (canon (write x)) ≤ n) → (o : Option T) → IfSome o P → (ms : Members)
    → length (members_text true (optional_member name write o ms))
    ≤ 1 + (length (quoted name) + (1 + (n + length (members_text true ms))))
optional_member_length name write P n short None h ms = omega arith
optional_member_length name write P n short (Some x) h ms =
    let one = member_length true name (write x) ms in
    let value = short x h in
    omega (arith, one, value)
