-- References beside their texts.
use Rattle.std.proofs.Common.{◌≡◌, ℕ, ◌+◌, ◌*◌, ◌<◌, List, length, get_or, slice_index, Bool, true, false, ◌&&◌, cond, Option, Some, None, option_map, refl, sym, ap, subst, arith, inl, IsUtf8, nat_eq, take, drop}
use Rattle.std.specs.List.{list_all}
use Rattle.std.proofs.lemmas.Bool.{and_parts}
use Rattle.std.proofs.lemmas.Bool.Decides.{nat_tests}
use Rattle.std.proofs.lemmas.List.Sums.{AllPass-from_list_all}
use Rattle.std.proofs.lemmas.Str.{IsUtf8-from_ascii}
use Rattle.uuid.specs.Text.{lower, by_index, is_hex_digit, value_of, byte_of_digits, digits_of, has_hyphens, has_urn_prefix, parsed, parsed_simple, parsed_hyphenated, parsed_braced, parsed_urn, open_brace, close_brace}
use Rattle.uuid.proofs.TextLemmas.{by_index_length, by_index_at, all_fit, hyphenated_ascii}
use Rattle.uuid.proofs.RoundTrips.{parses_hyphenated}
use Rattle.ebl_base.specs.declared.reference.Reference.{Reference}
use Rattle.json_forms.proofs.RoundTrips.{kept}
use Rattle.upload_state.specs.Reference.{IsReference, reference_in, reference_text, reference_with}

-- the value of a digit
value_of-small : (c : ℕ) → is_hex_digit c ≡ true → value_of c < 16
value_of-small c h = grind (arith, nat_tests, h)

-- what is tested of each of some numbers
at_place : (hex : List ℕ) (k : ℕ) → list_all is_hex_digit hex ≡ true → k < length hex
    → is_hex_digit (slice_index hex k) ≡ true
at_place hex k h lt = AllPass-from_list_all is_hex_digit hex h k 0 lt

-- the bytes of 32 digits are 16
simple-form : (hex u : List ℕ) → parsed_simple hex ≡ Some u → IsReference (reference_with u)
simple-form hex u h =
    let both = kept ((nat_eq (length hex) 32) && list_all is_hex_digit hex) (by_index 16 (byte_of_digits hex)) u h in
    let tests = and_parts (nat_eq (length hex) 32) (list_all is_hex_digit hex) both.0 in
    let long : length hex ≡ 32 = grind (arith, nat_tests, tests.0) in
    let size : length (by_index 16 (byte_of_digits hex)) ≡ 16 = by_index_length 16 (byte_of_digits hex) in
    let fits : (k : ℕ) → k < length (by_index 16 (byte_of_digits hex))
    → get_or (by_index 16 (byte_of_digits hex)) k 0 < 256 = λ k lt.
    let high = value_of-small (slice_index hex (2 * k)) (at_place hex (2 * k) tests.1 (omega arith)) in
    let low = value_of-small (slice_index hex (2 * k + 1)) (at_place hex (2 * k + 1) tests.1 (omega arith)) in
    let byte : byte_of_digits hex k < 256 = omega arith in
    subst (λ n. n < 256) (sym (by_index_at 16 (byte_of_digits hex) k 0 (omega arith))) byte in
    subst (λ bytes. IsReference (reference_with bytes)) both.1
    (record { size = size; bytes = all_fit (by_index 16 (byte_of_digits hex)) fits })

-- what is there where a test is passed
chosen : (b : Bool) (o : Option (List ℕ)) (u : List ℕ) → cond b o None ≡ Some u → o ≡ Some u
chosen true o u h = h
chosen false o u h = cc

hyphenated-form : (s u : List ℕ) → parsed_hyphenated s ≡ Some u → IsReference (reference_with u)
hyphenated-form s u h = simple-form (digits_of s) u
    (chosen (nat_eq (length s) 36 && has_hyphens s) (parsed_simple (digits_of s)) u h)

-- what a text of any form parses to is a reference
pub IsReference-parsed : (s u : List ℕ) → parsed s ≡ Some u → IsReference (reference_with u)
IsReference-parsed s u h = by_length (nat_eq (length s) 32) (nat_eq (length s) 36) (nat_eq (length s) 38)
    (nat_eq (length s) 45) h
  where
    by_length : (a b c d : Bool)
        → cond a (parsed_simple s)
        (cond b (parsed_hyphenated s) (cond c (parsed_braced s) (cond d (parsed_urn s) None))) ≡ Some u
        → IsReference (reference_with u)
    by_length true b c d e = simple-form s u e
    by_length false true c d e = hyphenated-form s u e
    by_length false false true d e =
        hyphenated-form (take 36 (drop 1 s)) u
        (chosen (nat_eq (length s) 38 && nat_eq (slice_index s 0) open_brace && nat_eq
        (slice_index s 37) close_brace) (parsed_hyphenated (take 36 (drop 1 s))) u e)
    by_length false false false true e =
        hyphenated-form (drop 9 s) u (chosen (nat_eq (length s) 45 && has_urn_prefix s)
        (parsed_hyphenated (drop 9 s)) u e)
    by_length false false false false e = cc

-- nothing is parsed
pub none_parsed : (o : Option (List ℕ)) → ((u : List ℕ) → o ≡ Some u → ⊥) → None ≡ option_map reference_with o
none_parsed None none = refl
none_parsed (Some u) none = absurd (none u refl)

-- the text of a reference is read as it
pub reference_in-reference_text : (r : Reference) → IsReference r → reference_in (reference_text r) ≡ Some r
reference_in-reference_text r h = ap (option_map reference_with)
    (sym (parses_hyphenated lower r.0 (inl refl) h.size h.bytes))

pub length-reference_text : (r : Reference) → length (reference_text r) ≡ 36
length-reference_text r = by_index_length 36 _

pub IsUtf8-reference_text : (r : Reference) → IsUtf8 (reference_text r)
IsUtf8-reference_text r = IsUtf8-from_ascii (reference_text r) (hyphenated_ascii lower r.0 (inl refl))

-- a reference that is read has its form
pub IsReference-reference_in : (text : List ℕ) (r : Reference) → reference_in text ≡ Some r → IsReference r
IsReference-reference_in text r h = by_parsed (parsed text) refl h
  where
    by_parsed : (o : Option (List ℕ)) → parsed text ≡ o → option_map reference_with o ≡ Some r → IsReference r
    by_parsed None e f = cc
    by_parsed (Some u) e f = let same : reference_with u ≡ r = cc in subst IsReference same
        (IsReference-parsed text u e)
