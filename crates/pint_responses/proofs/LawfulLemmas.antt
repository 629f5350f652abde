-- A response as a value is lawful.
use Rattle.std.proofs.Common.{◌≡◌, ℕ, ◌≤◌, true, pos, List, [], ◌∷◌, Option, Some, None, codes, min, refl, arith}
use Rattle.std.proofs.Math.Bool.{not}
use Rattle.std.specs.Prelude.{option_and_then}
use Rattle.std.proofs.lemmas.Bool.Decides.{nat_tests}
use Rattle.std.specs.Ordering.{is_lt}
use Rattle.std.specs.Str.{chars}
use Rattle.canonical_json.specs.Value.{Value, Members, no_members}
use Rattle.canonical_json.specs.Lawful.{IsLawful, are_lawful, is_lawful, is_out_of_range, members_are_lawful}
use Rattle.canonical_json.specs.Name.{comes_before, name_cmp, names_rise}
use Rattle.json_forms.specs.Writing.{checksum_value, each_written, optional_member, signed_value}
use Rattle.ebl_base.specs.Reason.{reason_index}
use Rattle.ebl_base.specs.declared.checksum.Checksum.{Checksum}
use Rattle.pint_responses.specs.Writing.{place_value, reason_value, response_members, response_value}
use Rattle.pint_responses.proofs.Tails.{from_code, from_index, from_last, from_missing, from_own, from_reason, from_standing, from_theirs}
use Rattle.pint_responses.specs.declared.response.Response.{Response}

module _ {T : Type 0} (name : List ℕ) (write : T → Value) where
  optional_before : (front : List ℕ) (o : Option T) (rest : Members) → is_lt (name_cmp front name) ≡ true
      → comes_before front rest ≡ true → comes_before front (optional_member name write o rest) ≡ true
  optional_before front None rest lt h = h
  optional_before front (Some x) rest lt h = lt

  optional_rise : (o : Option T) (rest : Members) → comes_before name rest ≡ true → names_rise rest ≡ true
      → names_rise (optional_member name write o rest) ≡ true
  optional_rise None rest before h = h
  optional_rise (Some x) rest before h = rw (before, h) refl

  optional_lawful : (o : Option T) (rest : Members) → ((x : T) → is_lawful (write x) ≡ true)
      → members_are_lawful rest ≡ true → members_are_lawful (optional_member name write o rest) ≡ true
  optional_lawful None rest each h = h
  optional_lawful (Some x) rest each h = rw (each x, h) refl

-- the names of a response rise
names_of_response_rise : (r : Response) → names_rise (response_members r) ≡ true
unfolding name_cmp chars
names_of_response_rise r =
    let rise_theirs : names_rise (from_theirs r) ≡ true =
    optional_rise (codes "theirs") signed_value r.evidence.theirs no_members refl refl in
    let before_theirs : comes_before (codes "standing") (from_theirs r) ≡ true =
    optional_before (codes "theirs") signed_value (codes "standing") r.evidence.theirs no_members refl refl in
    let rise_standing : names_rise (from_standing r) ≡ true = rw (before_theirs, rise_theirs) refl in
    let rise_reason : names_rise (from_reason r) ≡ true =
    optional_rise (codes "reason") reason_value r.reason (from_code r) refl rise_standing in
    let own_before : comes_before (codes "own") (from_reason r) ≡ true =
    optional_before (codes "reason") reason_value (codes "own") r.reason (from_code r) refl refl in
    let rise_own : names_rise (from_own r) ≡ true =
    optional_rise (codes "own") signed_value r.evidence.own (from_reason r) own_before rise_reason in
    let missing_before : comes_before (codes "missing") (from_own r) ≡ true =
    optional_before (codes "own") signed_value (codes "missing") r.evidence.own (from_reason r) refl
    (optional_before (codes "reason") reason_value (codes "missing") r.reason (from_code r) refl refl) in
    let rise_missing : names_rise (from_missing r) ≡ true = rw (missing_before, rise_own) refl in
    let rise_last : names_rise (from_last r) ≡ true =
    optional_rise (codes "last") checksum_value r.last (from_missing r) refl rise_missing in
    let index_before : comes_before (codes "index") (from_last r) ≡ true =
    optional_before (codes "last") checksum_value (codes "index") r.last (from_missing r) refl refl in
    let rise_index : names_rise (from_index r) ≡ true =
    optional_rise (codes "index") place_value (option_and_then reason_index r.reason) (from_last r) index_before
    rise_last in
    optional_rise (codes "bill") checksum_value r.bill (from_index r)
    (optional_before (codes "index") place_value (codes "bill") (option_and_then reason_index r.reason) (from_last r) refl
    (optional_before (codes "last") checksum_value (codes "bill") r.last (from_missing r) refl refl))
    rise_index

-- a number up to the greatest one is in range
in_range : (n : ℕ) → n ≤ 9007199254740991 → not (is_out_of_range (pos n)) ≡ true
in_range n h = grind (arith, nat_tests)

place_is_lawful : (place : ℕ) → is_lawful (place_value place) ≡ true
place_is_lawful place = in_range (min place 9007199254740991) (omega arith)

checksums_are_lawful : (checksums : List Checksum) → are_lawful (each_written checksum_value checksums) ≡ true
checksums_are_lawful [] = refl
checksums_are_lawful (c ∷ cs) = checksums_are_lawful cs

values_of_response_are_lawful : (r : Response) → members_are_lawful (response_members r) ≡ true
values_of_response_are_lawful r =
    let theirs : members_are_lawful (from_theirs r) ≡ true =
    optional_lawful (codes "theirs") signed_value r.evidence.theirs no_members (λ x. refl) refl in
    let reason : members_are_lawful (from_reason r) ≡ true =
    optional_lawful (codes "reason") reason_value r.reason (from_code r) (λ x. refl) theirs in
    let own : members_are_lawful (from_own r) ≡ true =
    optional_lawful (codes "own") signed_value r.evidence.own (from_reason r) (λ x. refl) reason in
    let missing : members_are_lawful (from_missing r) ≡ true = rw (checksums_are_lawful r.missing, own) refl in
    let last : members_are_lawful (from_last r) ≡ true =
    optional_lawful (codes "last") checksum_value r.last (from_missing r) (λ x. refl) missing in
    let index : members_are_lawful (from_index r) ≡ true =
    optional_lawful (codes "index") place_value (option_and_then reason_index r.reason) (from_last r)
    place_is_lawful last in
    optional_lawful (codes "bill") checksum_value r.bill (from_index r) (λ x. refl) index

pub response_is_lawful : (r : Response) → IsLawful (response_value r)
response_is_lawful r = rw (names_of_response_rise r, values_of_response_are_lawful r) refl
