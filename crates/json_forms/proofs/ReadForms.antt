-- What was read is well-formed: members one after the other, each from the part of the value that it was read from.
use Rattle.std.proofs.Common.{◌≡◌, ℕ, ◌≤◌, ℤ, nat_le, List, Option, Some, None, Result, Ok, Err, refl, ap, ◌∙◌, arith}
use Rattle.std.specs.Prelude.{IfSome, option_and_then}
use Rattle.std.proofs.lemmas.Bool.{and_parts}
use Rattle.std.proofs.lemmas.Bool.Decides.{nat_tests}
use Rattle.canonical_json.specs.Value.{Value}
use Rattle.document_checksum.specs.Digest.{IsChecksum}
use Rattle.document_checksum.specs.Text.{checksum_of_text}
use Rattle.document_checksum.proofs.ReadTexts.{IsChecksum-checksum_of_text}
use Rattle.ebl_base.specs.declared.checksum.Checksum.{Checksum}
use Rattle.json_forms.specs.Reading.{required, then_read, unless_malformed, optional, in_form, number_in, checksum_in}
use Rattle.json_forms.specs.declared.reading.Malformed.{Malformed}
use Rattle.json_forms.proofs.RoundTrips.{number_in-within}

-- what was made of a member was made of one that is there
pub required-parts : {A B F : Type 0} (field : F) (found : Option A) (next : A → Result B F) (y : B)
    → required field found next ≡ Ok y → (x : A) × (found ≡ Some x) × (next x ≡ Ok y)
required-parts field None next y h = cc
required-parts field (Some x) next y h = (x, refl, h)

-- what was made of a member that may be left out was made of one that isn't malformed
pub unless_malformed-parts : {A B F : Type 0} (field : F) (found : Result A Malformed) (next : A → Result B F) (y : B)
    → unless_malformed field found next ≡ Ok y → (x : A) × (found ≡ Ok x) × (next x ≡ Ok y)
unless_malformed-parts field (Err other) next y h = cc
unless_malformed-parts field (Ok x) next y h = (x, refl, h)

-- what was made of several members was made of those that were read
pub then_read-parts : {A B F : Type 0} (first : Result A F) (next : A → Result B F) (y : B)
    → then_read first next ≡ Ok y → (x : A) × (first ≡ Ok x) × (next x ≡ Ok y)
then_read-parts (Err field) next y h = cc
then_read-parts (Ok x) next y h = (x, refl, h)

-- a member that may be left out, and was read, is well-formed where it is there
pub optional_form : {T : Type 0} (form : Value → Option T) (P : T → Type 0)
    → ((v : Value) (x : T) → form v ≡ Some x → P x) → (o : Option Value) (found : Option T)
    → optional form o ≡ Ok found → IfSome found P
optional_form {T} form P holds None found h = by_found found h
  where
    nothing : Result (Option T) Malformed
    nothing = Ok None

    by_found : (found : Option T) → nothing ≡ Ok found → IfSome found P
    by_found None h = _
    by_found (Some x) h = cc
optional_form {T} form P holds (Some v) found h = by_form (form v) refl found h
  where
    by_form : (o : Option T) → form v ≡ o → (found : Option T) → in_form o ≡ Ok found → IfSome found P
    by_form None e found h = cc
    by_form (Some x) e None h = cc
    by_form (Some x) e (Some y) h =
        let same : x ≡ y = cc in
        holds v y (e ∙ ap Some same)

-- a checksum that was read is one
pub IsChecksum-read : (said : Option (List ℕ)) (c : Checksum)
    → option_and_then checksum_of_text said ≡ Some c → IsChecksum c
IsChecksum-read None c h = cc
IsChecksum-read (Some t) c h = IsChecksum-checksum_of_text t c h

-- a number that was read is in its range
pub least-read : (least most : ℕ) (said : Option ℤ) (n : ℕ)
    → option_and_then (number_in least most) said ≡ Some n → least ≤ n
least-read least most None n h = cc
least-read least most (Some z) n h =
    let within = and_parts (nat_le least n) (nat_le n most) (number_in-within least most z n h).0 in
    grind (arith, nat_tests, within.0)

pub most-read : (least most : ℕ) (said : Option ℤ) (n : ℕ)
    → option_and_then (number_in least most) said ≡ Some n → n ≤ most
most-read least most None n h = cc
most-read least most (Some z) n h =
    let within = and_parts (nat_le least n) (nat_le n most) (number_in-within least most z n h).0 in
    grind (arith, nat_tests, within.1)
