-- A response that was read is well-formed.
use Rattle.std.proofs.Common.{◌≡◌, ℕ, ℤ, Bool, true, false, cond, nat_le, is_some, List, [], ◌∷◌, Option, Some, None, Result, Ok, codes, option_map, refl, ap, subst, ◌∙◌, All, arith}
use Rattle.std.specs.Prelude.{option_and_then}
use Rattle.std.proofs.lemmas.Bool.{and_parts}
use Rattle.std.proofs.lemmas.List.Elements.{All-cons}
use Rattle.canonical_json.specs.Field.{as_text, flag_of, int_of, list_of, member_of}
use Rattle.canonical_json.specs.Value.{Value, Values, no_values, item, null, flag, int, decimal, text, list, object}
use Rattle.json_forms.specs.Reading.{all_of, optional_checksum, checksum_in, optional, in_form, number_in, required_number, with_more, signed_in}
use Rattle.json_forms.proofs.RoundTrips.{number_in-within}
use Rattle.document_checksum.specs.Digest.{IsChecksum}
use Rattle.document_checksum.specs.Text.{checksum_of_text}
use Rattle.document_checksum.proofs.ReadTexts.{IsChecksum-checksum_of_text}
use Rattle.ebl_base.specs.Code.{response_code_eq}
use Rattle.ebl_base.specs.Reason.{reason_at, reason_index, reason_of}
use Rattle.ebl_base.specs.declared.checksum.Checksum.{Checksum}
use Rattle.ebl_base.specs.declared.code.Code.{Code}
use Rattle.ebl_base.specs.declared.reason.Reason.{Reason}
use Rattle.ebl_base.specs.declared.reason.Reason.TheVariants.{Body, Document, Length, Signature, Entry, Signer, Link, Bill, Carrier, Platform, Fold, Move, ManifestSignature, ManifestForm, ManifestNames, Destination, Party, Parts, NotListed, Bytes}
use Rattle.ebl_base.specs.declared.signed_text.SignedText.{SignedText}
use Rattle.ebl_base.proofs.AnswerLemmas.{code_for-reason_at}
use Rattle.pint_responses.specs.Reading.{at_index, evidence_of, indexed, optional_reason, optional_signed, reason_in, reason_under, required_code, required_missing, response_of, with_code}
use Rattle.pint_responses.specs.Response.{IsAllowed, IsOptionalChecksum, IsOptionalUtf8, IsReasonOf, comes_with, is_place}
use Rattle.pint_responses.specs.declared.fault.ResponseField.{ResponseField}
use Rattle.pint_responses.specs.declared.fault.ResponseField.TheVariants as fields
use Rattle.ebl_base.specs.declared.evidence.Evidence.{Evidence}
use Rattle.std.specs.Str.{IsUtf8}
use Rattle.canonical_json.proofs.Parts.{HasTexts-member_of}
use Rattle.canonical_json.specs.Lawful.{HasTexts}
use Rattle.json_forms.proofs.ReadForms.{required-parts, then_read-parts, unless_malformed-parts}
use Rattle.pint_responses.specs.declared.response.Response.{Response}

-- ---- checksums

-- a text that was read
of_text : (t : Option (List ℕ)) (c : Checksum) → option_and_then checksum_of_text t ≡ Some c → IsChecksum c
of_text None c h = cc h
of_text (Some t) c h = IsChecksum-checksum_of_text t c h

if_formed : (f : Option Checksum) (o : Option Checksum) → ((c : Checksum) → f ≡ Some c → IsChecksum c)
    → in_form f ≡ Ok o → IsOptionalChecksum o
if_formed None o each h = cc h
if_formed (Some c) o each h =
    let same : Some c ≡ o = cc h in subst IsOptionalChecksum same (each c refl)

optional_checksum-is : (m : Option Value) (o : Option Checksum) → optional checksum_in m ≡ Ok o → IsOptionalChecksum o
optional_checksum-is None o h = let same : None ≡ o = cc h in subst IsOptionalChecksum same tt
optional_checksum-is (Some v) o h = if_formed (checksum_in v) o (λ c. of_text (as_text v) c) h

one_more : (first : Option Checksum) (more : Option (List Checksum)) (xs : List Checksum)
    → ((c : Checksum) → first ≡ Some c → IsChecksum c) → ((ys : List Checksum) → more ≡ Some ys → All IsChecksum ys)
    → with_more first more ≡ Some xs → All IsChecksum xs
one_more None more xs h hs e = cc e
one_more (Some c) None xs h hs e = cc e
one_more (Some c) (Some ys) xs h hs e =
    let same : c ∷ ys ≡ xs = cc e in subst (All IsChecksum) same (All-cons IsChecksum c ys (h c refl) (hs ys refl))

all_checksums : (values : Values) (xs : List Checksum) → all_of checksum_in values ≡ Some xs → All IsChecksum xs
all_checksums no_values xs h =
    let same : [] ≡ xs = cc h in subst (All IsChecksum) same (λ k d lt. absurd (omega arith))
all_checksums (item v values) xs h =
    one_more (checksum_in v) (all_of checksum_in values) xs (λ c. of_text (as_text v) c)
    (λ ys. all_checksums values ys) h

listed_checksums : (l : Option Values) (xs : List Checksum) → option_and_then (all_of checksum_in) l ≡ Some xs
    → All IsChecksum xs
listed_checksums None xs h = cc h
listed_checksums (Some values) xs h = all_checksums values xs h

-- ---- reasons

-- a reason without its place comes with the code
abbrev ComesWith : Code → Option Reason → Type 0
ComesWith code None = Unit {0}
ComesWith code (Some reason) = comes_with code reason ≡ true

with_code-is : (code : Code) (reason found : Reason) (b : Bool) → comes_with code reason ≡ b
    → cond b (Some reason) None ≡ Some found → comes_with code found ≡ true
with_code-is code reason found true e h =
    let same : reason ≡ found = cc h in subst (λ x. comes_with code x ≡ true) same e
with_code-is code reason found false e h = cc h

of_reason : (code : Code) (r : Option Reason) (found : Reason) → option_and_then (with_code code) r ≡ Some found
    → comes_with code found ≡ true
of_reason code None found h = cc h
of_reason code (Some reason) found h = with_code-is code reason found (comes_with code reason) refl h

of_reason_text : (code : Code) (t : Option (List ℕ)) (found : Reason)
    → option_and_then (λ s. option_and_then (with_code code) (reason_of s)) t ≡ Some found
    → comes_with code found ≡ true
of_reason_text code None found h = cc h
of_reason_text code (Some t) found h = of_reason code (reason_of t) found h

reason_formed : (code : Code) (f : Option Reason) (o : Option Reason)
    → ((x : Reason) → f ≡ Some x → comes_with code x ≡ true) → in_form f ≡ Ok o → ComesWith code o
reason_formed code None o each h = cc h
reason_formed code (Some x) o each h = let same : Some x ≡ o = cc h in subst (ComesWith code) same (each x refl)

optional_reason-is : (code : Code) (m : Option Value) (o : Option Reason) → optional (reason_in code) m ≡ Ok o
    → ComesWith code o
optional_reason-is code None o h = let same : None ≡ o = cc h in subst (ComesWith code) same tt
optional_reason-is code (Some v) o h = reason_formed code (reason_in code v) o (λ x. of_reason_text code (as_text v) x) h

without-is : (b : Bool) (x y : Option Reason) → cond b None (Some x) ≡ Some y → x ≡ y
without-is true x y h = cc h
without-is false x y h = cc h

number-is : (z : Option ℤ) (place : ℕ) → option_and_then (number_in 0 63) z ≡ Some place → nat_le place 63 ≡ true
number-is None place h = cc h
number-is (Some z) place h = (and_parts (nat_le 0 place) (nat_le place 63) (number_in-within 0 63 z place h).0).1

mapped : (place : Option ℕ) (reason : Reason) (o : Option Reason)
    → option_map (λ p. Some (reason_at p reason)) place ≡ Some o
    → (p : ℕ) × (place ≡ Some p) × (Some (reason_at p reason) ≡ o)
mapped None reason o h = cc h
mapped (Some p) reason o h = (p, refl, cc)

place_at : (place : ℕ) (reason : Reason) → nat_le place 63 ≡ true
    → is_place (reason_index (reason_at place reason)) ≡ true
place_at place Body h = refl
place_at place Document h = refl
place_at place Length h = refl
place_at place (Signature i) h = h
place_at place (Entry i) h = h
place_at place (Signer i) h = h
place_at place (Link i) h = h
place_at place (Bill i) h = h
place_at place Carrier h = refl
place_at place (Platform i) h = h
place_at place (Fold i) h = h
place_at place (Move i) h = h
place_at place ManifestSignature h = refl
place_at place ManifestForm h = refl
place_at place ManifestNames h = refl
place_at place Destination h = refl
place_at place Party h = refl
place_at place Parts h = refl
place_at place NotListed h = refl
place_at place Bytes h = refl

at_index-is : (v : Value) (code : Code) (reason : Reason) (first : Option ℕ) (o : Option Reason)
    → reason_index reason ≡ first → comes_with code reason ≡ true → at_index v reason first ≡ Some o → IsReasonOf code o
at_index-is v code reason None o index comes h =
    let same : Some reason ≡ o = without-is (is_some (member_of (codes "index") v)) (Some reason) o h in
    subst (IsReasonOf code) same (comes, ap is_place index)
at_index-is v code reason (Some first) o index comes h =
    let at = mapped (required_number (codes "index") 0 63 v) reason o h in
    let small : nat_le at.0 63 ≡ true = number-is (int_of (codes "index") v) at.0 at.1 in
    let comes_there : comes_with code (reason_at at.0 reason) ≡ true =
    ap (λ other. response_code_eq other code) (code_for-reason_at at.0 reason) ∙ comes in
    subst (IsReasonOf code) at.2 (comes_there, place_at at.0 reason small)

indexed-is : (v : Value) (code : Code) (r o : Option Reason) → ComesWith code r → indexed v r ≡ Some o
    → IsReasonOf code o
indexed-is v code None o comes h =
    let same : None ≡ o = without-is (is_some (member_of (codes "index") v)) None o h in subst (IsReasonOf code) same tt
indexed-is v code (Some reason) o comes h = at_index-is v code reason (reason_index reason) o refl comes h

reason_is : (code : Code) (v : Value) (o : Option Reason) → reason_under code v ≡ Ok o → IsReasonOf code o
reason_is code v o h =
    let found = unless_malformed-parts fields.Reason (optional_reason code v) _ o h in
    let reason = required-parts fields.Index (indexed v found.0) Ok o found.2 in
    let same : reason.0 ≡ o = cc reason.2 in
    subst (IsReasonOf code) same (indexed-is v code found.0 reason.0
    (optional_reason-is code (member_of (codes "reason") v) found.0 found.1) reason.1)

-- ---- evidence

signed-utf8 : (w : Value) (t : SignedText) → HasTexts w → signed_in w ≡ Some t → IsUtf8 t.0
signed-utf8 null t h e = cc e
signed-utf8 (flag b) t h e = cc e
signed-utf8 (int z) t h e = cc e
signed-utf8 (decimal z n) t h e = cc e
signed-utf8 (text s) t h e =
    let made : SignedText = record { 0 = s } in
    let same : made ≡ t = cc e in
    subst (λ (x : SignedText). IsUtf8 x.0) same h
signed-utf8 (list vs) t h e = cc e
signed-utf8 (object ms) t h e = cc e

formed-utf8 : (f o : Option SignedText) → ((t : SignedText) → f ≡ Some t → IsUtf8 t.0) → in_form f ≡ Ok o
    → IsOptionalUtf8 o
formed-utf8 None o each h = cc h
formed-utf8 (Some t) o each h = let same : Some t ≡ o = cc h in subst IsOptionalUtf8 same (each t refl)

signed-is : (name : List ℕ) (v : Value) (o : Option SignedText) → HasTexts v → optional_signed name v ≡ Ok o
    → IsOptionalUtf8 o
signed-is name v o texts h = by_member (member_of name v) refl h
  where
    by_member : (m : Option Value) → member_of name v ≡ m → optional signed_in m ≡ Ok o → IsOptionalUtf8 o
    by_member None e f = let same : None ≡ o = cc f in subst IsOptionalUtf8 same tt
    by_member (Some w) e f = formed-utf8 (signed_in w) o (λ t. signed-utf8 w t (HasTexts-member_of name v w texts e)) f

-- ---- the whole

ok_same : {A : Type 0} (x y : A) (read : Result A ResponseField) → read ≡ Ok x → read ≡ Ok y → x ≡ y
ok_same x y read first second = cc

pub read_is_allowed : (v : Value) (r : Response) → HasTexts v → response_of v ≡ Ok r → IsAllowed r
read_is_allowed v r texts h =
    let code = required-parts fields.ResponseCode (required_code v) _ r h in
    let bill = unless_malformed-parts fields.Bill (optional_checksum (codes "bill") v) _ r code.2 in
    let last = unless_malformed-parts fields.Last (optional_checksum (codes "last") v) _ r bill.2 in
    let standing = required-parts fields.Standing (flag_of (codes "standing") v) _ r last.2 in
    let reason = then_read-parts (reason_under code.0 v) _ r standing.2 in
    let missing = required-parts fields.Missing (required_missing v) _ r reason.2 in
    let evidence = then_read-parts (evidence_of v) _ r missing.2 in
    let own = unless_malformed-parts fields.Own (optional_signed (codes "own") v) _ evidence.0 evidence.1 in
    let theirs = unless_malformed-parts fields.Theirs (optional_signed (codes "theirs") v) _ evidence.0 own.2 in
    let shown : Evidence = record { own = own.0; theirs = theirs.0 } in
    let found : shown ≡ evidence.0 = ok_same shown evidence.0 (Ok shown) refl theirs.2 in
    let made : Response = record {
      code = code.0;
      bill = bill.0;
      last = last.0;
      standing = standing.0;
      reason = reason.0;
      missing = missing.0;
      evidence = evidence.0;
    } in
    let same : made ≡ r = ok_same made r (Ok made) refl evidence.2 in
    subst IsAllowed same (record {
      bill = optional_checksum-is (member_of (codes "bill") v) bill.0 bill.1;
      last = optional_checksum-is (member_of (codes "last") v) last.0 last.1;
      reason = reason_is code.0 v reason.0 reason.1;
      missing = listed_checksums (list_of (codes "missing") v) missing.0 missing.1;
      own = subst (λ (e : Evidence). IsOptionalUtf8 e.own) found (signed-is (codes "own") v own.0 texts own.1);
      theirs = subst (λ (e : Evidence). IsOptionalUtf8 e.theirs) found
          (signed-is (codes "theirs") v theirs.0 texts theirs.1);
    })
