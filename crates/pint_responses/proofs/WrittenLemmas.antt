-- What a response is written as is read as that response.
use Rattle.std.proofs.Common.{◌≡◌, ℕ, suc, ◌⊎◌, inl, inr, Bool, true, false, nat_le, List, [], ◌∷◌, Option, Some, None, Ok, codes, bytes_eq, min, option_map, refl, ◌∙◌, arith, All}
use Rattle.std.specs.Prelude.{option_and_then}
use Rattle.std.proofs.lemmas.Bool.Decides.{nat_tests}
use Rattle.canonical_json.specs.Field.{flag_of, member_of, under}
use Rattle.canonical_json.specs.Value.{Value, flag, Members, no_members}
use Rattle.json_forms.specs.Reading.{all_of, optional_checksum, checksum_in, required_number}
use Rattle.json_forms.specs.Writing.{checksum_value, checksums_value, each_written, optional_member, signed_value}
use Rattle.document_checksum.specs.Digest.{IsChecksum}
use Rattle.document_checksum.proofs.Texts.{checksum_of_text-checksum_text}
use Rattle.ebl_base.specs.Reason.{reason_at, reason_index}
use Rattle.ebl_base.specs.declared.checksum.Checksum.{Checksum}
use Rattle.ebl_base.specs.declared.code.Code.{Code}
use Rattle.ebl_base.specs.declared.reason.Reason.{Reason}
use Rattle.ebl_base.specs.declared.reason.Reason.TheVariants.{Body, Document, Length, Signature, Entry, Signer, Link, Bill, Carrier, Platform, Fold, Move, ManifestSignature, ManifestForm, ManifestNames, Destination, Party, Parts, NotListed, Bytes}
use Rattle.ebl_base.specs.declared.signed_text.SignedText.{SignedText}
use Rattle.ebl_base.proofs.AnswerLemmas.{code_for-reason_at, reason_of-reason_text, response_code_of-response_code_text}
use Rattle.pint_responses.specs.Reading.{indexed, optional_reason, optional_signed, reason_in, required_code, required_missing, response_of}
use Rattle.pint_responses.specs.Response.{IsAllowed, IsOptionalChecksum, IsReasonOf, comes_with}
use Rattle.pint_responses.specs.Writing.{code_value, place_value, reason_value, response_members, response_value}
use Rattle.pint_responses.specs.declared.response.Response.{Response}
use Rattle.pint_responses.proofs.Tails.{from_code, from_index, from_last, from_missing, from_reason}

-- ---- the members by their names

-- a member of another name is passed over
skip : {T : Type 0} (name other : List ℕ) (write : T → Value) (o : Option T) (rest : Members)
    → bytes_eq other name ≡ false → under name (optional_member other write o rest) ≡ under name rest
skip name other write None rest h = refl
skip name other write (Some x) rest h = rw h refl

-- the member of the name, where there is none behind
found : {T : Type 0} (name : List ℕ) (write : T → Value) (o : Option T) (rest : Members)
    → bytes_eq name name ≡ true → under name rest ≡ None
    → under name (optional_member name write o rest) ≡ option_map write o
found name write None rest h none = none
found name write (Some x) rest h none = rw h refl

under_bill : (r : Response) → under (codes "bill") (response_members r) ≡ option_map checksum_value r.bill
under_bill r =
    found (codes "bill") checksum_value r.bill (from_index r) refl
    (skip (codes "bill") (codes "index") place_value (option_and_then reason_index r.reason) (from_last r) refl
    ∙ skip (codes "bill") (codes "last") checksum_value r.last (from_missing r) refl
    ∙ skip (codes "bill") (codes "own") signed_value r.evidence.own (from_reason r) refl
    ∙ skip (codes "bill") (codes "reason") reason_value r.reason (from_code r) refl
    ∙ skip (codes "bill") (codes "theirs") signed_value r.evidence.theirs no_members refl)

under_index : (r : Response)
    → under (codes "index") (response_members r) ≡ option_map place_value (option_and_then reason_index r.reason)
under_index r =
    skip (codes "index") (codes "bill") checksum_value r.bill (from_index r) refl
    ∙ found (codes "index") place_value (option_and_then reason_index r.reason) (from_last r) refl
    (skip (codes "index") (codes "last") checksum_value r.last (from_missing r) refl
    ∙ skip (codes "index") (codes "own") signed_value r.evidence.own (from_reason r) refl
    ∙ skip (codes "index") (codes "reason") reason_value r.reason (from_code r) refl
    ∙ skip (codes "index") (codes "theirs") signed_value r.evidence.theirs no_members refl)

under_last : (r : Response) → under (codes "last") (response_members r) ≡ option_map checksum_value r.last
under_last r =
    skip (codes "last") (codes "bill") checksum_value r.bill (from_index r) refl
    ∙ skip (codes "last") (codes "index") place_value (option_and_then reason_index r.reason) (from_last r) refl
    ∙ found (codes "last") checksum_value r.last (from_missing r) refl
    (skip (codes "last") (codes "own") signed_value r.evidence.own (from_reason r) refl
    ∙ skip (codes "last") (codes "reason") reason_value r.reason (from_code r) refl
    ∙ skip (codes "last") (codes "theirs") signed_value r.evidence.theirs no_members refl)

under_missing : (r : Response) → under (codes "missing") (response_members r) ≡ Some (checksums_value r.missing)
under_missing r =
    skip (codes "missing") (codes "bill") checksum_value r.bill (from_index r) refl
    ∙ skip (codes "missing") (codes "index") place_value (option_and_then reason_index r.reason) (from_last r) refl
    ∙ skip (codes "missing") (codes "last") checksum_value r.last (from_missing r) refl

under_own : (r : Response) → under (codes "own") (response_members r) ≡ option_map signed_value r.evidence.own
under_own r =
    skip (codes "own") (codes "bill") checksum_value r.bill (from_index r) refl
    ∙ skip (codes "own") (codes "index") place_value (option_and_then reason_index r.reason) (from_last r) refl
    ∙ skip (codes "own") (codes "last") checksum_value r.last (from_missing r) refl
    ∙ found (codes "own") signed_value r.evidence.own (from_reason r) refl
    (skip (codes "own") (codes "reason") reason_value r.reason (from_code r) refl
    ∙ skip (codes "own") (codes "theirs") signed_value r.evidence.theirs no_members refl)

under_reason : (r : Response) → under (codes "reason") (response_members r) ≡ option_map reason_value r.reason
under_reason r =
    skip (codes "reason") (codes "bill") checksum_value r.bill (from_index r) refl
    ∙ skip (codes "reason") (codes "index") place_value (option_and_then reason_index r.reason) (from_last r) refl
    ∙ skip (codes "reason") (codes "last") checksum_value r.last (from_missing r) refl
    ∙ skip (codes "reason") (codes "own") signed_value r.evidence.own (from_reason r) refl
    ∙ found (codes "reason") reason_value r.reason (from_code r) refl
    (skip (codes "reason") (codes "theirs") signed_value r.evidence.theirs no_members refl)

under_responseCode : (r : Response) → under (codes "responseCode") (response_members r) ≡ Some (code_value r.code)
under_responseCode r =
    skip (codes "responseCode") (codes "bill") checksum_value r.bill (from_index r) refl
    ∙ skip (codes "responseCode") (codes "index") place_value (option_and_then reason_index r.reason) (from_last r) refl
    ∙ skip (codes "responseCode") (codes "last") checksum_value r.last (from_missing r) refl
    ∙ skip (codes "responseCode") (codes "own") signed_value r.evidence.own (from_reason r) refl
    ∙ skip (codes "responseCode") (codes "reason") reason_value r.reason (from_code r) refl

under_standing : (r : Response) → under (codes "standing") (response_members r) ≡ Some (flag r.standing)
under_standing r =
    skip (codes "standing") (codes "bill") checksum_value r.bill (from_index r) refl
    ∙ skip (codes "standing") (codes "index") place_value (option_and_then reason_index r.reason) (from_last r) refl
    ∙ skip (codes "standing") (codes "last") checksum_value r.last (from_missing r) refl
    ∙ skip (codes "standing") (codes "own") signed_value r.evidence.own (from_reason r) refl
    ∙ skip (codes "standing") (codes "reason") reason_value r.reason (from_code r) refl

under_theirs : (r : Response)
    → under (codes "theirs") (response_members r) ≡ option_map signed_value r.evidence.theirs
under_theirs r =
    skip (codes "theirs") (codes "bill") checksum_value r.bill (from_index r) refl
    ∙ skip (codes "theirs") (codes "index") place_value (option_and_then reason_index r.reason) (from_last r) refl
    ∙ skip (codes "theirs") (codes "last") checksum_value r.last (from_missing r) refl
    ∙ skip (codes "theirs") (codes "own") signed_value r.evidence.own (from_reason r) refl
    ∙ skip (codes "theirs") (codes "reason") reason_value r.reason (from_code r) refl
    ∙ found (codes "theirs") signed_value r.evidence.theirs no_members refl refl

-- ---- what each of them is read as

checksum-written : (name : List ℕ) (v : Value) (o : Option Checksum) → member_of name v ≡ option_map checksum_value o
    → IsOptionalChecksum o → optional_checksum name v ≡ Ok o
checksum-written name v None h is = rw h refl
checksum-written name v (Some c) h is = rw (h, checksum_of_text-checksum_text c is) refl

reason_in-written : (code : Code) (reason : Reason) → comes_with code reason ≡ true
    → reason_in code (reason_value reason) ≡ Some (reason_at 0 reason)
reason_in-written code reason h =
    rw (reason_of-reason_text reason, code_for-reason_at 0 reason, h) refl

reason-written : (code : Code) (v : Value) (o : Option Reason)
    → member_of (codes "reason") v ≡ option_map reason_value o
    → IsReasonOf code o → optional_reason code v ≡ Ok (option_map (reason_at 0) o)
reason-written code v None h is = rw h refl
reason-written code v (Some reason) h is = rw (h, reason_in-written code reason is.0) refl

-- a reason of no entry, or one of an entry
abbrev pub IsAt : Reason → Type 0
IsAt reason =
    ((reason_index reason ≡ None) × (reason_index (reason_at 0 reason) ≡ None) × (reason_at 0 reason ≡ reason))
    ⊎ ((place : ℕ) × (reason_index reason ≡ Some place) × (reason_index (reason_at 0 reason) ≡ Some 0)
    × (reason_at place (reason_at 0 reason) ≡ reason))

entry_of : (reason : Reason) → IsAt reason
entry_of Body = inl (refl, refl, refl)
entry_of Document = inl (refl, refl, refl)
entry_of Length = inl (refl, refl, refl)
entry_of (Signature i) = inr (i, refl, refl, refl)
entry_of (Entry i) = inr (i, refl, refl, refl)
entry_of (Signer i) = inr (i, refl, refl, refl)
entry_of (Link i) = inr (i, refl, refl, refl)
entry_of (Bill i) = inr (i, refl, refl, refl)
entry_of Carrier = inl (refl, refl, refl)
entry_of (Platform i) = inr (i, refl, refl, refl)
entry_of (Fold i) = inr (i, refl, refl, refl)
entry_of (Move i) = inr (i, refl, refl, refl)
entry_of ManifestSignature = inl (refl, refl, refl)
entry_of ManifestForm = inl (refl, refl, refl)
entry_of ManifestNames = inl (refl, refl, refl)
entry_of Destination = inl (refl, refl, refl)
entry_of Party = inl (refl, refl, refl)
entry_of Parts = inl (refl, refl, refl)
entry_of NotListed = inl (refl, refl, refl)
entry_of Bytes = inl (refl, refl, refl)

-- the place of an entry reads as itself
place-written : (v : Value) (place : ℕ) → member_of (codes "index") v ≡ Some (place_value place)
    → nat_le place 63 ≡ true → required_number (codes "index") 0 63 v ≡ Some place
place-written v place h small =
    let same : min place 9007199254740991 ≡ place = grind (arith, nat_tests) in
    let low : nat_le 0 place ≡ true = grind (arith, nat_tests) in
    rw (h, same, low, small) refl

index-written : (v : Value) (o : Option Reason) (code : Code)
    → member_of (codes "index") v ≡ option_map place_value (option_and_then reason_index o)
    → IsReasonOf code o → indexed v (option_map (reason_at 0) o) ≡ Some o
index-written v None code h is = rw h refl
index-written v (Some reason) code h is = by_entry (entry_of reason)
  where
    by_entry : IsAt reason → indexed v (Some (reason_at 0 reason)) ≡ Some (Some reason)
    by_entry (inl at) =
        let none : member_of (codes "index") v ≡ None = rw at.0 at h in
        rw (at.1, none, at.2) refl
    by_entry (inr at) =
        let some : member_of (codes "index") v ≡ Some (place_value at.0) = rw at.1 at h in
        let small : nat_le at.0 63 ≡ true = rw at.1 at is.1 in
        rw (at.2, place-written v at.0 some small, at.3) refl

evidence-written : (name : List ℕ) (v : Value) (o : Option SignedText) → member_of name v ≡ option_map signed_value o
    → optional_signed name v ≡ Ok o
evidence-written name v None h = rw h refl
evidence-written name v (Some text) h = rw h refl

missing-written : (checksums : List Checksum) → All IsChecksum checksums
    → all_of checksum_in (each_written checksum_value checksums) ≡ Some checksums
missing-written [] all = refl
missing-written (c ∷ cs) all =
    let is : IsChecksum c = all 0 c (omega arith) in
    let rest = missing-written cs (λ k d lt. all (suc k) d (omega arith)) in
    rw (checksum_of_text-checksum_text c is, rest) refl

-- ---- the whole

-- the response with these members
response_of-members : (v : Value) (code : Code) (bill last : Option Checksum) (standing : Bool)
    (text reason : Option Reason) (missing : List Checksum) (own theirs : Option SignedText)
    → required_code v ≡ Some code → optional_checksum (codes "bill") v ≡ Ok bill
    → optional_checksum (codes "last") v ≡ Ok last → flag_of (codes "standing") v ≡ Some standing
    → optional_reason code v ≡ Ok text → indexed v text ≡ Some reason → required_missing v ≡ Some missing
    → optional_signed (codes "own") v ≡ Ok own → optional_signed (codes "theirs") v ≡ Ok theirs
    → response_of v ≡ Ok (record {
      code = code;
      bill = bill;
      last = last;
      standing = standing;
      reason = reason;
      missing = missing;
      evidence = record { own = own; theirs = theirs };
    })
response_of-members v code bill last standing text reason missing own theirs h1 h2 h3 h4 h5 h6 h7 h8 h9 =
    rw (h1, h2, h3, h4, h5, h6, h7, h8, h9) refl

-- a well-formed response is read as it is written
pub written_is_read : (r : Response) → IsAllowed r → response_of (response_value r) ≡ Ok r
written_is_read r is =
    response_of-members (response_value r) r.code r.bill r.last r.standing (option_map (reason_at 0) r.reason) r.reason
    r.missing r.evidence.own r.evidence.theirs
    (rw (under_responseCode r) (response_code_of-response_code_text r.code))
    (checksum-written (codes "bill") (response_value r) r.bill (under_bill r) is.bill)
    (checksum-written (codes "last") (response_value r) r.last (under_last r) is.last)
    (rw (under_standing r) refl)
    (reason-written r.code (response_value r) r.reason (under_reason r) is.reason)
    (index-written (response_value r) r.reason r.code (under_index r) is.reason)
    (rw (under_missing r) (missing-written r.missing is.missing))
    (evidence-written (codes "own") (response_value r) r.evidence.own (under_own r))
    (evidence-written (codes "theirs") (response_value r) r.evidence.theirs (under_theirs r))
