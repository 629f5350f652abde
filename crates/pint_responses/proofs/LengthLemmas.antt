-- How long a response is that can be sealed.
use Rattle.std.proofs.Common.{◌≡◌, ℕ, suc, ◌+◌, ◌*◌, ◌/◌, ◌%◌, ◌≤◌, ◌<◌, Bool, true, false, List, [], ◌∷◌, ◌++◌, Option, Some, None, codes, cond, length, min, nat_lt, refl, subst, ap, arith, lit<, lit≤, length-append, All}
use Rattle.std.specs.Prelude.{option_and_then}
use Rattle.std.specs.Char.{digit_char}
use Rattle.std.specs.Fmt.{decimal}
use Rattle.std.proofs.lemmas.Fmt.{length-decimal-le}
use Rattle.json.specs.Print.{escape, escape_byte, escape_letter, quoted}
use Rattle.canonical_json.specs.Canon.{canon, members_text, values_text}
use Rattle.canonical_json.specs.Value.{Value, flag, text, Members, no_members, member}
use Rattle.json_forms.specs.Writing.{HasDigits, checksum_value, checksums_value, each_written, optional_member, signed_value}
use Rattle.document_checksum.specs.Text.{checksum_text}
use Rattle.ebl_base.specs.Code.{response_code_text}
use Rattle.ebl_base.specs.Reason.{reason_index, reason_text}
use Rattle.ebl_base.specs.declared.checksum.Checksum.{Checksum}
use Rattle.ebl_base.specs.declared.code.Code.{Code}
use Rattle.ebl_base.specs.declared.code.Code.TheVariants.{Received, Duplicate, BadSignature, BadEnvelope, InconsistentDocument, MissingDocuments, DisputedEnvelope}
use Rattle.ebl_base.specs.declared.reason.Reason.{Reason}
use Rattle.ebl_base.specs.declared.reason.Reason.TheVariants.{Body, Document, Length, Signature, Entry, Signer, Link, Bill, Carrier, Platform, Fold, Move, ManifestSignature, ManifestForm, ManifestNames, Destination, Party, Parts, NotListed, Bytes}
use Rattle.ebl_base.specs.declared.signed_text.SignedText.{SignedText}
use Rattle.pint_responses.specs.Response.{HasOptionalDigits, HaveDigits, IsEvidence, IsOptionalEvidence, IsSealable}
use Rattle.pint_responses.specs.Writing.{code_value, place_value, reason_value, response_members, response_value}
use Rattle.pint_responses.specs.declared.response.Response.{Response}
use Rattle.pint_responses.proofs.Tails.{from_code, from_index, from_last, from_missing, from_own, from_reason, from_standing, from_theirs}
use Rattle.signed_envelope.proofs.CompactLemmas.{escape_on_compact}

-- ---- texts

length_of_either : (b : Bool) (xs ys : List ℕ) (n : ℕ) → length xs ≤ n → length ys ≤ n → length (cond b xs ys) ≤ n
length_of_either true xs ys n hx hy = hx
length_of_either false xs ys n hx hy = hy

length-escape_byte : (c : ℕ) → length (escape_byte c) ≤ 6
unfolding escape_byte
length-escape_byte c =
    length_of_either (nat_lt 0 (escape_letter c)) (92 ∷ escape_letter c ∷ [])
    (cond (nat_lt c 32) (92 ∷ 117 ∷ 48 ∷ 48 ∷ digit_char (c / 16) ∷ digit_char (c % 16) ∷ []) (c ∷ [])) 6 (omega arith)
    (length_of_either (nat_lt c 32) (92 ∷ 117 ∷ 48 ∷ 48 ∷ digit_char (c / 16) ∷ digit_char (c % 16) ∷ []) (c ∷ []) 6
    (omega arith) (omega arith))

-- no character has more than six bytes in JSON
length-escape : (s : List ℕ) → length (escape s) ≤ 6 * length s
length-escape [] = lit≤ tt
length-escape (c ∷ cs) =
    omega (arith, length-append (escape_byte c) (escape cs), length-escape_byte c, length-escape cs)

length-quoted : (s : List ℕ) → length (quoted s) ≡ length (escape s) + 2
length-quoted s = omega (arith, length-append (escape s) (34 ∷ []))

length-text : (s : List ℕ) (most : ℕ) → length s ≤ most → length (canon (text s)) ≤ 6 * most + 2
length-text s most h = omega (arith, length-quoted s, length-escape s)

-- ---- values

length-checksum : (c : Checksum) → HasDigits c → length (canon (checksum_value c)) ≤ 386
length-checksum c digits = length-text (checksum_text c) 64 (omega (arith, digits))

length-evidence : (e : SignedText) → IsEvidence e.0 → length (canon (signed_value e)) ≤ 16386
length-evidence e is =
    let same : length (escape e.0) ≡ length e.0 = ap length (escape_on_compact 16384 e.0 is.0 is.1) in
    let fits = is.1.fits in
    omega (arith, length-quoted e.0, same, fits)

-- a number up to the greatest one has at most 16 digits
length-number : (n : ℕ) → n ≤ 9007199254740991 → length (decimal n) ≤ 16
length-number n h = length-decimal-le 16 n (lit< tt) (omega arith) (omega arith)

length-place : (place : ℕ) → length (canon (place_value place)) ≤ 16
length-place place = length-number (min place 9007199254740991) (omega arith)

length-code_text : (code : Code) → length (response_code_text code) ≤ 4
length-code_text Received = lit≤ tt
length-code_text Duplicate = lit≤ tt
length-code_text BadSignature = lit≤ tt
length-code_text BadEnvelope = lit≤ tt
length-code_text InconsistentDocument = lit≤ tt
length-code_text MissingDocuments = lit≤ tt
length-code_text DisputedEnvelope = lit≤ tt

length-reason_text : (reason : Reason) → length (reason_text reason) ≤ 18
length-reason_text Body = lit≤ tt
length-reason_text Document = lit≤ tt
length-reason_text Length = lit≤ tt
length-reason_text (Signature i) = lit≤ tt
length-reason_text (Entry i) = lit≤ tt
length-reason_text (Signer i) = lit≤ tt
length-reason_text (Link i) = lit≤ tt
length-reason_text (Bill i) = lit≤ tt
length-reason_text Carrier = lit≤ tt
length-reason_text (Platform i) = lit≤ tt
length-reason_text (Fold i) = lit≤ tt
length-reason_text (Move i) = lit≤ tt
length-reason_text ManifestSignature = lit≤ tt
length-reason_text ManifestForm = lit≤ tt
length-reason_text ManifestNames = lit≤ tt
length-reason_text Destination = lit≤ tt
length-reason_text Party = lit≤ tt
length-reason_text Parts = lit≤ tt
length-reason_text NotListed = lit≤ tt
length-reason_text Bytes = lit≤ tt

length-flag : (b : Bool) → length (canon (flag b)) ≤ 5
length-flag true = lit≤ tt
length-flag false = lit≤ tt

-- ---- the missing documents

length-checksums : (checksums : List Checksum) → All HasDigits checksums
    → length (values_text true (each_written checksum_value checksums)) ≤ 387 * length checksums + 1
length-checksums [] all = lit≤ tt
length-checksums (c ∷ cs) all =
    let size : HasDigits c = all 0 c (omega arith) in
    let first = length-checksum c size in
    let rest = length-checksums cs (λ k d lt. all (suc k) d (omega arith)) in
    omega (
      arith,
      length-append (canon (checksum_value c)) (values_text true (each_written checksum_value cs)),
      first,
      rest,
    )

first_has_no_comma : (checksums : List Checksum)
    → length (values_text false (each_written checksum_value checksums))
    ≤ length (values_text true (each_written checksum_value checksums))
first_has_no_comma [] = omega arith
first_has_no_comma (c ∷ cs) = omega arith

length-missing : (checksums : List Checksum) → length checksums ≤ 16 → All HasDigits checksums
    → length (canon (checksums_value checksums)) ≤ 6194
length-missing checksums few all = omega (arith, first_has_no_comma checksums, length-checksums checksums all)

-- ---- members

length_member : (name : List ℕ) (value : Value) (rest : Members) (most : ℕ)
    → 6 * length name + length (canon value) + 4 ≤ most
    → length (members_text true (member name value rest)) ≤ most + length (members_text true rest)
length_member name value rest most h =
    omega (
      arith,
      length-append (quoted name) (58 ∷ (canon value ++ members_text true rest)),
      length-append (canon value) (members_text true rest),
      length-quoted name,
      length-escape name,
      h,
    )

optional_length : {T : Type 0} (name : List ℕ) (write : T → Value) (o : Option T) (rest : Members) (most : ℕ)
    → ((x : T) → o ≡ Some x → 6 * length name + length (canon (write x)) + 4 ≤ most)
    → length (members_text true (optional_member name write o rest)) ≤ most + length (members_text true rest)
optional_length name write None rest most h = omega arith
optional_length name write (Some x) rest most h = length_member name (write x) rest most (h x refl)

first_member : (rest : Members) → length (members_text false rest) ≤ length (members_text true rest)
first_member no_members = omega arith
first_member (member name value rest) = omega arith

size_of : (o : Option Checksum) → HasOptionalDigits o → (c : Checksum) → o ≡ Some c → HasDigits c
size_of None h c e = cc e
size_of (Some d) h c e = let same : d ≡ c = cc in subst HasDigits same h

-- the evidence that is there
pub evidence_of : (o : Option SignedText) → IsOptionalEvidence o → (t : SignedText) → o ≡ Some t → IsEvidence t.0
evidence_of None h t e = cc e
evidence_of (Some d) h t e = let same : d ≡ t = cc in subst (λ (x : SignedText). IsEvidence x.0) same h

-- a response that can be sealed has at most 40,401 bytes as JSON
length-response : (r : Response) → IsSealable r → HaveDigits r → length (canon (response_value r)) ≤ 40401
length-response r sealable sizes =
    let end : length (members_text true no_members) ≤ 1 = lit≤ tt in
    let theirs = optional_length (codes "theirs") signed_value r.evidence.theirs no_members 16426
    (λ t e. let l = length-evidence t (evidence_of r.evidence.theirs sealable.theirs t e) in omega (arith, l)) in
    let standing = length_member (codes "standing") (flag r.standing) (from_theirs r) 57
    (let l = length-flag r.standing in omega (arith, l)) in
    let code = length_member (codes "responseCode") (code_value r.code) (from_standing r) 102
    (let l = length-text (response_code_text r.code) 4 (length-code_text r.code) in omega (arith, l)) in
    let reason = optional_length (codes "reason") reason_value r.reason (from_code r) 150
    (λ x e. let l = length-text (reason_text x) 18 (length-reason_text x) in omega (arith, l)) in
    let own = optional_length (codes "own") signed_value r.evidence.own (from_reason r) 16408
    (λ t e. let l = length-evidence t (evidence_of r.evidence.own sealable.own t e) in omega (arith, l)) in
    let missing = length_member (codes "missing") (checksums_value r.missing) (from_own r) 6240
    (let l = length-missing r.missing sealable.missing sizes.missing in omega (arith, l)) in
    let last = optional_length (codes "last") checksum_value r.last (from_missing r) 414
    (λ c e. let l = length-checksum c (size_of r.last sizes.last c e) in omega (arith, l)) in
    let index = optional_length (codes "index") place_value (option_and_then reason_index r.reason) (from_last r) 50
    (λ place e. let l = length-place place in omega (arith, l)) in
    let bill = optional_length (codes "bill") checksum_value r.bill (from_index r) 414
    (λ c e. let l = length-checksum c (size_of r.bill sizes.bill c e) in omega (arith, l)) in
    omega (
      arith,
      first_member (response_members r),
      end,
      theirs,
      standing,
      code,
      reason,
      own,
      missing,
      last,
      index,
      bill,
    )

-- so its sealed text is never longer than 65,536 bytes
pub never_too_long : (r : Response) → IsSealable r → HaveDigits r
    → 3 * 65536 < 4 * length (canon (response_value r)) + 380 → ⊥
never_too_long r sealable digits long =
    let short = length-response r sealable digits in
    absurd (omega (arith, short, long))
