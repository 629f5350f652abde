-- The texts of a response are UTF-8, and it doesn't nest deep.
use Rattle.std.proofs.Common.{◌≡◌, ℕ, ◌≤◌, true, nat_lt, List, [], ◌∷◌, Option, Some, None, codes, refl, subst, arith}
use Rattle.std.specs.Prelude.{option_and_then}
use Rattle.std.proofs.lemmas.Bool.{and_parts}
use Rattle.std.proofs.lemmas.Bool.Decides.{nat_tests}
use Rattle.std.proofs.lemmas.Str.{IsUtf8-from_ascii}
use Rattle.std.proofs.lemmas.Str.Ascii.{IsAscii-cons, IsAscii-nil}
use Rattle.std.specs.List.{list_all}
use Rattle.std.specs.Str.{IsAscii, IsUtf8}
use Rattle.canonical_json.specs.Lawful.{HasTexts, HaveTexts, MembersHaveTexts}
use Rattle.canonical_json.specs.Value.{Value, depth, Members, members_depth, no_members, values_depth}
use Rattle.json_forms.specs.Writing.{checksum_value, each_written, optional_member, signed_value}
use Rattle.document_checksum.proofs.ReadTexts.{IsUtf8-checksum_text}
use Rattle.ebl_base.specs.Code.{response_code_text}
use Rattle.ebl_base.specs.Reason.{reason_index, reason_text}
use Rattle.ebl_base.specs.declared.checksum.Checksum.{Checksum}
use Rattle.ebl_base.specs.declared.code.Code.{Code}
use Rattle.ebl_base.specs.declared.code.Code.TheVariants.{Received, Duplicate, BadSignature, BadEnvelope, InconsistentDocument, MissingDocuments, DisputedEnvelope}
use Rattle.ebl_base.specs.declared.reason.Reason.{Reason}
use Rattle.ebl_base.specs.declared.reason.Reason.TheVariants.{Body, Document, Length, Signature, Entry, Signer, Link, Bill, Carrier, Platform, Fold, Move, ManifestSignature, ManifestForm, ManifestNames, Destination, Party, Parts, NotListed, Bytes}
use Rattle.ebl_base.specs.declared.signed_text.SignedText.{SignedText}
use Rattle.pint_responses.specs.Response.{IsOptionalUtf8}
use Rattle.pint_responses.specs.Writing.{place_value, reason_value, response_members, response_value}
use Rattle.pint_responses.specs.declared.response.Response.{Response}
use Rattle.pint_responses.proofs.Tails.{from_code, from_index, from_last, from_missing, from_own, from_reason, from_theirs}

-- ---- UTF-8

all_ascii : (s : List ℕ) → list_all (λ c. nat_lt c 128) s ≡ true → IsAscii s
all_ascii [] h = IsAscii-nil
all_ascii (c ∷ cs) h =
    let parts = and_parts (nat_lt c 128) (list_all (λ x. nat_lt x 128) cs) h in
    IsAscii-cons c cs (grind (arith, nat_tests, parts.0)) (all_ascii cs parts.1)

-- characters below 128, which computes
ascii_text : (s : List ℕ) → list_all (λ c. nat_lt c 128) s ≡ true → IsUtf8 s
ascii_text s h = IsUtf8-from_ascii s (all_ascii s h)

code_is_utf8 : (code : Code) → IsUtf8 (response_code_text code)
code_is_utf8 Received = ascii_text (codes "RECE") refl
code_is_utf8 Duplicate = ascii_text (codes "DUPE") refl
code_is_utf8 BadSignature = ascii_text (codes "BSIG") refl
code_is_utf8 BadEnvelope = ascii_text (codes "BENV") refl
code_is_utf8 InconsistentDocument = ascii_text (codes "INCD") refl
code_is_utf8 MissingDocuments = ascii_text (codes "MDOC") refl
code_is_utf8 DisputedEnvelope = ascii_text (codes "DISE") refl

reason_is_utf8 : (reason : Reason) → IsUtf8 (reason_text reason)
reason_is_utf8 Body = ascii_text (codes "BODY") refl
reason_is_utf8 Document = ascii_text (codes "DOCUMENT") refl
reason_is_utf8 Length = ascii_text (codes "LENGTH") refl
reason_is_utf8 (Signature i) = ascii_text (codes "SIGNATURE") refl
reason_is_utf8 (Entry i) = ascii_text (codes "ENTRY") refl
reason_is_utf8 (Signer i) = ascii_text (codes "SIGNER") refl
reason_is_utf8 (Link i) = ascii_text (codes "LINK") refl
reason_is_utf8 (Bill i) = ascii_text (codes "BILL") refl
reason_is_utf8 Carrier = ascii_text (codes "CARRIER") refl
reason_is_utf8 (Platform i) = ascii_text (codes "PLATFORM") refl
reason_is_utf8 (Fold i) = ascii_text (codes "FOLD") refl
reason_is_utf8 (Move i) = ascii_text (codes "MOVE") refl
reason_is_utf8 ManifestSignature = ascii_text (codes "MANIFEST_SIGNATURE") refl
reason_is_utf8 ManifestForm = ascii_text (codes "MANIFEST_FORM") refl
reason_is_utf8 ManifestNames = ascii_text (codes "MANIFEST_NAMES") refl
reason_is_utf8 Destination = ascii_text (codes "DESTINATION") refl
reason_is_utf8 Party = ascii_text (codes "PARTY") refl
reason_is_utf8 Parts = ascii_text (codes "PARTS") refl
reason_is_utf8 NotListed = ascii_text (codes "NOT_LISTED") refl
reason_is_utf8 Bytes = ascii_text (codes "BYTES") refl

checksums_have_texts : (checksums : List Checksum) → HaveTexts (each_written checksum_value checksums)
checksums_have_texts [] = tt
checksums_have_texts (c ∷ cs) = (IsUtf8-checksum_text c, checksums_have_texts cs)

optional_texts : {T : Type 0} (name : List ℕ) (write : T → Value) (o : Option T) (rest : Members) → IsUtf8 name
    → ((x : T) → o ≡ Some x → HasTexts (write x)) → MembersHaveTexts rest
    → MembersHaveTexts (optional_member name write o rest)
optional_texts name write None rest utf8 each h = h
optional_texts name write (Some x) rest utf8 each h = (utf8, each x refl, h)

evidence_has_texts : (o : Option SignedText) → IsOptionalUtf8 o → (t : SignedText) → o ≡ Some t
    → HasTexts (signed_value t)
evidence_has_texts None is t e = cc e
evidence_has_texts (Some d) is t e = let same : d ≡ t = cc in subst (λ (x : SignedText). IsUtf8 x.0) same is

-- each text of a response with evidence that is UTF-8
pub response_has_texts : (r : Response) → IsOptionalUtf8 r.evidence.own → IsOptionalUtf8 r.evidence.theirs
    → HasTexts (response_value r)
response_has_texts r own theirs =
    let end : MembersHaveTexts (from_theirs r) =
    optional_texts (codes "theirs") signed_value r.evidence.theirs no_members (ascii_text (codes "theirs") refl)
    (evidence_has_texts r.evidence.theirs theirs) tt in
    let code : MembersHaveTexts (from_code r) =
    (ascii_text (codes "responseCode") refl, code_is_utf8 r.code, (ascii_text (codes "standing") refl, tt, end)) in
    let reason : MembersHaveTexts (from_reason r) =
    optional_texts (codes "reason") reason_value r.reason (from_code r) (ascii_text (codes "reason") refl)
    (λ x e. reason_is_utf8 x) code in
    let mine : MembersHaveTexts (from_own r) =
    optional_texts (codes "own") signed_value r.evidence.own (from_reason r) (ascii_text (codes "own") refl)
    (evidence_has_texts r.evidence.own own) reason in
    let missing : MembersHaveTexts (from_missing r) =
    (ascii_text (codes "missing") refl, checksums_have_texts r.missing, mine) in
    let last : MembersHaveTexts (from_last r) =
    optional_texts (codes "last") checksum_value r.last (from_missing r) (ascii_text (codes "last") refl)
    (λ c e. IsUtf8-checksum_text c) missing in
    let index : MembersHaveTexts (from_index r) =
    optional_texts (codes "index") place_value (option_and_then reason_index r.reason) (from_last r)
    (ascii_text (codes "index") refl) (λ place e. tt) last in
    optional_texts (codes "bill") checksum_value r.bill (from_index r) (ascii_text (codes "bill") refl)
    (λ c e. IsUtf8-checksum_text c) index

-- ---- depth

checksums_are_flat : (checksums : List Checksum) → values_depth (each_written checksum_value checksums) ≤ 0
checksums_are_flat [] = omega arith
checksums_are_flat (c ∷ cs) = let rest = checksums_are_flat cs in omega (arith, rest)

optional_flat : {T : Type 0} (name : List ℕ) (write : T → Value) (o : Option T) (rest : Members)
    → ((x : T) → depth (write x) ≤ 1) → members_depth rest ≤ 1 → members_depth (optional_member name write o rest) ≤ 1
optional_flat name write None rest each h = h
optional_flat name write (Some x) rest each h = let first = each x in omega (arith, first, h)

-- a response nests two deep
pub response_is_flat : (r : Response) → depth (response_value r) ≤ 127
response_is_flat r =
    let end : members_depth (from_theirs r) ≤ 1 =
    optional_flat (codes "theirs") signed_value r.evidence.theirs no_members (λ x. omega arith) (omega arith) in
    let code : members_depth (from_code r) ≤ 1 = omega (arith, end) in
    let reason : members_depth (from_reason r) ≤ 1 =
    optional_flat (codes "reason") reason_value r.reason (from_code r) (λ x. omega arith) code in
    let own : members_depth (from_own r) ≤ 1 =
    optional_flat (codes "own") signed_value r.evidence.own (from_reason r) (λ x. omega arith) reason in
    let checksums = checksums_are_flat r.missing in
    let missing : members_depth (from_missing r) ≤ 1 = omega (arith, own, checksums) in
    let last : members_depth (from_last r) ≤ 1 =
    optional_flat (codes "last") checksum_value r.last (from_missing r) (λ x. omega arith) missing in
    let index : members_depth (from_index r) ≤ 1 =
    optional_flat (codes "index") place_value (option_and_then reason_index r.reason) (from_last r) (λ x. omega arith)
    last in
    let bill : members_depth (response_members r) ≤ 1 =
    optional_flat (codes "bill") checksum_value r.bill (from_index r) (λ x. omega arith) index in
    omega (arith, bill)
