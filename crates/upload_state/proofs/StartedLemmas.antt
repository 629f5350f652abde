-- The answer that an upload has started, beside its written form.
use Rattle.std.proofs.Common.{◌≡◌, ℕ, ◌≤◌, List, [], ◌∷◌, true, ◌&&◌, nat_le, cond, Option, Some, None, codes, refl, sym, ap, ◌∙◌, subst, arith}
use Rattle.std.specs.Prelude.{option_and_then}
use Rattle.std.specs.Str.{chars}
use Rattle.std.proofs.lemmas.Bool.{and_parts}
use Rattle.std.proofs.lemmas.Bool.Decides.{nat_tests}
use Rattle.canonical_json.specs.Value.{Value, Values, no_values, item, depth, values_depth}
use Rattle.canonical_json.specs.Name.{name_cmp}
use Rattle.canonical_json.specs.Field.{as_text}
use Rattle.canonical_json.specs.Lawful.{IsLawful, are_lawful, HasTexts, HaveTexts}
use Rattle.canonical_json.specs.Reading.{Reads}
use Rattle.canonical_json.specs.Reading as canonical
use Rattle.canonical_json.specs.declared.fault.ReadError.{ReadError}
use Rattle.canonical_json.specs.declared.fault.ReadError.TheVariants as error
use Rattle.canonical_json.proofs.Parts.{Reads_once}
use Rattle.canonical_json.proofs.Refusals.{none_for_no_json, none_for_repeated, none_for_fraction, none_for_range}
use Rattle.document_checksum.proofs.Texts.{checksum_of_text-checksum_text}
use Rattle.document_checksum.proofs.ReadTexts.{IsUtf8-checksum_text}
use Rattle.json_forms.specs.Reading.{within, count_of, all_of, with_more, checksum_in}
use Rattle.json_forms.specs.Writing.{each_written, checksum_value}
use Rattle.json_forms.proofs.RoundTrips.{kept, count_of-each_written}
use Rattle.ebl_base.specs.declared.checksum.Checksum.{Checksum}
use Rattle.envelope_manifest.proofs.FormLemmas.{IsUtf8-ascii}
use Rattle.json_forms.proofs.ReadForms.{IsChecksum-read}
use Rattle.upload_state.specs.declared.started.Started.{Started}
use Rattle.upload_state.specs.Started.{AreChecksums, IsStarted, ReadsAs, started_of, started_value, started_with, IsFault, fault_of}
use Rattle.upload_state.proofs.ReferenceLemmas.{reference_in-reference_text, IsUtf8-reference_text}

-- why a text isn't read
pub IsFault-fault_of : (bytes : List ℕ) (e : ReadError) → canonical.IsFault bytes e → IsFault bytes (fault_of e)
IsFault-fault_of bytes error.NotJson h = λ started (v, reads, is). none_for_no_json bytes h v reads
IsFault-fault_of bytes error.Repeated h = λ started (v, reads, is). none_for_repeated bytes h v reads
IsFault-fault_of bytes error.Fraction h = λ started (v, reads, is). none_for_fraction bytes h v reads
IsFault-fault_of bytes error.Range h = λ started (v, reads, is). none_for_range bytes h v reads
IsFault-fault_of bytes error.NoMemory h = tt

-- ---- what was read

-- how many values there are
pub record IsWithin (low high count : ℕ) : Type 0 where
  pub least : low ≤ count
  pub most : count ≤ high

pub within-read : (least most : ℕ) (said : Option Values) (found : Values)
    → option_and_then (within least most) said ≡ Some found → IsWithin least most (count_of found)
within-read least most None found h = cc
within-read least most (Some vs) found h =
    let both = kept (nat_le least (count_of vs) && nat_le (count_of vs) most) vs found h in
    let tests = and_parts (nat_le least (count_of vs)) (nat_le (count_of vs) most) both.0 in
    let low : least ≤ count_of vs = grind (arith, nat_tests, tests.0) in
    let high : count_of vs ≤ most = grind (arith, nat_tests, tests.1) in
    subst (λ v. IsWithin least most (count_of v)) both.1 (record { least = low; most = high })

-- one more in front, where it and the others are there
more_parts : (first : Option Checksum) (rest : Option (List Checksum)) (x : Checksum) (xs : List Checksum)
    → with_more first rest ≡ Some (x ∷ xs) → (first ≡ Some x) × (rest ≡ Some xs)
more_parts None rest x xs h = cc
more_parts (Some y) None x xs h = cc
more_parts (Some y) (Some ys) x xs h = (cc, cc)

-- checksums that were read are checksums
pub AreChecksums-read : (vs : Values) (xs : List Checksum) → all_of checksum_in vs ≡ Some xs → AreChecksums xs
AreChecksums-read no_values [] h = tt
AreChecksums-read no_values (x ∷ xs) h = cc
AreChecksums-read (item v vs) [] h = tt
AreChecksums-read (item v vs) (x ∷ xs) h =
    let parts = more_parts (checksum_in v) (all_of checksum_in vs) x xs h in
    (IsChecksum-read (as_text v) x parts.0, AreChecksums-read vs xs parts.1)

-- ---- what is written

all_of-written : (xs : List Checksum) → AreChecksums xs → all_of checksum_in (each_written checksum_value xs) ≡ Some xs
all_of-written [] h = refl
all_of-written (x ∷ xs) h =
    ap (λ c. with_more c (all_of checksum_in (each_written checksum_value xs))) (checksum_of_text-checksum_text x h.0)
    ∙ ap (with_more (Some x)) (all_of-written xs h.1)

are_lawful-written : (xs : List Checksum) → are_lawful (each_written checksum_value xs) ≡ true
are_lawful-written [] = refl
are_lawful-written (x ∷ xs) = are_lawful-written xs

HaveTexts-written : (xs : List Checksum) → HaveTexts (each_written checksum_value xs)
HaveTexts-written [] = tt
HaveTexts-written (x ∷ xs) = (IsUtf8-checksum_text x, HaveTexts-written xs)

values_depth-written : (xs : List Checksum) → values_depth (each_written checksum_value xs) ≡ 0
values_depth-written [] = refl
values_depth-written (x ∷ xs) = let behind = values_depth-written xs in omega arith

pub started_of-started_value : (s : Started) → IsStarted s → started_of (started_value s) ≡ Some s
started_of-started_value s h =
    let written = each_written checksum_value s.missing in
    let count = count_of-each_written checksum_value s.missing in
    let least = h.least in
    let most = h.most in
    let low : nat_le 1 (count_of written) ≡ true = grind (arith, nat_tests, count, least) in
    let high : nat_le (count_of written) 16 ≡ true = grind (arith, nat_tests, count, most) in
    ap (λ r. started_with r (option_and_then (all_of checksum_in) (within 1 16 written)))
    (reference_in-reference_text s.reference h.reference)
    ∙ ap (λ b. started_with (Some s.reference)
    (option_and_then (all_of checksum_in) (cond (b && nat_le (count_of written) 16) (Some written) None))) low
    ∙ ap (λ b. started_with (Some s.reference) (option_and_then (all_of checksum_in) (cond b (Some written) None))) high
    ∙ ap (started_with (Some s.reference)) (all_of-written s.missing h.missing)

pub IsLawful-started : (s : Started) → IsLawful (started_value s)
unfolding name_cmp chars
IsLawful-started s = ap (λ b. b && (true && true)) (are_lawful-written s.missing)

pub HasTexts-started : (s : Started) → HasTexts (started_value s)
HasTexts-started s = (
  IsUtf8-ascii (codes "missing") refl,
  HaveTexts-written s.missing,
  (IsUtf8-ascii (codes "reference") refl, IsUtf8-reference_text s.reference, tt),
)

pub depth-started : (s : Started) → depth (started_value s) ≡ 2
depth-started s = let list = values_depth-written s.missing in omega arith

-- ---- one text, one answer

some_same : (a b : Started) → Some a ≡ Some b → a ≡ b
some_same a b h = cc

pub one_started : (a b : Started) → IsStarted a → IsStarted b → started_value a ≡ started_value b → a ≡ b
one_started a b first second same =
    some_same a b (sym (started_of-started_value a first) ∙ ap started_of same ∙ started_of-started_value b second)

pub started_once : (bytes : List ℕ) (a b : Started) → ReadsAs bytes a → ReadsAs bytes b → a ≡ b
started_once bytes a b (v, first, is) (w, second, other) =
    some_same a b (sym is ∙ ap started_of (Reads_once bytes v w first second) ∙ other)
