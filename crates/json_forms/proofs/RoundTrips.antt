-- What is written reads as what it was written from.
use Rattle.std.proofs.Common.{◌≡◌, ℕ, suc, pos, negsuc, ℤ, Bool, true, false, ◌&&◌, nat_le, List, [], ◌∷◌, Option, Some, None, cond, length, refl, sym, ap, ◌∙◌, subst}
use Rattle.std.specs.Prelude.{option_and_then, IfSome}
use Rattle.canonical_json.specs.Value.{Value, Values, no_values, item}
use Rattle.canonical_json.specs.Field.{as_text}
use Rattle.document_checksum.specs.Text.{checksum_text, checksum_of_text}
use Rattle.document_checksum.proofs.Texts.{checksum_text-checksum_of_text}
use Rattle.ebl_base.specs.PlatformCode.{code_of, code_text}
use Rattle.ebl_base.specs.Party.{party_of, party_text}
use Rattle.ebl_base.specs.declared.checksum.Checksum.{Checksum}
use Rattle.ebl_base.proofs.TextLemmas.{code_text-code_of, party_text-party_of}
use Rattle.json_forms.specs.Reading.{platform_in, party_in, checksum_in, number_in, count_of, each, all_of, with_more}
use Rattle.json_forms.specs.Writing.{each_written, platform_value, party_value, checksum_value}

-- a value that some text gave
text_behind : {T : Type 0} (read : List ℕ → Option T) (said : Option (List ℕ)) (x : T)
    → option_and_then read said ≡ Some x → (t : List ℕ) × (read t ≡ Some x)
text_behind read None x h = cc
text_behind read (Some t) x h = (t, h)

-- reading again the text of what was read
pub again : {T : Type 0} (read : List ℕ → Option T) (written : T → List ℕ)
    → ((t : List ℕ) (x : T) → read t ≡ Some x → written x ≡ t) → (said : Option (List ℕ)) (x : T)
    → option_and_then read said ≡ Some x → read (written x) ≡ Some x
again read written same said x h =
    let behind = text_behind read said x h in
    ap read (same behind.0 x behind.1) ∙ behind.1

-- a choice of what is there
pub kept : {T : Type 0} (b : Bool) (x y : T) → cond b (Some x) None ≡ Some y → (b ≡ true) × (x ≡ y)
kept true x y h = (refl, cc)
kept false x y h = cc

-- a number that was read is within its range
pub number_in-within : (least most : ℕ) (z : ℤ) (n : ℕ) → number_in least most z ≡ Some n
    → ((nat_le least n && nat_le n most) ≡ true) × (z ≡ pos n)
number_in-within least most (pos m) n h =
    let both = kept (nat_le least m && nat_le m most) m n h in
    (ap (λ k. nat_le least k && nat_le k most) (sym both.1) ∙ both.0, ap pos both.1)
number_in-within least most (negsuc m) n h = cc

-- as many values as forms
pub count_of-each : {T : Type 0} (form : Value → T) (values : Values) → count_of values ≡ length (each form values)
count_of-each form no_values = refl
count_of-each form (item v values) = ap suc (count_of-each form values)

-- as many values as items
pub count_of-each_written : {T : Type 0} (write : T → Value) (xs : List T)
    → count_of (each_written write xs) ≡ length xs
count_of-each_written write [] = refl
count_of-each_written write (x ∷ xs) = ap suc (count_of-each_written write xs)

-- what was read in front, and behind it
with_more-parts : {T : Type 0} (first : Option T) (more : Option (List T)) (xs : List T)
    → with_more first more ≡ Some xs
    → (y : T) × (ys : List T) × (first ≡ Some y) × (more ≡ Some ys) × (y ∷ ys ≡ xs)
with_more-parts None more xs h = cc
with_more-parts (Some y) None xs h = cc
with_more-parts (Some y) (Some ys) xs h = (y, ys, refl, refl, cc)

-- as many items as values
pub count_of-all_of : {T : Type 0} (form : Value → Option T) (values : Values) (xs : List T)
    → all_of form values ≡ Some xs → count_of values ≡ length xs
count_of-all_of form no_values [] h = refl
count_of-all_of form no_values (x ∷ xs) h = cc
count_of-all_of form (item v values) xs h =
    let parts = with_more-parts (form v) (all_of form values) xs h in
    ap suc (count_of-all_of form values parts.1 parts.3) ∙ ap length parts.4
