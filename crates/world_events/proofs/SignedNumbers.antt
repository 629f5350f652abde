-- One bill more, and its number.
use Rattle.std.proofs.Common.{arith, ◌≡◌, ◌+◌, ℕ, Bool, true, false, cond, List, [], ◌∷◌, ◌++◌, length, Option, Some, None, refl, sym, ap, ◌∙◌}
use Rattle.std.specs.Prelude.{is_some}
use Rattle.std.specs.Ordering.{is_eq}
use Rattle.std.specs.BTreeMap.{BTreeMap, get, Updates}
use Rattle.std.proofs.lemmas.Map.Text.{is_eq-slice_cmp}
use Rattle.ebl_base.specs.Checksum.{checksum_cmp, checksum_eq}
use Rattle.ebl_base.specs.declared.checksum.Checksum.{Checksum}
use Rattle.ebl_base.proofs.ChecksumLemmas.{checksum_eq-Decides}
use Rattle.world_events.specs.Numbers.{number_from}
use Rattle.world_events.specs.Signed.{AreNumbered, numbered_too}

later_on : (n : ℕ) (bill other : Checksum) (names : List Checksum)
    → number_from (n + 1) other (names ++ bill ∷ [])
    ≡ numbered_too bill (n + 1 + length names) other (number_from (n + 1) other names)
    → (b : Bool) → cond b (Some n) (number_from (n + 1) other (names ++ bill ∷ []))
    ≡ numbered_too bill (n + 1 + length names) other (cond b (Some n) (number_from (n + 1) other names))
later_on n bill other names more true = refl
later_on n bill other names more false = more

-- a bill behind the others has the number after theirs, where it isn't among them
pub number_from-more : (n : ℕ) (bill other : Checksum) (names : List Checksum)
    → number_from n other (names ++ bill ∷ []) ≡ numbered_too bill (n + length names) other (number_from n other names)
number_from-more n bill other [] =
    ap (λ k. cond (checksum_eq bill other) (Some k) None) (let e : n ≡ n + 0 = omega arith in e)
number_from-more n bill other (name ∷ names) =
    later_on n bill other names (number_from-more (n + 1) bill other names) (checksum_eq name other)
    ∙ ap (λ k. numbered_too bill k other (number_from n other (name ∷ names)))
    (let e : n + 1 + length names ≡ n + length (name ∷ names) = omega arith in e)

same_bill : (a b : Checksum) → is_eq (checksum_cmp a b) ≡ true → a ≡ b
same_bill a b h = (checksum_eq-Decides a b).0 (sym (is_eq-slice_cmp a.0 b.0) ∙ h)

module _ (numbers new : BTreeMap Checksum ℕ) (bill other : Checksum) (number : ℕ)
    (updates : Updates checksum_cmp numbers new bill (Some number)) (absent : get checksum_cmp numbers bill ≡ None)
  where
    by_found : (b : Bool) → is_eq (checksum_cmp bill other) ≡ b
        → cond b (Some number) (get checksum_cmp numbers other)
        ≡ numbered_too bill number other (get checksum_cmp numbers other)
    by_found true e =
        let none : get checksum_cmp numbers other ≡ None = ap (get checksum_cmp numbers) (sym (same_bill bill other e)) ∙ absent in
        sym (ap (numbered_too bill number other) none
        ∙ ap (λ t. cond t (Some number) None) (sym (is_eq-slice_cmp bill.0 other.0) ∙ e))
    by_found false e = by_stored (get checksum_cmp numbers other)
      where
        by_stored : (o : Option ℕ) → o ≡ numbered_too bill number other o
        by_stored (Some n) = refl
        by_stored None = sym (ap (λ t. cond t (Some number) None) (sym (is_eq-slice_cmp bill.0 other.0) ∙ e))

    -- a bill that had no number has this one
    pub numbered_new : get checksum_cmp new other ≡ numbered_too bill number other (get checksum_cmp numbers other)
    numbered_new = updates.0 other ∙ by_found (is_eq (checksum_cmp bill other)) refl

-- whether a bill has a number, as it was looked up
pub none_by : (o : Option ℕ) (b : Bool) → b ≡ is_some o → b ≡ false → o ≡ None
none_by None b is fails = refl
none_by (Some n) b is fails = absurd (let no : true ≡ false = sym is ∙ fails in cc)

-- once a bill more is numbered, the numbers are those of the list with it
pub numbered_with : (bills : List Checksum) (numbers new : BTreeMap Checksum ℕ) (bill : Checksum) (number : ℕ)
    → AreNumbered bills numbers → number ≡ 1 + length bills
    → ((other : Checksum) → get checksum_cmp new other ≡ numbered_too bill number other (get checksum_cmp numbers other))
    → AreNumbered (bills ++ bill ∷ []) new
numbered_with bills numbers new bill number are is put other =
    put other
    ∙ ap (λ k. numbered_too bill k other (get checksum_cmp numbers other)) is
    ∙ ap (numbered_too bill (1 + length bills) other) (are other)
    ∙ sym (number_from-more 1 bill other bills)
