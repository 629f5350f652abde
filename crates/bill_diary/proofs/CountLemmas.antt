-- How many Parted of a bill there are, frame by frame.
use Rattle.std.proofs.Common.{◌≡◌, ℕ, ◌+◌, Bool, true, false, ◌&&◌, cond, List, [], ◌∷◌, ◌++◌, Option, Some, None, map, refl, ap, sym, ◌∙◌, arith}
use Rattle.std.specs.Prelude.{count_by, option_map}
use Rattle.std.specs.List.{flat_map}
use Rattle.std.specs.Option.{option_to_list}
use Rattle.std.proofs.lemmas.List.Sums.{sum_by-cons, sum_by-append}
use Rattle.std.proofs.lemmas.List.Sorted.{sum_by-IsPermutation, IsPermutation-reverse}
use Rattle.ebl_base.specs.Checksum.{checksum_eq}
use Rattle.ebl_base.specs.declared.chain.ChainLink.{ChainLink}
use Rattle.ebl_base.specs.declared.checksum.Checksum.{Checksum}
use Rattle.bill_chain.specs.Chain.{last_of}
use Rattle.bill_diary.specs.declared.record.Record.{Record}
use Rattle.bill_diary.specs.declared.record.Record.TheVariants.{Signed, Acted, Attached, Parted, Settled, Regained, Begun, Stored, Taken, Declined}
use Rattle.bill_diary.specs.declared.frame.Frame.{Frame}
use Rattle.bill_diary.specs.declared.frame.Frame.TheVariants.{One, BegunTaken}
use Rattle.bill_diary.specs.History.{bill_of, taken_after, records_of, newest_first, of_bill, history}
use Rattle.bill_diary.specs.Searches.{kept_in, parts_bill}
use Rattle.bill_diary.specs.Sound.{is_parted}

-- a test counts 1 or nothing
abbrev counts : Bool → ℕ
counts b = cond b 1 0

-- those of one bill are those that name it
of_one_bill : (bill : Checksum) (rs : List Record) → count_by is_parted (of_bill bill rs) ≡ count_by (parts_bill bill) rs
of_one_bill bill [] = refl
of_one_bill bill (r ∷ rs) =
    on_tests (checksum_eq (bill_of r) bill) (is_parted r) refl (of_one_bill bill rs)
    ∙ sym (sum_by-cons (λ (x : Record). counts (parts_bill bill x)) r rs)
  where
    with_one : {n m k : ℕ} → n ≡ 1 + m → m ≡ k → n ≡ 1 + k
    with_one p q = omega arith

    with_none : {n m k : ℕ} → n ≡ 0 + m → m ≡ k → n ≡ 0 + k
    with_none p q = omega arith

    none : {m k : ℕ} → m ≡ k → m ≡ 0 + k
    none p = omega arith

    on_tests : (kept parted : Bool) → is_parted r ≡ parted
        → count_by is_parted (of_bill bill rs) ≡ count_by (parts_bill bill) rs
        → count_by is_parted (cond kept (r ∷ of_bill bill rs) (of_bill bill rs))
        ≡ counts (parted && kept) + count_by (parts_bill bill) rs
    on_tests true true is further =
        with_one (sum_by-cons (λ (x : Record). counts (is_parted x)) r (of_bill bill rs)
        ∙ ap (λ (b : Bool). counts b + count_by is_parted (of_bill bill rs)) is) further
    on_tests true false is further =
        with_none (sum_by-cons (λ (x : Record). counts (is_parted x)) r (of_bill bill rs)
        ∙ ap (λ (b : Bool). counts b + count_by is_parted (of_bill bill rs)) is) further
    on_tests false true is further = none further
    on_tests false false is further = none further

-- a Taken that follows isn't one
none_follows : (bill : Checksum) (r : Record)
    → count_by (parts_bill bill) (option_to_list (taken_after r)) ≡ 0
none_follows bill (Begun b c m t) = on_last (last_of c)
  where
    on_last : (last : Option ChainLink)
        → count_by (parts_bill bill) (option_to_list (option_map (λ (link : ChainLink). Taken b link.name) last)) ≡ 0
    on_last None = refl
    on_last (Some link) = sum_by-cons (λ (x : Record). counts (parts_bill bill x)) (Taken b link.name) []
none_follows bill (Signed b x t) = refl
none_follows bill (Acted b t) = refl
none_follows bill (Attached b p t) = refl
none_follows bill (Parted b l m t) = refl
none_follows bill (Settled b e) = refl
none_follows bill (Regained b e) = refl
none_follows bill (Stored b e c t) = refl
none_follows bill (Taken b e) = refl
none_follows bill (Declined b e c r v) = refl

of_kept : (bill : Checksum) (d : List Frame)
    → count_by (parts_bill bill) (flat_map records_of d) ≡ count_by (parts_bill bill) (map kept_in d)
of_kept bill [] = refl
of_kept bill (One r ∷ d) =
    sum_by-cons (λ (x : Record). counts (parts_bill bill x)) r (flat_map records_of d)
    ∙ ap (λ (n : ℕ). counts (parts_bill bill r) + n) (of_kept bill d)
    ∙ sym (sum_by-cons (λ (x : Record). counts (parts_bill bill x)) r (map kept_in d))
of_kept bill (BegunTaken r ∷ d) =
    sum_by-cons (λ (x : Record). counts (parts_bill bill x)) r
    (option_to_list (taken_after r) ++ flat_map records_of d)
    ∙ ap (λ (n : ℕ). counts (parts_bill bill r) + n)
    (sum_by-append (λ (x : Record). counts (parts_bill bill x)) (option_to_list (taken_after r)) (flat_map records_of d)
    ∙ two (none_follows bill r) (of_kept bill d))
    ∙ sym (sum_by-cons (λ (x : Record). counts (parts_bill bill x)) r (map kept_in d))
  where
    two : {a n m : ℕ} → a ≡ 0 → n ≡ m → a + n ≡ m
    two p q = omega arith

pub parted-frames : (bill : Checksum) (d : List Frame)
    → count_by is_parted (history bill d) ≡ count_by (parts_bill bill) (map kept_in d)
parted-frames bill d =
    of_one_bill bill (newest_first d)
    ∙ sum_by-IsPermutation (λ (x : Record). counts (parts_bill bill x)) (flat_map records_of d) (newest_first d)
    (IsPermutation-reverse (flat_map records_of d))
    ∙ of_kept bill d
