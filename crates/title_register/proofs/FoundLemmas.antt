-- The records that a register finds are what their look-ups are named after, so their parts can be read.
use Rattle.std.proofs.Common.{◌≡◌, Bool, true, false, cond, List, [], ◌∷◌, Option, Some, None, refl, sym, ap, ◌∙◌}
use Rattle.std.specs.Prelude.{MatchOption, find}
use Rattle.ebl_base.specs.declared.reference.Reference.{Reference}
use Rattle.bill_diary.specs.declared.record.Record.{Record}
use Rattle.bill_diary.specs.declared.record.Record.TheVariants.{Signed, Acted, Attached, Parted, Settled, Regained, Begun, Stored, Taken, Declined}
use Rattle.bill_diary.specs.declared.record_ref.BegunRef.{BegunRef}
use Rattle.bill_diary.specs.declared.record_ref.PartedRef.{PartedRef}
use Rattle.bill_diary.specs.Searches.{last_parted_record}
use Rattle.bill_diary.specs.Sound.{has_reference, is_parted, last_with_reference}
use Rattle.title_register.specs.Frames.{is_begun}

found_on : {A : Type 0} (test : A → Bool) (r x : A) (rest : List A) (b : Bool) → test r ≡ b
    → (find test rest ≡ Some x → test x ≡ true) → cond b (Some r) (find test rest) ≡ Some x → test x ≡ true
found_on test r x rest true passes further is =
    let same : r ≡ x = cc is in
    ap test (sym same) ∙ passes
found_on test r x rest false passes further is = further is

-- what is found passes the test
pub found_passes : {A : Type 0} (test : A → Bool) (list : List A) (x : A) → find test list ≡ Some x → test x ≡ true
found_passes test [] x is = cc is
found_passes test (r ∷ rest) x is = found_on test r x rest (test r) refl (found_passes test rest x) is

begun_has : (reference : Reference) (r : Record) → has_reference reference r ≡ true → is_begun r ≡ true
begun_has reference (Begun bill chain manifest body) has = refl
begun_has reference (Signed bill document transaction) has = cc has
begun_has reference (Acted bill transaction) has = cc has
begun_has reference (Attached bill piece bytes) has = cc has
begun_has reference (Parted bill link manifest manifest_text) has = cc has
begun_has reference (Settled bill entry) has = cc has
begun_has reference (Regained bill entry) has = cc has
begun_has reference (Stored bill entry checksum bytes) has = cc has
begun_has reference (Taken bill entry) has = cc has
begun_has reference (Declined bill entry code reason evidence) has = cc has

-- what is found with a reference is a Begun
begun_found : (reference : Reference) (records : List Record) (r : Record)
    → last_with_reference reference records ≡ Some r → is_begun r ≡ true
begun_found reference records r is =
    begun_has reference r (found_passes (has_reference reference) records r is)

-- what is found as the last Parted is one
parted_found : (h : List Record) (r : Record) → last_parted_record h ≡ Some r → is_parted r ≡ true
parted_found h r is = found_passes is_parted h r is

-- so the parts that are read of it are its own
pub begun_is : (reference : Reference) (records : List Record) (r : Record) (read : Option BegunRef)
    → last_with_reference reference records ≡ Some r
    → MatchOption read (is_begun r ≡ false)
    (λ begun. r ≡ Begun begun.bill begun.chain.now begun.manifest.now begun.body.now)
    → MatchOption read (last_with_reference reference records ≡ None)
    (λ begun. last_with_reference reference records
    ≡ Some (Begun begun.bill begun.chain.now begun.manifest.now begun.body.now))
begun_is reference records r None is not =
    let both : true ≡ false = sym (begun_found reference records r is) ∙ not in
    absurd (cc both)
begun_is reference records r (Some begun) is read = is ∙ ap Some read

pub parted_is : (h : List Record) (r : Record) (read : Option PartedRef) → last_parted_record h ≡ Some r
    → MatchOption read (is_parted r ≡ false)
    (λ parted. r ≡ Parted parted.bill parted.link.now parted.manifest.now parted.manifest_text.now)
    → MatchOption read (last_parted_record h ≡ None)
    (λ parted. last_parted_record h
    ≡ Some (Parted parted.bill parted.link.now parted.manifest.now parted.manifest_text.now))
parted_is h r None is not =
    let both : true ≡ false = sym (parted_found h r is) ∙ not in
    absurd (cc both)
parted_is h r (Some parted) is read = is ∙ ap Some read
