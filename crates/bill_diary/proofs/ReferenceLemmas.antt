-- The last Begun with a reference is the last of its bill and entry.
use Rattle.std.proofs.Common.{◌≡◌, ℕ, Bool, true, false, cond, List, [], ◌∷◌, Option, Some, None, refl, ap, sym, subst, ◌∙◌}
use Rattle.std.specs.Prelude.{bytes_eq}
use Rattle.std.specs.Option.{option_map_or}
use Rattle.std.proofs.lemmas.Slice.Eq.{bytes_eq-Decides}
use Rattle.ebl_base.specs.Checksum.{checksum_eq}
use Rattle.ebl_base.specs.Reference.{reference_of}
use Rattle.ebl_base.specs.declared.checksum.Checksum.{Checksum}
use Rattle.ebl_base.specs.declared.chain.ChainLink.{ChainLink}
use Rattle.ebl_base.proofs.ChecksumLemmas.{checksum_eq-Decides}
use Rattle.envelope_manifest.specs.declared.manifest.Manifest.{Manifest}
use Rattle.bill_chain.specs.Chain.{last_of, ends_in}
use Rattle.bill_diary.specs.declared.record.Record.{Record}
use Rattle.bill_diary.specs.declared.record.Record.TheVariants.{Signed, Acted, Attached, Parted, Settled, Regained, Begun, Stored, Taken, Declined}
use Rattle.bill_diary.specs.History.{bill_of, of_bill}
use Rattle.bill_diary.specs.Known.{Received, last_begun}
use Rattle.bill_diary.specs.Sound.{has_reference, last_with_reference}

-- a chain that ends in an entry has the reference of the bill and that entry
refers : (b bill n : Checksum) (last : Option ChainLink) → b ≡ bill
    → option_map_or (λ (link : ChainLink). checksum_eq link.name n) last false ≡ true
    → option_map_or (λ (link : ChainLink). bytes_eq (reference_of b link.name).0 (reference_of bill n).0) last false
    ≡ true
refers b bill n None same ends = ends
refers b bill n (Some link) same ends =
    let named : link.name ≡ n = (checksum_eq-Decides link.name n).0 ends in
    (bytes_eq-Decides (reference_of b link.name).0 (reference_of bill n).0).1
    (λ i. (reference_of (same i) (named i)).0)

-- a record that isn't a Begun changes nothing
passed : (n : Checksum) (r : Record) (rest : List Record) (kept : Bool) (found : Option Received)
    → last_begun n (r ∷ rest) ≡ last_begun n rest → last_begun n rest ≡ found
    → last_begun n (cond kept (r ∷ rest) rest) ≡ found
passed n r rest true found same further = same ∙ further
passed n r rest false found same further = further

-- nor does a Begun of another bill, or of a chain that ends elsewhere
begun_passed : (n b bill : Checksum) (chain : List ChainLink) (manifest : Manifest) (body : List ℕ) (rest : List Record)
    (found : Option Received) (kept ends : Bool)
    → checksum_eq b bill ≡ kept → ends_in n chain ≡ ends
    → has_reference (reference_of bill n) (Begun b chain manifest body) ≡ false
    → last_begun n rest ≡ found
    → last_begun n (cond kept (Begun b chain manifest body ∷ rest) rest) ≡ found
begun_passed n b bill chain manifest body rest found false ends kept_is ends_is other further = further
begun_passed n b bill chain manifest body rest found true false kept_is ends_is other further =
    ap (λ (e : Bool). cond e (Some (record { chain = chain; manifest = manifest })) (last_begun n rest)) ends_is ∙ further
begun_passed n b bill chain manifest body rest found true true kept_is ends_is other further =
    let refers1 = refers b bill n (last_of chain) ((checksum_eq-Decides b bill).0 kept_is) ends_is in
    absurd (let no : true ≡ false = sym refers1 ∙ other in cc)

-- the Begun that was found is kept, and ends in its entry
found_here : (bill : Checksum) (chain : List ChainLink) (manifest : Manifest) (body : List ℕ) (last : ChainLink)
    (rest : List Record) → last_of chain ≡ Some last
    → last_begun last.name (cond (checksum_eq bill bill) (Begun bill chain manifest body ∷ rest) rest)
    ≡ Some (record { chain = chain; manifest = manifest })
found_here bill chain manifest body last rest last_is =
    let ends : ends_in last.name chain ≡ true =
    ap (λ (o : Option ChainLink). option_map_or (λ (link : ChainLink). checksum_eq link.name last.name) o false) last_is
    ∙ (checksum_eq-Decides last.name last.name).1 refl in
    ap (λ (kept : Bool). last_begun last.name (cond kept (Begun bill chain manifest body ∷ rest) rest))
    ((checksum_eq-Decides bill bill).1 refl)
    ∙ ap (λ (e : Bool). cond e (Some (record { chain = chain; manifest = manifest })) (last_begun last.name rest)) ends

pub last_of_both : (records : List Record) (bill : Checksum) (chain : List ChainLink) (manifest : Manifest) (body : List ℕ)
    (last : ChainLink) → last_of chain ≡ Some last
    → last_with_reference (reference_of bill last.name) records ≡ Some (Begun bill chain manifest body)
    → last_begun last.name (of_bill bill records) ≡ Some (record { chain = chain; manifest = manifest })
last_of_both [] bill chain manifest body last last_is found = cc found
last_of_both (Begun b c m t ∷ records) bill chain manifest body last last_is found =
    on_test (has_reference (reference_of bill last.name) (Begun b c m t)) refl found
    (last_of_both records bill chain manifest body last last_is)
  where
    on_test : (here : Bool) → has_reference (reference_of bill last.name) (Begun b c m t) ≡ here
        → cond here (Some (Begun b c m t)) (last_with_reference (reference_of bill last.name) records)
        ≡ Some (Begun bill chain manifest body)
        → (last_with_reference (reference_of bill last.name) records ≡ Some (Begun bill chain manifest body)
        → last_begun last.name (of_bill bill records) ≡ Some (record { chain = chain; manifest = manifest }))
        → last_begun last.name (cond (checksum_eq b bill) (Begun b c m t ∷ of_bill bill records) (of_bill bill records))
        ≡ Some (record { chain = chain; manifest = manifest })
    on_test true is same further =
        let one : Begun bill chain manifest body ≡ Begun b c m t = cc same in
        subst (λ (r : Record). last_begun last.name
        (cond (checksum_eq (bill_of r) bill) (r ∷ of_bill bill records) (of_bill bill records))
        ≡ Some (record { chain = chain; manifest = manifest })) one
        (found_here bill chain manifest body last (of_bill bill records) last_is)
    on_test false is same further =
        begun_passed last.name b bill c m t (of_bill bill records)
        (Some (record { chain = chain; manifest = manifest })) (checksum_eq b bill) (ends_in last.name c) refl refl is
        (further same)
last_of_both (Signed b x t ∷ records) bill chain manifest body last last_is found =
    passed last.name (Signed b x t) (of_bill bill records) (checksum_eq b bill) _ refl
    (last_of_both records bill chain manifest body last last_is found)
last_of_both (Acted b t ∷ records) bill chain manifest body last last_is found =
    passed last.name (Acted b t) (of_bill bill records) (checksum_eq b bill) _ refl
    (last_of_both records bill chain manifest body last last_is found)
last_of_both (Attached b p t ∷ records) bill chain manifest body last last_is found =
    passed last.name (Attached b p t) (of_bill bill records) (checksum_eq b bill) _ refl
    (last_of_both records bill chain manifest body last last_is found)
last_of_both (Parted b l m t ∷ records) bill chain manifest body last last_is found =
    passed last.name (Parted b l m t) (of_bill bill records) (checksum_eq b bill) _ refl
    (last_of_both records bill chain manifest body last last_is found)
last_of_both (Settled b e ∷ records) bill chain manifest body last last_is found =
    passed last.name (Settled b e) (of_bill bill records) (checksum_eq b bill) _ refl
    (last_of_both records bill chain manifest body last last_is found)
last_of_both (Regained b e ∷ records) bill chain manifest body last last_is found =
    passed last.name (Regained b e) (of_bill bill records) (checksum_eq b bill) _ refl
    (last_of_both records bill chain manifest body last last_is found)
last_of_both (Stored b e c t ∷ records) bill chain manifest body last last_is found =
    passed last.name (Stored b e c t) (of_bill bill records) (checksum_eq b bill) _ refl
    (last_of_both records bill chain manifest body last last_is found)
last_of_both (Taken b e ∷ records) bill chain manifest body last last_is found =
    passed last.name (Taken b e) (of_bill bill records) (checksum_eq b bill) _ refl
    (last_of_both records bill chain manifest body last last_is found)
last_of_both (Declined b e c r v ∷ records) bill chain manifest body last last_is found =
    passed last.name (Declined b e c r v) (of_bill bill records) (checksum_eq b bill) _ refl
    (last_of_both records bill chain manifest body last last_is found)
