-- What a sound diary says of the last Begun with a reference.
use Rattle.std.proofs.Common.{◌≡◌, ◌≤◌, ◌⊎◌, inl, inr, Bool, true, false, cond, List, [], ◌∷◌, length, Option, Some, refl, ap, sym, subst, ◌∙◌}
use Rattle.std.specs.Prelude.{bytes_eq}
use Rattle.std.specs.Option.{option_map_or}
use Rattle.std.proofs.lemmas.Slice.Eq.{bytes_eq-Decides}
use Rattle.ebl_base.specs.Reference.{reference_of}
use Rattle.ebl_base.specs.declared.checksum.Checksum.{Checksum}
use Rattle.ebl_base.specs.declared.chain.ChainLink.{ChainLink}
use Rattle.ebl_base.specs.declared.platform_code.PlatformCode.{PlatformCode}
use Rattle.ebl_base.specs.declared.reference.Reference.{Reference}
use Rattle.bill_chain.specs.Chain.{destination, ends_in, last_of, IsChainOfBill}
use Rattle.bill_diary.specs.declared.record.Record.{Record}
use Rattle.bill_diary.specs.declared.record.Record.TheVariants.{Signed, Acted, Attached, Parted, Settled, Regained, Begun, Stored, Taken, Declined}
use Rattle.bill_diary.specs.declared.frame.Frame.{Frame}
use Rattle.bill_diary.specs.History.{bill_of, of_bill, newest_first}
use Rattle.bill_diary.specs.Known.{Received, last_begun}
use Rattle.bill_diary.specs.Sound.{AreSound, CameWith, IsSound, MayFollow, has_reference, last_with_reference}
use Rattle.bill_diary.specs.Texts.{LinksAreTheirTexts}
use Rattle.bill_diary.proofs.ReferenceLemmas.{last_of_both}
use Rattle.platform_machine.specs.Receiving.{BegunRecord, IsLastBegun}

-- what a Begun that may follow on a platform says of its chain and its manifest
pub record IsWhole (me : PlatformCode) (b : BegunRecord) : Type 0 where
  pub good : IsChainOfBill b.bill b.chain
  pub links_are : LinksAreTheirTexts b.chain
  pub count : length b.manifest.documents ≤ 16
  pub last : ChainLink
  pub last_is : last_of b.chain ≡ Some last
  pub ends_here : destination b.chain ≡ Some me
  pub names_bill : b.manifest.bill ≡ b.bill
  pub names_last : b.manifest.last ≡ last.name

abbrev IfBegun : PlatformCode → Record → Type 0
IfBegun me (Begun bill chain manifest body) =
    IsWhole me (record { bill = bill; chain = chain; manifest = manifest; body = body })
IfBegun me r = Unit {0}

if_begun : (me : PlatformCode) (records h : List Record) (r : Record) → MayFollow me records h r → IfBegun me r
if_begun me records h (Begun b c m t) may = record {
  good = may.good;
  links_are = may.links_are;
  count = may.manifest_form.documents.count;
  last = may.receives.last;
  last_is = may.receives.last_is;
  ends_here = may.receives.destination_is;
  names_bill = may.names_bill;
  names_last = may.names_last;
}
if_begun me records h (Signed b x t) may = tt
if_begun me records h (Acted b t) may = tt
if_begun me records h (Attached b q t) may = tt
if_begun me records h (Parted b l m t) may = tt
if_begun me records h (Settled b e) may = tt
if_begun me records h (Regained b e) may = tt
if_begun me records h (Stored b e x t) may = tt
if_begun me records h (Taken b e) may = tt
if_begun me records h (Declined b e x q v) may = tt

-- what is found has the reference, and is a record that may follow
record IsFound (me : PlatformCode) (reference : Reference) (r : Record) : Type 0 where
  has : has_reference reference r ≡ true
  begun : IfBegun me r

found_is : (me : PlatformCode) (reference : Reference) (records : List Record) → AreSound me records → (r : Record)
    → last_with_reference reference records ≡ Some r → IsFound me reference r
found_is me reference [] sound r is = cc is
found_is me reference (x ∷ records) sound r is =
    on_test (has_reference reference x) refl is (found_is me reference records sound.2 r)
  where
    on_test : (b : Bool) → has_reference reference x ≡ b
        → cond b (Some x) (last_with_reference reference records) ≡ Some r
        → (last_with_reference reference records ≡ Some r → IsFound me reference r) → IsFound me reference r
    on_test true has found further =
        let same : x ≡ r = cc found in
        subst (IsFound me reference) same
        (record { has = has; begun = if_begun me records (of_bill (bill_of x) records) x sound.0 })
    on_test false has found further = further found

pub found_whole : (me : PlatformCode) (diary : List Frame) (reference : Reference) (b : BegunRecord) → IsSound me diary
    → IsLastBegun reference diary b → IsWhole me b
found_whole me diary reference b sound is =
    (found_is me reference (newest_first diary) sound.records (Begun b.bill b.chain b.manifest b.body) is).begun

-- the reference is that of its names
same_reference : (a b : Reference) → bytes_eq a.0 b.0 ≡ true → a ≡ b
same_reference a b is = let same = (bytes_eq-Decides a.0 b.0).0 is in λ i. record { 0 = same i }

pub found_reference : (me : PlatformCode) (diary : List Frame) (reference : Reference) (b : BegunRecord)
    → IsSound me diary → IsLastBegun reference diary b → (last : ChainLink) → last_of b.chain ≡ Some last
    → reference_of b.bill last.name ≡ reference
found_reference me diary reference b sound is last last_is =
    let found = found_is me reference (newest_first diary) sound.records (Begun b.bill b.chain b.manifest b.body) is in
    let has : bytes_eq (reference_of b.bill last.name).0 reference.0 ≡ true =
    sym (ap (λ (o : Option ChainLink). option_map_or (λ (link : ChainLink). bytes_eq (reference_of b.bill link.name).0 reference.0) o false) last_is)
    ∙ found.has in
    same_reference (reference_of b.bill last.name) reference has

-- it is the last Begun of its bill and of its chain's last entry
pub found_last : (me : PlatformCode) (diary : List Frame) (reference : Reference) (b : BegunRecord) → IsSound me diary
    → IsLastBegun reference diary b
    → last_begun b.manifest.last (of_bill b.bill (newest_first diary))
    ≡ Some (record { chain = b.chain; manifest = b.manifest })
found_last me diary reference b sound is =
    let whole = found_whole me diary reference b sound is in
    let same = found_reference me diary reference b sound is whole.last whole.last_is in
    ap (λ (n : Checksum). last_begun n (of_bill b.bill (newest_first diary))) whole.names_last
    ∙ last_of_both (newest_first diary) b.bill b.chain b.manifest b.body whole.last whole.last_is
    (ap (λ (r : Reference). last_with_reference r (newest_first diary)) same ∙ is)

-- a Begun of the entry came with its manifest
pub came_with : (entry : Checksum) (h : List Record) (came : Received) → last_begun entry h ≡ Some came
    → CameWith entry came.manifest h
came_with entry [] came is = cc is
came_with entry (Begun b c m t ∷ h) came is = on_test (ends_in entry c) refl is (came_with entry h came)
  where
    on_test : (here : Bool) → ends_in entry c ≡ here
        → cond here (Some (record { chain = c; manifest = m })) (last_begun entry h) ≡ Some came
        → (last_begun entry h ≡ Some came → CameWith entry came.manifest h)
        → ((ends_in entry c ≡ true) × (came.manifest ≡ m)) ⊎ CameWith entry came.manifest h
    on_test true ends found further =
        let same : record { chain = c; manifest = m } ≡ came = cc found in
        inl (ends, ap (λ (r : Received). r.manifest) (sym same))
    on_test false ends found further = inr (further found)
came_with entry (Signed b x t ∷ h) came is = came_with entry h came is
came_with entry (Acted b t ∷ h) came is = came_with entry h came is
came_with entry (Attached b q t ∷ h) came is = came_with entry h came is
came_with entry (Parted b l m t ∷ h) came is = came_with entry h came is
came_with entry (Settled b e ∷ h) came is = came_with entry h came is
came_with entry (Regained b e ∷ h) came is = came_with entry h came is
came_with entry (Stored b e x t ∷ h) came is = came_with entry h came is
came_with entry (Taken b e ∷ h) came is = came_with entry h came is
came_with entry (Declined b e x q v ∷ h) came is = came_with entry h came is
