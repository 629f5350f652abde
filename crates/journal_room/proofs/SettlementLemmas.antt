-- Each settlement of a sound diary has a Parted of its own.
use Rattle.std.proofs.Common.{◌≡◌, ℕ, ◌+◌, ◌<◌, ◌≤◌, Bool, true, false, cond, ◌||◌, List, [], ◌∷◌, ◌++◌, length, Some, refl, sym, ap, ◌∙◌, subst, arith}
use Rattle.std.specs.Prelude.{count_by}
use Rattle.std.specs.List.{list_any}
use Rattle.std.specs.Option.{option_to_list}
use Rattle.std.proofs.lemmas.List.Sums.{sum_by-cons}
use Rattle.std.proofs.lemmas.Slice.Eq.{bytes_eq-Decides}
use Rattle.ebl_base.specs.Checksum.{checksum_eq}
use Rattle.ebl_base.specs.declared.chain.ChainLink.{ChainLink}
use Rattle.ebl_base.specs.declared.checksum.Checksum.{Checksum}
use Rattle.ebl_base.specs.declared.platform_code.PlatformCode.{PlatformCode}
use Rattle.bill_chain.specs.Chain.{has_entry}
use Rattle.bill_diary.specs.declared.record.Record.{Record}
use Rattle.bill_diary.specs.declared.record.Record.TheVariants.{Signed, Acted, Attached, Parted, Settled, Regained, Begun, Stored, Taken, Declined}
use Rattle.bill_diary.specs.declared.bill_place.BillPlace.TheVariants.{Parting}
use Rattle.bill_diary.specs.History.{of_bill}
use Rattle.bill_diary.specs.Known.{taken_chain}
use Rattle.bill_diary.specs.Place.{is_over, is_settled, is_regained, last_parted, taken_chains}
use Rattle.bill_diary.specs.Sound.{AreSound, IsParting, IsSoundHistory, is_parted}
use Rattle.bill_diary.proofs.HistoryLemmas.{sound_alone}
use Rattle.bill_diary.proofs.PlaceLemmas.{parting_is_last, stands}
use Rattle.journal_room.specs.Settlements.{is_settlement}

pub checksum_eq-same : (a b : Checksum) → checksum_eq a b ≡ true → a ≡ b
checksum_eq-same a b h = let e = (bytes_eq-Decides a.0 b.0).0 h in λ i. record { 0 = e i }

checksum_eq-itself : (a : Checksum) → checksum_eq a a ≡ true
checksum_eq-itself a = (bytes_eq-Decides a.0 a.0).1 refl

-- ---- which bills are parting

-- of Parted and settlements in a bill's records the newest is a Parted
abbrev waits : List Record → Bool
waits [] = false
waits (Signed bill document t ∷ h) = waits h
waits (Acted bill t ∷ h) = waits h
waits (Attached bill piece bytes ∷ h) = waits h
waits (Parted bill link manifest manifest_text ∷ h) = true
waits (Settled bill entry ∷ h) = false
waits (Regained bill entry ∷ h) = false
waits (Begun bill chain manifest body ∷ h) = waits h
waits (Stored bill entry checksum bytes ∷ h) = waits h
waits (Taken bill entry ∷ h) = waits h
waits (Declined bill entry code reason evidence ∷ h) = waits h

-- without the first of a bill
abbrev closed : Checksum → List Checksum → List Checksum
closed bill [] = []
closed bill (b ∷ bills) = cond (checksum_eq b bill) bills (b ∷ closed bill bills)

abbrev is_among : Checksum → List Checksum → Bool
is_among bill [] = false
is_among bill (b ∷ bills) = checksum_eq b bill || is_among bill bills

-- the bill of each Parted, until a settlement of the bill comes
abbrev open_bills : List Record → List Checksum
open_bills [] = []
open_bills (Signed bill document t ∷ rs) = open_bills rs
open_bills (Acted bill t ∷ rs) = open_bills rs
open_bills (Attached bill piece bytes ∷ rs) = open_bills rs
open_bills (Parted bill link manifest manifest_text ∷ rs) = bill ∷ open_bills rs
open_bills (Settled bill entry ∷ rs) = closed bill (open_bills rs)
open_bills (Regained bill entry ∷ rs) = closed bill (open_bills rs)
open_bills (Begun bill chain manifest body ∷ rs) = open_bills rs
open_bills (Stored bill entry checksum bytes ∷ rs) = open_bills rs
open_bills (Taken bill entry ∷ rs) = open_bills rs
open_bills (Declined bill entry code reason evidence ∷ rs) = open_bills rs

-- ---- what isn't waiting is over

or_more : (a b : Bool) → b ≡ true → (a || b) ≡ true
or_more true b e = refl
or_more false b e = e

or_first : (a b : Bool) → a ≡ true → (a || b) ≡ true
or_first a b e = ap (λ (x : Bool). x || b) e

any_behind : {A : Type 0} (p : A → Bool) (xs ys : List A) → list_any p ys ≡ true → list_any p (xs ++ ys) ≡ true
any_behind p [] ys e = e
any_behind p (x ∷ xs) ys e = or_more (p x) (list_any p (xs ++ ys)) (any_behind p xs ys e)

first_of_or : (a b c : Bool) → a ≡ true → (a || b || c) ≡ true
first_of_or true b c e = refl
first_of_or false b c e = cc e

second_of_or : (a b c : Bool) → b ≡ true → (a || b || c) ≡ true
second_of_or true b c e = refl
second_of_or false true c e = refl
second_of_or false false c e = cc e

last_of_or : (a b c d : Bool) → (c ≡ true → d ≡ true) → (a || b || c) ≡ true → (a || b || d) ≡ true
last_of_or true b c d more e = refl
last_of_or false true c d more e = refl
last_of_or false false c d more e = more e

-- a Taken more leaves it over
over_still : (name bill entry : Checksum) (h : List Record) → is_over name h ≡ true → is_over name (Taken bill entry ∷ h) ≡ true
over_still name bill entry h over =
    last_of_or (is_settled name h) (is_regained name h) (list_any (has_entry name) (taken_chains h))
    (list_any (has_entry name) (option_to_list (taken_chain entry h) ++ taken_chains h))
    (any_behind (has_entry name) (option_to_list (taken_chain entry h)) (taken_chains h)) over

-- the entry that is parting is the last that was parted
settles_last : (h : List Record) (entry : Checksum) (link : ChainLink) → IsParting h entry → last_parted h ≡ Some link
    → checksum_eq entry link.name ≡ true
settles_last h entry link is last =
    let where_it_is = stands h (Parting is.known is.link) is.parting in
    let known_last : last_parted h ≡ Some is.link = (parting_is_last h is.link where_it_is.parting_is).0 in
    let same : is.link ≡ link = cc (sym known_last ∙ last) in
    let name : entry ≡ link.name = sym is.names ∙ ap (λ (l : ChainLink). l.name) same in
    subst (λ (n : Checksum). checksum_eq entry n ≡ true) name (checksum_eq-itself entry)

over : (me : PlatformCode) (h : List Record) (link : ChainLink) → IsSoundHistory me h → waits h ≡ false
    → last_parted h ≡ Some link → is_over link.name h ≡ true
over me [] link sound closed1 last = cc last
over me (Signed bill document t ∷ h) link sound closed1 last = over me h link sound.1 closed1 last
over me (Acted bill t ∷ h) link sound closed1 last = over me h link sound.1 closed1 last
over me (Attached bill piece bytes ∷ h) link sound closed1 last = over me h link sound.1 closed1 last
over me (Parted bill parted manifest manifest_text ∷ h) link sound closed1 last = cc closed1
over me (Settled bill entry ∷ h) link sound closed1 last =
    first_of_or (checksum_eq entry link.name || is_settled link.name h) (is_regained link.name h)
    (list_any (has_entry link.name) (taken_chains h))
    (or_first (checksum_eq entry link.name) (is_settled link.name h) (settles_last h entry link sound.0 last))
over me (Regained bill entry ∷ h) link sound closed1 last =
    second_of_or (is_settled link.name h) (checksum_eq entry link.name || is_regained link.name h)
    (list_any (has_entry link.name) (taken_chains h))
    (or_first (checksum_eq entry link.name) (is_regained link.name h) (settles_last h entry link sound.0 last))
over me (Begun bill chain manifest body ∷ h) link sound closed1 last = over me h link sound.1 closed1 last
over me (Stored bill entry checksum bytes ∷ h) link sound closed1 last = over me h link sound.1 closed1 last
over me (Taken bill entry ∷ h) link sound closed1 last =
    over_still link.name bill entry h (over me h link sound.1 closed1 last)
over me (Declined bill entry code reason evidence ∷ h) link sound closed1 last = over me h link sound.1 closed1 last

-- a bill that is parting waits
parting_waits : (me : PlatformCode) (h : List Record) (entry : Checksum) → IsSoundHistory me h → IsParting h entry
    → waits h ≡ true
parting_waits me h entry sound is = by (waits h) refl
  where
    by : (b : Bool) → waits h ≡ b → b ≡ true
    by true e = refl
    by false e =
        let where_it_is = stands h (Parting is.known is.link) is.parting in
        let last = parting_is_last h is.link where_it_is.parting_is in
        let clash : true ≡ false = sym (over me h is.link sound e last.0) ∙ last.1 in
        sym clash

-- ---- and is among the open bills

closed_keeps : (bill other : Checksum) (bills : List Checksum) → checksum_eq bill other ≡ false
    → is_among other bills ≡ true → is_among other (closed bill bills) ≡ true
closed_keeps bill other [] differ among = among
closed_keeps bill other (b ∷ bills) differ among =
    by (checksum_eq b bill) refl among (closed_keeps bill other bills differ)
  where
    kept : (here : Bool) (rest closed_rest : Bool) → (rest ≡ true → closed_rest ≡ true) → (here || rest) ≡ true
        → (here || closed_rest) ≡ true
    kept true rest closed_rest more e = refl
    kept false rest closed_rest more e = more e

    by : (same : Bool) → checksum_eq b bill ≡ same → (checksum_eq b other || is_among other bills) ≡ true
        → (is_among other bills ≡ true → is_among other (closed bill bills) ≡ true)
        → is_among other (cond same bills (b ∷ closed bill bills)) ≡ true
    by true same among more =
        let one : b ≡ bill = checksum_eq-same b bill same in
        let no : checksum_eq b other ≡ false = ap (λ (c : Checksum). checksum_eq c other) one ∙ differ in
        sym (ap (λ (x : Bool). x || is_among other bills) no) ∙ among
    by false same among more = kept (checksum_eq b other) (is_among other bills) (is_among other (closed bill bills)) more among

-- a record that isn't of these kinds changes nothing
passes : (is : Bool) (r : Record) (h : List Record) → waits (r ∷ h) ≡ waits h → waits (cond is (r ∷ h) h) ≡ true
    → waits h ≡ true
passes true r h same w = sym same ∙ w
passes false r h same w = w

waits_among : (bill : Checksum) (rs : List Record) → waits (of_bill bill rs) ≡ true → is_among bill (open_bills rs) ≡ true
waits_among bill [] w = cc w
waits_among bill (Signed b document t ∷ rs) w =
    waits_among bill rs (passes (checksum_eq b bill) (Signed b document t) (of_bill bill rs) refl w)
waits_among bill (Acted b t ∷ rs) w =
    waits_among bill rs (passes (checksum_eq b bill) (Acted b t) (of_bill bill rs) refl w)
waits_among bill (Attached b piece bytes ∷ rs) w =
    waits_among bill rs (passes (checksum_eq b bill) (Attached b piece bytes) (of_bill bill rs) refl w)
waits_among bill (Parted b link manifest manifest_text ∷ rs) w = by (checksum_eq b bill) refl w (waits_among bill rs)
  where
    by : (is : Bool) → checksum_eq b bill ≡ is
        → waits (cond is (Parted b link manifest manifest_text ∷ of_bill bill rs) (of_bill bill rs)) ≡ true
        → (waits (of_bill bill rs) ≡ true → is_among bill (open_bills rs) ≡ true)
        → (checksum_eq b bill || is_among bill (open_bills rs)) ≡ true
    by true is w more = or_first (checksum_eq b bill) _ is
    by false is w more = or_more (checksum_eq b bill) _ (more w)
waits_among bill (Settled b entry ∷ rs) w = by (checksum_eq b bill) refl w (waits_among bill rs)
  where
    by : (is : Bool) → checksum_eq b bill ≡ is → waits (cond is (Settled b entry ∷ of_bill bill rs) (of_bill bill rs)) ≡ true
        → (waits (of_bill bill rs) ≡ true → is_among bill (open_bills rs) ≡ true)
        → is_among bill (closed b (open_bills rs)) ≡ true
    by true is w more = cc w
    by false is w more = closed_keeps b bill (open_bills rs) is (more w)
waits_among bill (Regained b entry ∷ rs) w = by (checksum_eq b bill) refl w (waits_among bill rs)
  where
    by : (is : Bool) → checksum_eq b bill ≡ is → waits (cond is (Regained b entry ∷ of_bill bill rs) (of_bill bill rs)) ≡ true
        → (waits (of_bill bill rs) ≡ true → is_among bill (open_bills rs) ≡ true)
        → is_among bill (closed b (open_bills rs)) ≡ true
    by true is w more = cc w
    by false is w more = closed_keeps b bill (open_bills rs) is (more w)
waits_among bill (Begun b chain manifest body ∷ rs) w =
    waits_among bill rs (passes (checksum_eq b bill) (Begun b chain manifest body) (of_bill bill rs) refl w)
waits_among bill (Stored b entry checksum bytes ∷ rs) w =
    waits_among bill rs (passes (checksum_eq b bill) (Stored b entry checksum bytes) (of_bill bill rs) refl w)
waits_among bill (Taken b entry ∷ rs) w =
    waits_among bill rs (passes (checksum_eq b bill) (Taken b entry) (of_bill bill rs) refl w)
waits_among bill (Declined b entry code reason evidence ∷ rs) w =
    waits_among bill rs
    (passes (checksum_eq b bill) (Declined b entry code reason evidence) (of_bill bill rs) refl w)

-- ---- counting

one_less : (bill : Checksum) (bills : List Checksum) → is_among bill bills ≡ true
    → 1 + length (closed bill bills) ≡ length bills
one_less bill [] among = cc among
one_less bill (b ∷ bills) among = by (checksum_eq b bill) among (one_less bill bills)
  where
    by : (is : Bool) → (is || is_among bill bills) ≡ true
        → (is_among bill bills ≡ true → 1 + length (closed bill bills) ≡ length bills)
        → 1 + length (cond is bills (b ∷ closed bill bills)) ≡ length (b ∷ bills)
    by true among more = omega arith
    by false among more = let e = more among in omega (arith, e)

abbrev parted_in : List Record → ℕ
parted_in rs = count_by is_parted rs

abbrev settled_in : List Record → ℕ
settled_in rs = count_by is_settlement rs

-- the Parted and the settlements with one record more
both_more : (r : Record) (rs : List Record)
    → (parted_in (r ∷ rs) ≡ cond (is_parted r) 1 0 + parted_in rs)
    × (settled_in (r ∷ rs) ≡ cond (is_settlement r) 1 0 + settled_in rs)
both_more r rs = (
  sum_by-cons (λ (x : Record). cond (is_parted x) 1 0) r rs,
  sum_by-cons (λ (x : Record). cond (is_settlement x) 1 0) r rs,
)

settled_now : (me : PlatformCode) (bill entry : Checksum) (rs : List Record) → AreSound me rs
    → IsParting (of_bill bill rs) entry → 1 + length (closed bill (open_bills rs)) ≡ length (open_bills rs)
settled_now me bill entry rs sound is =
    one_less bill (open_bills rs)
    (waits_among bill rs (parting_waits me (of_bill bill rs) entry (sound_alone me bill rs sound) is))

-- each Parted was settled, or its bill is open
parted_is_settled_or_open : (me : PlatformCode) (rs : List Record) → AreSound me rs
    → settled_in rs + length (open_bills rs) ≡ parted_in rs
parted_is_settled_or_open me [] sound = refl
parted_is_settled_or_open me (Signed bill document t ∷ rs) sound =
    omega (arith, both_more (Signed bill document t) rs, parted_is_settled_or_open me rs sound.2)
parted_is_settled_or_open me (Acted bill t ∷ rs) sound =
    omega (arith, both_more (Acted bill t) rs, parted_is_settled_or_open me rs sound.2)
parted_is_settled_or_open me (Attached bill piece bytes ∷ rs) sound =
    omega (arith, both_more (Attached bill piece bytes) rs, parted_is_settled_or_open me rs sound.2)
parted_is_settled_or_open me (Parted bill link manifest manifest_text ∷ rs) sound =
    omega (arith, both_more (Parted bill link manifest manifest_text) rs, parted_is_settled_or_open me rs sound.2)
parted_is_settled_or_open me (Settled bill entry ∷ rs) sound =
    omega (
      arith,
      both_more (Settled bill entry) rs,
      parted_is_settled_or_open me rs sound.2,
      settled_now me bill entry rs sound.2 sound.0,
    )
parted_is_settled_or_open me (Regained bill entry ∷ rs) sound =
    omega (
      arith,
      both_more (Regained bill entry) rs,
      parted_is_settled_or_open me rs sound.2,
      settled_now me bill entry rs sound.2 sound.0,
    )
parted_is_settled_or_open me (Begun bill chain manifest body ∷ rs) sound =
    omega (arith, both_more (Begun bill chain manifest body) rs, parted_is_settled_or_open me rs sound.2)
parted_is_settled_or_open me (Stored bill entry checksum bytes ∷ rs) sound =
    omega (arith, both_more (Stored bill entry checksum bytes) rs, parted_is_settled_or_open me rs sound.2)
parted_is_settled_or_open me (Taken bill entry ∷ rs) sound =
    omega (arith, both_more (Taken bill entry) rs, parted_is_settled_or_open me rs sound.2)
parted_is_settled_or_open me (Declined bill entry code reason evidence ∷ rs) sound =
    omega (arith, both_more (Declined bill entry code reason evidence) rs, parted_is_settled_or_open me rs sound.2)

-- no more were settled than were parted
pub settled_at_most : (me : PlatformCode) (rs : List Record) → AreSound me rs
    → count_by is_settlement rs ≤ count_by is_parted rs
settled_at_most me rs sound = omega (arith, parted_is_settled_or_open me rs sound)

-- and fewer, where a bill is parting
pub settled_fewer : (me : PlatformCode) (rs : List Record) (bill entry : Checksum) → AreSound me rs
    → IsParting (of_bill bill rs) entry → count_by is_settlement rs < count_by is_parted rs
settled_fewer me rs bill entry sound is =
    omega (arith, parted_is_settled_or_open me rs sound, settled_now me bill entry rs sound is)
