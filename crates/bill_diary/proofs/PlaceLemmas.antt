-- What a place says of the records: what is known, and what is parting.
use Rattle.std.proofs.Common.{◌≡◌, Bool, true, false, List, Option, Some, None, cond, refl, ap, sym, subst, ◌∙◌}
use Rattle.std.specs.Prelude.{option_and_then}
use Rattle.ebl_base.specs.declared.chain.ChainLink.{ChainLink}
use Rattle.bill_diary.specs.declared.record.Record.{Record}
use Rattle.bill_diary.specs.declared.bill_place.BillPlace.{BillPlace}
use Rattle.bill_diary.specs.declared.bill_place.BillPlace.TheVariants.{Absent, Held, Parting, Gone}
use Rattle.bill_diary.specs.Known.{known}
pub use Rattle.bill_diary.specs.Standing.{WhereHeld, WhereParting, WhereGone, Stands}
use Rattle.bill_diary.specs.Place.{is_over, last_parted, parting, is_left, since, place_with, place_of}

-- ---- by the place

stands_on : (h : List Record) (chain : List ChainLink) (left : Bool)
    → known h ≡ Some chain → parting h ≡ None → is_left chain h ≡ left
    → Stands h (cond left (Gone chain) (Held chain (since h)))
stands_on h chain true k p l = record { known_is = k; not_parting = p; left = l }
stands_on h chain false k p l = record { known_is = k; not_parting = p; not_left = l; since_is = refl }

stands_with : (h : List Record) (k : Option (List ChainLink)) (p : Option ChainLink)
    → known h ≡ k → parting h ≡ p → Stands h (place_with k p h)
stands_with h None p known_is parting_is = known_is
stands_with h (Some chain) (Some link) known_is parting_is =
    record { known_is = known_is; parting_is = parting_is }
stands_with h (Some chain) None known_is parting_is =
    stands_on h chain (is_left chain h) known_is parting_is refl

pub stands : (h : List Record) (place : BillPlace) → place_of h ≡ place → Stands h place
stands h place is = subst (Stands h) is (stands_with h (known h) (parting h) refl refl)

-- and what a place says makes it the place
pub stands_so : (h : List Record) (place : BillPlace) → Stands h place → place_of h ≡ place
stands_so h Absent nothing = ap (λ k. place_with k (parting h) h) nothing
stands_so h (Held chain made) held =
    ap (λ k. place_with k (parting h) h) held.known_is ∙ ap (λ p. place_with (Some chain) p h) held.not_parting
    ∙ ap (λ left. cond left (Gone chain) (Held chain (since h))) held.not_left ∙ ap (Held chain) held.since_is
stands_so h (Parting chain link) parts =
    ap (λ k. place_with k (parting h) h) parts.known_is ∙ ap (λ p. place_with (Some chain) p h) parts.parting_is
stands_so h (Gone chain) gone =
    ap (λ k. place_with k (parting h) h) gone.known_is ∙ ap (λ p. place_with (Some chain) p h) gone.not_parting
    ∙ ap (λ left. cond left (Gone chain) (Held chain (since h))) gone.left

pub absent_knows_nothing : (h : List Record) → place_of h ≡ Absent → known h ≡ None
absent_knows_nothing h is = stands h Absent is

-- ---- what is parting

parting_on : (link entry : ChainLink) (over : Bool) → cond over None (Some entry) ≡ Some link
    → (over ≡ false) × (entry ≡ link)
parting_on link entry true is = absurd (let no : None ≡ Some link = is in cc)
parting_on link entry false is = (refl, let same : Some entry ≡ Some link = is in cc)

parting_with : (h : List Record) (link : ChainLink) (last : Option ChainLink)
    → option_and_then (λ entry. cond (is_over entry.name h) None (Some entry)) last ≡ Some link
    → (last ≡ Some link) × (is_over link.name h ≡ false)
parting_with h link None is = absurd (let no : None ≡ Some link = is in cc)
parting_with h link (Some entry) is =
    let (not_over, same) = parting_on link entry (is_over entry.name h) is in
    (ap Some same, ap (λ (l : ChainLink). is_over l.name h) (sym same) ∙ not_over)

-- what is parting is the last that was parted, and it isn't over
pub parting_is_last : (h : List Record) (link : ChainLink) → parting h ≡ Some link
    → (last_parted h ≡ Some link) × (is_over link.name h ≡ false)
parting_is_last h link is = parting_with h link (last_parted h) is

-- the last that was parted is parting, unless it is over
pub last_is_parting : (h : List Record) (link : ChainLink) → last_parted h ≡ Some link → is_over link.name h ≡ false
    → parting h ≡ Some link
last_is_parting h link last not_over =
    ap (option_and_then (λ (entry : ChainLink). cond (is_over entry.name h) None (Some entry))) last
    ∙ ap (λ over. cond over None (Some link)) not_over

pub over_is_not_parting : (h : List Record) (link : ChainLink) → last_parted h ≡ Some link → is_over link.name h ≡ true
    → parting h ≡ None
over_is_not_parting h link last over =
    ap (option_and_then (λ (entry : ChainLink). cond (is_over entry.name h) None (Some entry))) last
    ∙ ap (λ b. cond b None (Some link)) over
