-- How the place of a bill is worked out from the known chain, what is parting, and what is settled.
use Rattle.std.proofs.Common.{◌≡◌, ◌≤◌, Bool, true, false, List, [], ◌∷◌, ◌++◌, length, refl, ap, subst, ◌∙◌, inl, inr}
use Rattle.std.specs.Prelude.{◌⊎◌, Option, Some, None, option_and_then, if◌then◌else◌}
use Rattle.std.specs.Option.{option_map_or}
use Rattle.std.proofs.lemmas.Bool.{le-ltb}
use Rattle.ebl_base.specs.declared.chain.ChainLink.{ChainLink}
use Rattle.bill_diary.specs.declared.record.Record.{Record}
use Rattle.bill_diary.specs.declared.bill_place.BillPlace.TheVariants.{Absent, Held, Parting, Gone}
use Rattle.bill_diary.specs.Known.{known, longer}
use Rattle.closed_family.proofs.Chains.{last_of-push}
use Rattle.bill_diary.specs.Place.{place_of, place_with, parting, is_left, is_over, last_parted, since, is_settled}

-- ---- the known chain

-- a chain that is no shorter than the known one is known from now on
pub longer_new : (c K : List ChainLink) → length K ≤ length c → longer c (Some K) ≡ c
longer_new c K h = ap (λ (b : Bool). if b then K else c) (le-ltb (length c) (length K) h)

-- ---- what is parting

pub no_parting : (h : List Record) → last_parted h ≡ None → parting h ≡ None
no_parting h none = ap (option_and_then (λ (link : ChainLink). if is_over link.name h then None else Some link)) none

pub still_parting : (h : List Record) (e : ChainLink) → last_parted h ≡ Some e → is_over e.name h ≡ false
    → parting h ≡ Some e
still_parting h e last open_still =
    ap (option_and_then (λ (link : ChainLink). if is_over link.name h then None else Some link)) last
    ∙ ap (λ (b : Bool). if b then None else Some e) open_still

pub parting_over : (h : List Record) (e : ChainLink) → last_parted h ≡ Some e → is_over e.name h ≡ true
    → parting h ≡ None
parting_over h e last over =
    ap (option_and_then (λ (link : ChainLink). if is_over link.name h then None else Some link)) last
    ∙ ap (λ (b : Bool). if b then None else Some e) over

-- what is parting is the last that parted, and isn't over
pub record IsOpen (h : List Record) (e : ChainLink) : Type 0 where
  pub last : last_parted h ≡ Some e
  pub not_over : is_over e.name h ≡ false

pub parting_is_open : (h : List Record) (e : ChainLink) → parting h ≡ Some e → IsOpen h e
parting_is_open h e one = at_last (last_parted h) refl one
  where
    by_over : (f : ChainLink) (b : Bool) → last_parted h ≡ Some f → is_over f.name h ≡ b
        → (if b then None else Some f) ≡ Some e → IsOpen h e
    by_over f true last over h = cc
    by_over f false last over same =
        let one_link : f ≡ e = cc in
        record {
          last = last ∙ ap Some one_link;
          not_over = subst (λ (x : ChainLink). is_over x.name h ≡ false) one_link over;
        }

    at_last : (l : Option ChainLink) → last_parted h ≡ l
        → option_and_then (λ (link : ChainLink). if is_over link.name h then None else Some link) l ≡ Some e
        → IsOpen h e
    at_last None last same = cc
    at_last (Some f) last same = by_over f (is_over f.name h) last refl same

-- nothing is parting where nothing parted, or the last that parted is over
pub closed_cases : (h : List Record) → parting h ≡ None
    → (last_parted h ≡ None) ⊎ ((e : ChainLink) × (last_parted h ≡ Some e) × (is_over e.name h ≡ true))
closed_cases h none = at_last (last_parted h) refl none
  where
    by_over : (f : ChainLink) (b : Bool) → last_parted h ≡ Some f → is_over f.name h ≡ b
        → (if b then None else Some f) ≡ None
        → (last_parted h ≡ None) ⊎ ((e : ChainLink) × (last_parted h ≡ Some e) × (is_over e.name h ≡ true))
    by_over f true last over h = inr (f, last, over)
    by_over f false last over same = cc

    at_last : (l : Option ChainLink) → last_parted h ≡ l
        → option_and_then (λ (link : ChainLink). if is_over link.name h then None else Some link) l ≡ None
        → (last_parted h ≡ None) ⊎ ((e : ChainLink) × (last_parted h ≡ Some e) × (is_over e.name h ≡ true))
    at_last None last same = inl last
    at_last (Some f) last same = by_over f (is_over f.name h) last refl same

-- ---- places

pub place_absent : (h : List Record) → known h ≡ None → place_of h ≡ Absent
place_absent h none = ap (λ (k : Option (List ChainLink)). place_with k (parting h) h) none

pub place_parting : (h : List Record) (K : List ChainLink) (e : ChainLink) → known h ≡ Some K → parting h ≡ Some e
    → place_of h ≡ Parting K e
place_parting h K e k p =
    ap (λ (k : Option (List ChainLink)). place_with k (parting h) h) k
    ∙ ap (λ (p : Option ChainLink). place_with (Some K) p h) p

pub place_held : (h : List Record) (K : List ChainLink) → known h ≡ Some K → parting h ≡ None → is_left K h ≡ false
    → place_of h ≡ Held K (since h)
place_held h K k p left =
    ap (λ (k : Option (List ChainLink)). place_with k (parting h) h) k
    ∙ ap (λ (p : Option ChainLink). place_with (Some K) p h) p
    ∙ ap (λ (b : Bool). if b then Gone K else Held K (since h)) left

pub place_gone : (h : List Record) (K : List ChainLink) → known h ≡ Some K → parting h ≡ None → is_left K h ≡ true
    → place_of h ≡ Gone K
place_gone h K k p left =
    ap (λ (k : Option (List ChainLink)). place_with k (parting h) h) k
    ∙ ap (λ (p : Option ChainLink). place_with (Some K) p h) p
    ∙ ap (λ (b : Bool). if b then Gone K else Held K (since h)) left

-- ---- chains that are left

-- a chain is left where its last entry is settled
pub left_push : (front : List ChainLink) (e : ChainLink) (h : List Record)
    → is_left (front ++ e ∷ []) h ≡ is_settled e.name h
left_push front e h = ap
    (λ (l : Option ChainLink). option_map_or (λ (link : ChainLink). is_settled link.name h) l false)
    (last_of-push front e)
