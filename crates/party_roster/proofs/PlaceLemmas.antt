-- Which place is answered of a value that is no roster: the least that is wrong.
use Rattle.std.proofs.Common.{◌≡◌, ◌⊎◌, inl, inr, ℕ, Bool, List, Option, Some, None, Result, Ok, Err, codes, refl, sym, ap, ◌∙◌, subst}
use Rattle.canonical_json.specs.Value.{Value, Values}
use Rattle.ebl_base.specs.PlatformCode.{code_eq}
use Rattle.ebl_base.specs.Party.{party_eq}
use Rattle.ebl_base.specs.declared.platform_code.PlatformCode.{PlatformCode}
use Rattle.ebl_base.specs.declared.party.Party.{Party}
use Rattle.json_forms.specs.Reading.{each, platform_in, required_items, then_read}
use Rattle.party_roster.specs.declared.fault.RosterPlace.{RosterPlace}
use Rattle.party_roster.specs.declared.fault.RosterPlace.TheVariants.{Whole, Platform, Parties, PartyAt, Carriers, CarrierAt}
use Rattle.party_roster.specs.Distinct.{IsFirstWrong, distinct, first_wrong, present, unless_wrong}
use Rattle.party_roster.specs.Reading.{list_read, listed_party, listed_carrier, platforms_of, parties_of, carriers_of, roster_of}
use Rattle.party_roster.specs.RosterRecord.{RosterRecord, same_carrier}
use Rattle.party_roster.proofs.DistinctLemmas.{first_wrong-least}

-- the place that is answered of a list: outside it, or of one of its items
list_place : {T : Type 0} (outside : RosterPlace) (place : ℕ → RosterPlace) (items : Values → List (Option T))
    (same : T → T → Bool) (o : Option Values) (wrong : RosterPlace)
    → list_read outside (λ vs. distinct same place (items vs)) o ≡ Err wrong
    → (outside ≡ wrong) ⊎ ((i : ℕ) × (place i ≡ wrong))
list_place outside place items same None wrong h = inl (cc)
list_place outside place items same (Some values) wrong h = by_wrong (first_wrong same (items values)) h
  where
    by_wrong : (w : Option ℕ) → unless_wrong place w (present (items values)) ≡ Err wrong
        → (outside ≡ wrong) ⊎ ((i : ℕ) × (place i ≡ wrong))
    by_wrong None e = cc
    by_wrong (Some i) e = inr (i, cc)

-- the place of an item is the least that is wrong
least_of : {T : Type 0} (place : ℕ → RosterPlace) (same : T → T → Bool) (items : List (Option T)) (i : ℕ)
    → ((j k : ℕ) → place j ≡ place k → j ≡ k) → distinct same place items ≡ Err (place i) → IsFirstWrong same items i
least_of place same items i one h = by_wrong (first_wrong same items) refl h
  where
    by_wrong : (w : Option ℕ) → first_wrong same items ≡ w → unless_wrong place w (present items) ≡ Err (place i)
        → IsFirstWrong same items i
    by_wrong None e f = cc
    by_wrong (Some j) e f =
        let places : place j ≡ place i = cc in
        first_wrong-least same items i (e ∙ ap Some (one j i places))

-- what the roster of these lists is, or its first wrong place
abbrev from_carriers : List PlatformCode → List Party → Value → Result RosterRecord RosterPlace
from_carriers platforms parties v =
    then_read (carriers_of parties v)
    (λ carriers. Ok (record { platforms = platforms; parties = parties; carriers = carriers }))

abbrev from_parties : List PlatformCode → Value → Result RosterRecord RosterPlace
from_parties platforms v = then_read (parties_of platforms v) (λ parties. from_carriers platforms parties v)

-- a wrong place came from here, or from what follows
came_from : {A B : Type 0} (first : Result A RosterPlace) (next : A → Result B RosterPlace) (wrong : RosterPlace)
    → then_read first next ≡ Err wrong → (first ≡ Err wrong) ⊎ ((x : A) × (first ≡ Ok x) × (next x ≡ Err wrong))
came_from (Err place) next wrong h = inl (cc)
came_from (Ok x) next wrong h = inr (x, refl, h)

carriers_place : (platforms : List PlatformCode) (parties : List Party) (v : Value) (wrong : RosterPlace)
    → from_carriers platforms parties v ≡ Err wrong → carriers_of parties v ≡ Err wrong
carriers_place platforms parties v wrong h =
    elim (came_from (carriers_of parties v) _ wrong h) [ inl e ↦ e | inr e ↦ absurd (cc e.2) ]

no_platform_of_carriers : (parties : List Party) (v : Value) (i : ℕ) → carriers_of parties v ≡ Err (Platform i) → ⊥
no_platform_of_carriers parties v i h =
    elim (list_place Carriers CarrierAt (each (listed_carrier parties)) same_carrier
    (required_items (codes "carriers") 1 64 v) (Platform i) h) [ inl e ↦ absurd (cc e) | inr e ↦ absurd (cc e.1) ]

no_party_of_carriers : (parties : List Party) (v : Value) (i : ℕ) → carriers_of parties v ≡ Err (PartyAt i) → ⊥
no_party_of_carriers parties v i h =
    elim (list_place Carriers CarrierAt (each (listed_carrier parties)) same_carrier
    (required_items (codes "carriers") 1 64 v) (PartyAt i) h) [ inl e ↦ absurd (cc e) | inr e ↦ absurd (cc e.1) ]

no_platform_of_parties : (platforms : List PlatformCode) (v : Value) (i : ℕ)
    → from_parties platforms v ≡ Err (Platform i) → ⊥
no_platform_of_parties platforms v i h =
    elim (came_from (parties_of platforms v) _ (Platform i) h) [
      | inl e ↦
          elim (list_place Parties PartyAt (each (listed_party platforms)) party_eq
          (required_items (codes "parties") 1 1024 v) (Platform i) e) [ inl f ↦ absurd (cc f) | inr f ↦ absurd (cc f.1) ]
      | inr e ↦ no_platform_of_carriers e.0 v i (carriers_place platforms e.0 v (Platform i) e.2)
    ]

one_platform : (j k : ℕ) → Platform j ≡ Platform k → j ≡ k
one_platform j k h = cc

one_party : (j k : ℕ) → PartyAt j ≡ PartyAt k → j ≡ k
one_party j k h = cc

one_carrier : (j k : ℕ) → CarrierAt j ≡ CarrierAt k → j ≡ k
one_carrier j k h = cc

pub platform_place : (v : Value) (values : Values) (i : ℕ) → required_items (codes "platforms") 1 8 v ≡ Some values
    → roster_of v ≡ Err (Platform i) → IsFirstWrong code_eq (each platform_in values) i
platform_place v values i there h =
    elim (came_from (platforms_of v) (λ platforms. from_parties platforms v) (Platform i) h) [
      | inl e ↦
          least_of Platform code_eq (each platform_in values) i one_platform
          (sym (ap (list_read Whole (λ vs. distinct code_eq Platform (each platform_in vs))) there) ∙ e)
      | inr e ↦ absurd (no_platform_of_parties e.0 v i e.2)
    ]

pub party_place : (v : Value) (platforms : List PlatformCode) (values : Values) (i : ℕ)
    → platforms_of v ≡ Ok platforms → required_items (codes "parties") 1 1024 v ≡ Some values
    → roster_of v ≡ Err (PartyAt i) → IsFirstWrong party_eq (each (listed_party platforms) values) i
party_place v platforms values i listed there h =
    let behind : from_parties platforms v ≡ Err (PartyAt i) =
    sym (ap (λ r. then_read r (λ ps. from_parties ps v)) listed) ∙ h in
    elim (came_from (parties_of platforms v) (λ parties. from_carriers platforms parties v) (PartyAt i) behind) [
      | inl e ↦
          least_of PartyAt party_eq (each (listed_party platforms) values) i one_party
          (sym (ap (list_read Parties (λ vs. distinct party_eq PartyAt (each (listed_party platforms) vs))) there) ∙ e)
      | inr e ↦
          absurd (no_party_of_carriers e.0 v i (carriers_place platforms e.0 v (PartyAt i) e.2))
    ]

pub carrier_place : (v : Value) (platforms : List PlatformCode) (parties : List Party) (values : Values) (i : ℕ)
    → platforms_of v ≡ Ok platforms → parties_of platforms v ≡ Ok parties
    → required_items (codes "carriers") 1 64 v ≡ Some values → roster_of v ≡ Err (CarrierAt i)
    → IsFirstWrong same_carrier (each (listed_carrier parties) values) i
carrier_place v platforms parties values i listed known there h =
    let behind : from_parties platforms v ≡ Err (CarrierAt i) =
    sym (ap (λ r. then_read r (λ ps. from_parties ps v)) listed) ∙ h in
    let last : from_carriers platforms parties v ≡ Err (CarrierAt i) =
    sym (ap (λ r. then_read r (λ qs. from_carriers platforms qs v)) known) ∙ behind in
    least_of CarrierAt same_carrier (each (listed_carrier parties) values) i one_carrier
    (sym (ap (list_read Carriers (λ vs. distinct same_carrier CarrierAt (each (listed_carrier parties) vs))) there)
    ∙ carriers_place platforms parties v (CarrierAt i) last)
