-- Lists of distinct items, as they are read and as they are written.
use Rattle.std.proofs.Common.{◌≡◌, ◌≤◌, ℕ, suc, Bool, true, false, ◌&&◌, nat_le, List, [], ◌∷◌, Option, Some, None, Result, Ok, Err, codes, cond, map, length, refl, sym, ap, ◌∙◌, subst, arith}
use Rattle.std.specs.Prelude.{All, option_and_then}
use Rattle.std.specs.Set.{is_member}
use Rattle.std.proofs.lemmas.Bool.{and_parts}
use Rattle.std.proofs.lemmas.Bool.Decides.{nat_tests}
use Rattle.std.proofs.lemmas.List.Elements.{All-nil, All-cons, All-head, All-tail}
use Rattle.canonical_json.specs.Value.{Value, Values, no_values, item}
use Rattle.json_forms.specs.Reading.{count_of, within, each}
use Rattle.json_forms.specs.Writing.{each_written}
use Rattle.json_forms.proofs.RoundTrips.{kept, count_of-each, count_of-each_written}
use Rattle.party_roster.specs.declared.fault.RosterPlace.{RosterPlace}
use Rattle.party_roster.specs.Distinct.{first_wrong, present, unless_wrong, distinct, are_distinct, IsDistinctList}
use Rattle.party_roster.specs.Reading.{list_read}
use Rattle.party_roster.proofs.DistinctLemmas.{right_parts, distinct-right, present-all}

-- ---- as they are read

-- what is distinct has nothing wrong in it
distinct-parts : {T P : Type 0} (place : ℕ → P) (wrong : Option ℕ) (items xs : List T)
    → unless_wrong place wrong items ≡ Ok xs → (wrong ≡ None) × (items ≡ xs)
distinct-parts place None items xs h = (refl, cc)
distinct-parts place (Some i) items xs h = cc

-- each of the items that are well-formed
all-present : {T : Type 0} (form : Value → Option T) (IsItem : T → Type 0)
    → ((v : Value) (x : T) → form v ≡ Some x → IsItem x) → (values : Values) → All IsItem (present (each form values))
all-present form IsItem holds no_values = All-nil IsItem
all-present {T} form IsItem holds (item v values) = by_form (all-present form IsItem holds values) (form v) refl
  where
    by_form : All IsItem (present (each form values)) → (o : Option T) → form v ≡ o → All IsItem (present (o ∷ each form values))
    by_form behind None e = behind
    by_form behind (Some x) e = All-cons IsItem x (present (each form values)) (holds v x e) behind

-- as many as there are
length-somes : {T : Type 0} (xs : List T) → length (map (λ x. Some x) xs) ≡ length xs
length-somes [] = refl
length-somes (x ∷ xs) = ap suc (length-somes xs)

-- a list that was read
pub list-form : {T : Type 0} (same : T → T → Bool) (form : Value → Option T) (IsItem : T → Type 0)
    → ((v : Value) (x : T) → form v ≡ Some x → IsItem x)
    → (outside : RosterPlace) (place : ℕ → RosterPlace) (most : ℕ) (found : Option Values) (xs : List T)
    → list_read outside (λ vs. distinct same place (each form vs)) (option_and_then (within 1 most) found) ≡ Ok xs
    → IsDistinctList IsItem same most xs
list-form same form IsItem holds outside place most None xs h = cc
list-form {T} same form IsItem holds outside place most (Some values) xs h =
    by_within (nat_le 1 (count_of values) && nat_le (count_of values) most) refl h
  where
    by_within : (b : Bool) → (nat_le 1 (count_of values) && nat_le (count_of values) most) ≡ b
        → list_read outside (λ vs. distinct same place (each form vs)) (cond b (Some values) None) ≡ Ok xs
        → IsDistinctList IsItem same most xs
    by_within false e f = cc
    by_within true e f =
        let limits = and_parts (nat_le 1 (count_of values)) (nat_le (count_of values) most) e in
        let low : 1 ≤ count_of values = grind (arith, nat_tests, limits.0) in
        let high : count_of values ≤ most = grind (arith, nat_tests, limits.1) in
        let items = each form values in
        let right = distinct-parts place (first_wrong same items) (present items) xs f in
        let parts = right_parts same items right.0 in
        let count : count_of values ≡ length (present items) =
        count_of-each form values ∙ ap length parts.0 ∙ length-somes (present items) in
        subst (IsDistinctList IsItem same most) right.1 (record {
          some = omega (arith, low, count);
          few = omega (arith, high, count);
          each = all-present form IsItem holds values;
          apart = parts.1;
        })

-- ---- as they are written

-- well-formed items are read as they are written
each-written : {T : Type 0} (form : Value → Option T) (write : T → Value) (IsItem : T → Type 0)
    → ((x : T) → IsItem x → form (write x) ≡ Some x) → (xs : List T) → All IsItem xs
    → each form (each_written write xs) ≡ map (λ x. Some x) xs
each-written form write IsItem back [] h = refl
each-written form write IsItem back (x ∷ xs) h =
    ap (λ o. o ∷ each form (each_written write xs)) (back x (All-head IsItem x xs h))
    ∙ ap (λ rest. Some x ∷ rest) (each-written form write IsItem back xs (All-tail IsItem x xs h))

-- and so is their list
pub list-reads_back : {T : Type 0} (same : T → T → Bool) (form : Value → Option T) (write : T → Value)
    (IsItem : T → Type 0) → ((x : T) → IsItem x → form (write x) ≡ Some x)
    → (outside : RosterPlace) (place : ℕ → RosterPlace) (most : ℕ) (xs : List T) → IsDistinctList IsItem same most xs
    → list_read outside (λ vs. distinct same place (each form vs)) (within 1 most (each_written write xs)) ≡ Ok xs
list-reads_back same form write IsItem back outside place most xs is =
    let written = each_written write xs in
    let count : count_of written ≡ length xs = count_of-each_written write xs in
    let some = is.some in
    let few = is.few in
    let low : nat_le 1 (count_of written) ≡ true = grind (arith, nat_tests, count, some) in
    let high : nat_le (count_of written) most ≡ true = grind (arith, nat_tests, count, few) in
    ap (λ b. list_read outside (λ vs. distinct same place (each form vs))
    (cond (b && nat_le (count_of written) most) (Some written) None)) low
    ∙ ap (λ b. list_read outside (λ vs. distinct same place (each form vs)) (cond b (Some written) None)) high
    ∙ ap (distinct same place) (each-written form write IsItem back xs is.each)
    ∙ ap (λ w. unless_wrong place w (present (map (λ x. Some x) xs))) (distinct-right same xs is.apart)
    ∙ ap Ok (present-all xs)
