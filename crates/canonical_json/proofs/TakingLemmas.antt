-- Taking out the member at the place where a name stands first.
use Rattle.std.proofs.Common.{◌≡◌, ℕ, suc, ◌<◌, List, [], ◌∷◌, length, Bool, true, false, cond, Option, Some, None, option_map, bytes_eq, get_or, remove, refl, sym, ap, ◌∙◌, subst, arith}
use Rattle.canonical_json.specs.Value.{Members, no_members, member}
use Rattle.canonical_json.specs.View.{member_view, members_view}
use Rattle.canonical_json.specs.Field.{under}
use Rattle.canonical_json.specs.Taking.{place_of, without}
use Rattle.canonical_json.specs.declared.value.Member.{Member}

-- the place is one of a member
pub place_within : (name : List ℕ) (items : List Member) (i : ℕ) → place_of name (members_view items) ≡ Some i
    → i < length items
place_within name [] i h = absurd (cc)
place_within name (x ∷ xs) i h =
    by_test (place_within name xs) (bytes_eq (member_view x).0 name) (place_of name (members_view xs)) refl h
  where
    by_test : ((k : ℕ) → place_of name (members_view xs) ≡ Some k → k < length xs) → (b : Bool) (at : Option ℕ)
        → place_of name (members_view xs) ≡ at → cond b (Some 0) (option_map suc at) ≡ Some i → i < length (x ∷ xs)
    by_test deeper true at e f = let first : 0 ≡ i = cc in omega arith
    by_test deeper false None e f = cc
    by_test deeper false (Some k) e f =
        let later : suc k ≡ i = cc in
        let below = deeper k e in
        omega arith

-- at the place stands a member whose value is under the name, and without it the others are left
pub record IsPlace (name : List ℕ) (items : List Member) (m : Member) (i : ℕ) : Type 0 where
  pub value : under name (members_view items) ≡ Some (member_view (get_or items i m)).1
  pub rest : members_view (remove items i) ≡ without name (members_view items)

pub place_found : (name : List ℕ) (items : List Member) (m : Member) (i : ℕ)
    → place_of name (members_view items) ≡ Some i → IsPlace name items m i
place_found name [] m i h = absurd (cc)
place_found name (x ∷ xs) m i h = by_test (place_found name xs m) (bytes_eq (member_view x).0 name) refl h
  where
    behind : (at : Option ℕ) → place_of name (members_view xs) ≡ at → option_map suc at ≡ Some i
        → (k : ℕ) × (place_of name (members_view xs) ≡ Some k) × (suc k ≡ i)
    behind None e f = cc
    behind (Some k) e f = (k, e, cc)

    by_test : ((k : ℕ) → place_of name (members_view xs) ≡ Some k → IsPlace name xs m k)
        → (b : Bool) → bytes_eq (member_view x).0 name ≡ b
        → cond b (Some 0) (option_map suc (place_of name (members_view xs))) ≡ Some i
        → IsPlace name (x ∷ xs) m i
    by_test deeper true e f =
        let first : 0 ≡ i = cc in
        subst (IsPlace name (x ∷ xs) m) first (record {
          value = ap (λ b. cond b (Some (member_view x).1) (under name (members_view xs))) e;
          rest = sym (ap (λ b. cond b (members_view xs) (member (member_view x).0 (member_view x).1 (without name (members_view xs)))) e);
        })
    by_test deeper false e f =
        let later = behind (place_of name (members_view xs)) refl f in
        let found = deeper later.0 later.1 in
        subst (IsPlace name (x ∷ xs) m) later.2 (record {
          value = ap (λ b. cond b (Some (member_view x).1) (under name (members_view xs))) e ∙ found.value;
          rest = ap (member (member_view x).0 (member_view x).1) found.rest
              ∙ sym (ap (λ b. cond b (members_view xs) (member (member_view x).0 (member_view x).1 (without name (members_view xs)))) e);
        })

-- where no member has the name, nothing is taken
pub record IsAbsent (name : List ℕ) (ms : Members) : Type 0 where
  pub value : under name ms ≡ None
  pub rest : without name ms ≡ ms

pub place_absent : (name : List ℕ) (ms : Members) → place_of name ms ≡ None → IsAbsent name ms
place_absent name no_members h = record { value = refl; rest = refl }
place_absent name (member other v ms) h = by_test (place_absent name ms) (bytes_eq other name) refl h
  where
    behind : (at : Option ℕ) → option_map suc at ≡ None → at ≡ None
    behind None f = refl
    behind (Some k) f = cc

    by_test : (place_of name ms ≡ None → IsAbsent name ms) → (b : Bool) → bytes_eq other name ≡ b → cond b (Some 0) (option_map suc (place_of name ms)) ≡ None
        → IsAbsent name (member other v ms)
    by_test deeper true e f = cc
    by_test deeper false e f =
        let absent = deeper (behind (place_of name ms) f) in
        record {
          value = ap (λ b. cond b (Some v) (under name ms)) e ∙ absent.value;
          rest = ap (λ b. cond b ms (member other v (without name ms))) e ∙ ap (member other v) absent.rest;
        }
