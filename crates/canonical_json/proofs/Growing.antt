-- A list and members that grow at their ends while what is left of a tree shrinks.
use Rattle.std.proofs.Common.{◌≡◌, ℕ, List, [], ◌∷◌, ◌++◌, Bool, true, false, not, ◌||◌, IsUtf8, refl, sym, ap, subst, true≢false}
use Rattle.canonical_json.specs.Value.{Value, Values, no_values, item, Members, no_members, member}
use Rattle.canonical_json.specs.View.{Entry, view, member_view, items_view, members_view}
use Rattle.canonical_json.specs.Lawful.{HasTexts, HaveTexts, MembersHaveTexts}
use Rattle.canonical_json.specs.Reading.{names_of}
use Rattle.canonical_json.specs.declared.value.Json.{Json}
use Rattle.canonical_json.specs.declared.value.Member.{Member}

-- the values of the items, and the rest behind them
abbrev pub before : List Json → Values → Values
before [] rest = rest
before (j ∷ js) rest = item (view j) (before js rest)

pub before-push : (js : List Json) (j : Json) (v : Value) (rest : Values) → view j ≡ v → before (js ++ j ∷ []) rest ≡ before js (item v rest)
before-push [] j v rest e = ap (λ w. item w rest) e
before-push (k ∷ js) j v rest e = ap (item (view k)) (before-push js j v rest e)

pub before-no_values : (js : List Json) → before js no_values ≡ items_view js
before-no_values [] = refl
before-no_values (j ∷ js) = ap (item (view j)) (before-no_values js)

pub HaveTexts-push : (js : List Json) (j : Json) → HaveTexts (items_view js) → HasTexts (view j) → HaveTexts (items_view (js ++ j ∷ []))
HaveTexts-push [] j h k = (k, tt)
HaveTexts-push (i ∷ js) j h k = (h.0, HaveTexts-push js j h.1 k)

-- the members of the items, and the rest behind them
abbrev pub members_before : List Member → Members → Members
members_before [] rest = rest
members_before (m ∷ ms) rest = member (member_view m).0 (member_view m).1 (members_before ms rest)

pub members_before-push : (ms : List Member) (m : Member) (e : Entry) (rest : Members) → member_view m ≡ e → members_before (ms ++ m ∷ []) rest ≡ members_before ms (member e.0 e.1 rest)
members_before-push [] m e rest is = ap (λ (p : Entry). member p.0 p.1 rest) is
members_before-push (n ∷ ms) m e rest is = ap (member (member_view n).0 (member_view n).1) (members_before-push ms m e rest is)

pub members_before-no_members : (ms : List Member) → members_before ms no_members ≡ members_view ms
members_before-no_members [] = refl
members_before-no_members (m ∷ ms) = ap (member (member_view m).0 (member_view m).1) (members_before-no_members ms)

pub MembersHaveTexts-push : (ms : List Member) (m : Member) (e : Entry) → MembersHaveTexts (members_view ms) → member_view m ≡ e → IsUtf8 e.0 → HasTexts e.1 → MembersHaveTexts (members_view (ms ++ m ∷ []))
MembersHaveTexts-push [] m e h is k l = (subst (λ (p : Entry). IsUtf8 p.0) (sym is) k, subst (λ (p : Entry). HasTexts p.1) (sym is) l, tt)
MembersHaveTexts-push (n ∷ ms) m e h is k l = (h.0, h.1, MembersHaveTexts-push ms m e h.2 is k l)

-- the names of the items, and the rest behind them
abbrev pub names_before : List Member → List (List ℕ) → List (List ℕ)
names_before [] rest = rest
names_before (m ∷ ms) rest = (member_view m).0 ∷ names_before ms rest

pub names_before-push : (ms : List Member) (m : Member) (e : Entry) (rest : List (List ℕ)) → member_view m ≡ e → names_before (ms ++ m ∷ []) rest ≡ names_before ms (e.0 ∷ rest)
names_before-push [] m e rest is = ap (λ (p : Entry). p.0 ∷ rest) is
names_before-push (n ∷ ms) m e rest is = ap (λ l. (member_view n).0 ∷ l) (names_before-push ms m e rest is)

pub names_before-none : (ms : List Member) → names_before ms [] ≡ names_of (members_view ms)
names_before-none [] = refl
names_before-none (m ∷ ms) = ap (λ l. (member_view m).0 ∷ l) (names_before-none ms)

-- a fault of one more tree
pub moved : (a b c : Bool) → (b || (a || c)) ≡ ((a || b) || c)
moved true true c = refl
moved true false c = refl
moved false b c = refl

pub last_noted : (l r m o : Bool) → l ≡ (m || o) → (l || not (not r)) ≡ ((r || m) || o)
last_noted true true m o e = refl
last_noted false true m o e = refl
last_noted true false m o e = e
last_noted false false m o e = e

pub none_noted : (l a : Bool) → (l || not a) ≡ false → (l ≡ false) × (a ≡ true)
none_noted true a e = absurd (true≢false e)
none_noted false true e = (refl, refl)
none_noted false false e = absurd (true≢false e)
