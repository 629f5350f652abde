-- How the items of a list are read one after the other, and which place is the first that is wrong.
use Rattle.std.proofs.Common.{◌≡◌, ℕ, suc, ◌+◌, Bool, true, false, List, [], ◌∷◌, ◌++◌, Option, Some, None, Result, Ok, Err, option_map, map, length, min, refl, sym, ap, ◌∙◌, append_assoc, append-nil, arith, length-append, cond, ◌<◌, get_or, drop, drop-cons, add-one}
use Rattle.canonical_json.specs.Value.{Value}
use Rattle.canonical_json.specs.View.{view, items_view}
use Rattle.canonical_json.specs.declared.value.Json.{Json}
use Rattle.json_forms.specs.Reading.{each}
use Rattle.std.specs.Set.{is_member}
use Rattle.std.specs.List.{list_any}
use Rattle.std.proofs.Math.Bool.{not, ◌&&◌, ◌||◌}
use Rattle.party_roster.specs.Distinct.{fresh, repeats, repeats_at, earlier_of, first_wrong, present, unless_wrong, distinct, are_distinct, IsFirstWrong}

-- ---- the first wrong place, with the items before it

-- the first place, where the item there is wrong; else one behind the place behind the item
abbrev here_or_behind : {T : Type 0} → Option T → (T → Option ℕ) → Option ℕ
here_or_behind None behind = Some 0
here_or_behind (Some x) behind = option_map suc (behind x)

-- the first wrong place, where these items came before
abbrev wrong_from : {T : Type 0} → (T → T → Bool) → List T → List (Option T) → Option ℕ
wrong_from same earlier [] = None
wrong_from same earlier (item ∷ items) =
    here_or_behind (fresh same earlier item) (λ x. wrong_from same (earlier ++ x ∷ []) items)

-- one place later
later : (a b : Option ℕ) → option_map suc (earlier_of a b) ≡ earlier_of (option_map suc a) (option_map suc b)
later None b = refl
later (Some a) None = refl
later (Some a) (Some b) = ap Some (omega arith)

three : (a b c : Option ℕ) → earlier_of (earlier_of a b) c ≡ earlier_of a (earlier_of b c)
three None b c = refl
three (Some a) None c = refl
three (Some a) (Some b) None = refl
three (Some a) (Some b) (Some c) = ap Some (omega arith)

first_of : (a : Option ℕ) → earlier_of (option_map suc a) (Some 0) ≡ Some 0
first_of None = refl
first_of (Some a) = ap Some (omega arith)

of_first : (a : Option ℕ) → earlier_of (Some 0) (option_map suc a) ≡ Some 0
of_first None = refl
of_first (Some a) = ap Some (omega arith)

member_later : {T : Type 0} (same : T → T → Bool) (xs : List T) (x y : T)
    → is_member same (xs ++ x ∷ []) y ≡ (is_member same xs y || is_member same (x ∷ []) y)
member_later same [] x y = refl
member_later same (z ∷ xs) x y = ap (λ b. same y z || b) (member_later same xs x y) ∙ either (same y z)
  where
    either : (b : Bool) → (b || (is_member same xs y || is_member same (x ∷ []) y))
        ≡ ((b || is_member same xs y) || is_member same (x ∷ []) y)
    either true = refl
    either false = refl

repeats_later : {T : Type 0} (same : T → T → Bool) (xs : List T) (x : T) (items : List (Option T))
    → repeats_at same (xs ++ x ∷ []) items ≡ earlier_of (repeats_at same xs items) (repeats_at same (x ∷ []) items)
repeats_later same xs x [] = refl
repeats_later same xs x (None ∷ items) =
    ap (option_map suc) (repeats_later same xs x items)
    ∙ later (repeats_at same xs items) (repeats_at same (x ∷ []) items)
repeats_later same xs x (Some y ∷ items) =
    ap (λ b. cond b (Some 0) (option_map suc (repeats_at same (xs ++ x ∷ []) items))) (member_later same xs x y)
    ∙ by_tests (repeats_later same xs x items) (is_member same xs y) (is_member same (x ∷ []) y)
  where
    by_tests : repeats_at same (xs ++ x ∷ []) items
        ≡ earlier_of (repeats_at same xs items) (repeats_at same (x ∷ []) items) → (a b : Bool) → cond (a || b) (Some 0) (option_map suc (repeats_at same (xs ++ x ∷ []) items))
        ≡ earlier_of (cond a (Some 0) (option_map suc (repeats_at same xs items)))
        (cond b (Some 0) (option_map suc (repeats_at same (x ∷ []) items)))
    by_tests behind true true = refl
    by_tests behind true false = sym (of_first (repeats_at same (x ∷ []) items))
    by_tests behind false true = sym (first_of (repeats_at same xs items))
    by_tests behind false false =
        ap (option_map suc) behind
        ∙ later (repeats_at same xs items) (repeats_at same (x ∷ []) items)

wrong_from-is : {T : Type 0} (same : T → T → Bool) (earlier : List T) (items : List (Option T))
    → wrong_from same earlier items ≡ earlier_of (repeats_at same earlier items) (first_wrong same items)
wrong_from-is same earlier [] = refl
wrong_from-is same earlier (None ∷ items) = sym (first_of (repeats_at same earlier items))
wrong_from-is same earlier (Some x ∷ items) =
    by_test (wrong_from-is same (earlier ++ x ∷ []) items) (is_member same earlier x)
  where
    own : Option ℕ
    own = earlier_of (repeats_at same (x ∷ []) items) (first_wrong same items)

    by_test : wrong_from same (earlier ++ x ∷ []) items
        ≡ earlier_of (repeats_at same (earlier ++ x ∷ []) items) (first_wrong same items) → (b : Bool)
        → here_or_behind (cond b None (Some x)) (λ y. wrong_from same (earlier ++ y ∷ []) items)
        ≡ earlier_of (cond b (Some 0) (option_map suc (repeats_at same earlier items))) (option_map suc own)
    by_test behind true = sym (of_first own)
    by_test behind false =
        ap (option_map suc) (behind
        ∙ ap (λ a. earlier_of a (first_wrong same items)) (repeats_later same earlier x items)
        ∙ three (repeats_at same earlier items) (repeats_at same (x ∷ []) items) (first_wrong same items))
        ∙ later (repeats_at same earlier items) own

none_repeated : {T : Type 0} (same : T → T → Bool) (items : List (Option T)) → repeats_at same [] items ≡ None
none_repeated same [] = refl
none_repeated same (None ∷ items) = ap (option_map suc) (none_repeated same items)
none_repeated same (Some x ∷ items) = ap (option_map suc) (none_repeated same items)

first_wrong-from : {T : Type 0} (same : T → T → Bool) (items : List (Option T))
    → wrong_from same [] items ≡ first_wrong same items
first_wrong-from same items =
    wrong_from-is same [] items ∙ ap (λ a. earlier_of a (first_wrong same items)) (none_repeated same items)

-- ---- the outcome of a loop

module _ {T P : Type 0} where
  -- the outcome after some items were taken
  abbrev pub after_taken : (ℕ → P) → List T → Option ℕ → List T → Result (List T) P
  after_taken place taken None more = Ok (taken ++ more)
  after_taken place taken (Some i) more = Err (place (length taken + i))

module _ {T P : Type 0} (same : T → T → Bool) (place : ℕ → P) where
  -- the outcome where some items were taken and these are left
  abbrev pub goes_on : List T → List (Option T) → Result (List T) P
  goes_on taken items = after_taken place taken (wrong_from same taken items) (present items)

  none_taken : (wrong : Option ℕ) (more : List T)
      → after_taken place [] wrong more ≡ unless_wrong place wrong more
  none_taken None more = refl
  none_taken (Some i) more = let e : 0 + i ≡ i = omega arith in ap (λ n. Err (place n)) e

  -- before the first item
  pub goes_on-start : (items : List (Option T)) → goes_on [] items ≡ distinct same place items
  goes_on-start items =
      none_taken (wrong_from same [] items) (present items)
      ∙ ap (λ w. unless_wrong place w (present items)) (first_wrong-from same items)

  one_more : (taken : List T) (x : T) (wrong : Option ℕ) (more : List T)
      → after_taken place taken (option_map suc wrong) (x ∷ more)
      ≡ after_taken place (taken ++ x ∷ []) wrong more
  one_more taken x None more = ap Ok (sym (append_assoc taken (x ∷ []) more))
  one_more taken x (Some i) more =
      let e : length taken + suc i
      ≡ length (taken ++ x ∷ []) + i =
      omega (arith, length-append taken (x ∷ [])) in ap (λ n. Err (place n)) e

  -- an item that is fresh has its form
  fresh-some : (taken : List T) (item : Option T) (x : T) → fresh same taken item ≡ Some x
      → (item ≡ Some x) × (is_member same taken x ≡ false)
  fresh-some taken None x h = cc
  fresh-some taken (Some y) x h = by_test (is_member same taken y) refl h
    where
      by_test : (b : Bool) → is_member same taken y ≡ b → cond b None (Some y) ≡ Some x
          → (Some y ≡ Some x) × (is_member same taken x ≡ false)
      by_test true e f = cc
      by_test false e f = (f, let same_item : y ≡ x = cc in ap (is_member same taken) (sym same_item) ∙ e)

  -- a fresh item is taken
  pub goes_on-fresh : (taken : List T) (item : Option T) (items : List (Option T)) (x : T)
      → fresh same taken item ≡ Some x → goes_on taken (item ∷ items) ≡ goes_on (taken ++ x ∷ []) items
  goes_on-fresh taken item items x h =
      let form : item ≡ Some x = (fresh-some taken item x h).0 in
      ap (λ f. after_taken place taken (here_or_behind f (λ y. wrong_from same (taken ++ y ∷ []) items)) (present (item ∷ items)))
      h
      ∙ ap (λ i. after_taken place taken (option_map suc (wrong_from same (taken ++ x ∷ []) items)) (present (i ∷ items)))
      form
      ∙ one_more taken x (wrong_from same (taken ++ x ∷ []) items) (present items)

-- a fresh item of a list of JSON is taken
pub goes_on-item : {T P : Type 0} (same : T → T → Bool) (place : ℕ → P) (form : Value → Option T)
    (items : List Json) (i : ℕ) (item : Json) (taken : List T) (x : T)
    → i < length items → item ≡ get_or items i item → Some x ≡ fresh same taken (form (view item))
    → goes_on same place (taken ++ x ∷ []) (each form (items_view (drop (i + 1) items)))
    ≡ goes_on same place taken (each form (items_view (drop i items)))
goes_on-item same place form items i item taken x lt is new =
    let front : drop i items
    ≡ item ∷ drop (i + 1) items =
    rw add-one (drop-cons items i item lt ∙ ap (λ first. first ∷ drop (suc i) items) (sym is)) in
    sym (ap (λ rest. goes_on same place taken (each form (items_view rest))) front
    ∙ goes_on-fresh same place taken (form (view item)) (each form (items_view (drop (i + 1) items))) x
    (sym new))

-- a fresh item repeats none of those that were taken
pub fresh-is_member : {T : Type 0} (same : T → T → Bool) (taken : List T) (item : Option T) (x : T)
    → fresh same taken item ≡ Some x → is_member same taken x ≡ false
fresh-is_member same taken item x h = (fresh-some same (λ n. n) taken item x h).1

-- ---- what is wrong, and what isn't

or_false : (b : Bool) → (b || false) ≡ b
or_false true = refl
or_false false = refl

or_or : (a b c : Bool) → (a || (b || c)) ≡ ((a || b) || c)
or_or true b c = refl
or_or false b c = refl

-- whether one of some items, or one more, is the same as an item
any_later : {T : Type 0} (same : T → T → Bool) (x y : T) (ys : List T)
    → list_any (λ z. same z y) (ys ++ x ∷ []) ≡ (list_any (λ z. same z y) ys || same x y)
any_later same x y [] = or_false (same x y)
any_later same x y (z ∷ ys) =
    ap (λ b. same z y || b) (any_later same x y ys) ∙ or_or (same z y) (list_any (λ w. same w y) ys) (same x y)

-- one more that none of the earlier is
distinct-push : {T : Type 0} (same : T → T → Bool) (xs : List T) (x : T) → are_distinct same xs ≡ true
    → is_member same xs x ≡ false → are_distinct same (xs ++ x ∷ []) ≡ true
distinct-push same [] x apart new = refl
distinct-push same (y ∷ xs) x apart new =
    ap (λ b. not b && are_distinct same (xs ++ x ∷ [])) (any_later same x y xs)
    ∙ by_tests (distinct-push same xs x) (list_any (λ z. same z y) xs) (are_distinct same xs) refl (same x y)
    (is_member same xs x) refl apart new
  where
    by_tests : (are_distinct same xs ≡ true → is_member same xs x ≡ false → are_distinct same (xs ++ x ∷ []) ≡ true)
        → (a b : Bool) → are_distinct same xs ≡ b → (c d : Bool) → is_member same xs x ≡ d
        → (not a && b) ≡ true → (c || d) ≡ false
        → (not (a || c) && are_distinct same (xs ++ x ∷ [])) ≡ true
    by_tests behind true b eb c d ed h g = cc
    by_tests behind false false eb c d ed h g = cc
    by_tests behind false true eb true d ed h g = cc
    by_tests behind false true eb false true ed h g = cc
    by_tests behind false true eb false false ed h g = behind eb ed

-- the first wrong place behind some items that differ: those in between, the item there, and those behind it
abbrev WrongFrom : {T : Type 0} → (T → T → Bool) → List T → List (Option T) → ℕ → Type 0
WrongFrom {T} same earlier items i =
    (more : List T) × (one : Option T) × (behind : List (Option T))
    × (items ≡ map (λ x. Some x) more ++ one ∷ behind) × (length more ≡ i)
    × (are_distinct same (earlier ++ more) ≡ true) × (fresh same (earlier ++ more) one ≡ None)

-- one item earlier
wrong-earlier : {T : Type 0} (same : T → T → Bool) (earlier : List T) (item : Option T) (items : List (Option T))
    (x : T) (j i : ℕ) → item ≡ Some x → suc j ≡ i → WrongFrom same (earlier ++ x ∷ []) items j
    → WrongFrom same earlier (item ∷ items) i
wrong-earlier same earlier item items x j i is at rest =
    let whole : (earlier ++ x ∷ []) ++ rest.0 ≡ earlier ++ x ∷ rest.0 = append_assoc earlier (x ∷ []) rest.0 in
    let long = rest.4 in (
      x ∷ rest.0,
      rest.1,
      rest.2,
      ap (λ o. o ∷ items) is ∙ ap (λ r. Some x ∷ r) rest.3,
      omega (arith, long, at),
      ap (are_distinct same) (sym whole) ∙ rest.5,
      ap (λ ys. fresh same ys rest.1) (sym whole) ∙ rest.6,
    )

wrong-from_parts : {T : Type 0} (same : T → T → Bool) (earlier : List T) (items : List (Option T)) (i : ℕ)
    → are_distinct same earlier ≡ true → wrong_from same earlier items ≡ Some i → WrongFrom same earlier items i
wrong-from_parts same earlier [] i apart h = cc
wrong-from_parts {T} same earlier (item ∷ items) i apart h =
    by_fresh (λ x j. wrong-from_parts same (earlier ++ x ∷ []) items j) (fresh same earlier item) refl h
  where
    by_behind : ((x : T) (j : ℕ) → are_distinct same (earlier ++ x ∷ []) ≡ true
        → wrong_from same (earlier ++ x ∷ []) items ≡ Some j → WrongFrom same (earlier ++ x ∷ []) items j)
        → (x : T) → item ≡ Some x → is_member same earlier x ≡ false → (w : Option ℕ)
        → wrong_from same (earlier ++ x ∷ []) items ≡ w → option_map suc w ≡ Some i
        → WrongFrom same earlier (item ∷ items) i
    by_behind later x is new None e g = cc
    by_behind later x is new (Some j) e g =
        let at : suc j ≡ i = cc in
        wrong-earlier same earlier item items x j i is at (later x j (distinct-push same earlier x apart new) e)

    by_fresh : ((x : T) (j : ℕ) → are_distinct same (earlier ++ x ∷ []) ≡ true
        → wrong_from same (earlier ++ x ∷ []) items ≡ Some j → WrongFrom same (earlier ++ x ∷ []) items j)
        → (f : Option T) → fresh same earlier item ≡ f
        → here_or_behind f (λ x. wrong_from same (earlier ++ x ∷ []) items) ≡ Some i
        → WrongFrom same earlier (item ∷ items) i
    by_fresh later None e g =
        let at : 0 ≡ i = cc in
        let whole : earlier ++ [] ≡ earlier = append-nil earlier in
        ([], item, items, refl, at, ap (are_distinct same) whole ∙ apart, ap (λ ys. fresh same ys item) whole ∙ e)
    by_fresh later (Some x) e g =
        let parts = fresh-some same (λ n. n) earlier item x e in
        by_behind later x parts.0 parts.1 (wrong_from same (earlier ++ x ∷ []) items) refl g

-- the place is the least that is wrong
pub first_wrong-least : {T : Type 0} (same : T → T → Bool) (items : List (Option T)) (i : ℕ)
    → first_wrong same items ≡ Some i → IsFirstWrong same items i
first_wrong-least same items i h =
    let parts = wrong-from_parts same [] items i refl (first_wrong-from same items ∙ h) in
    record {
      before = parts.0;
      item = parts.1;
      behind = parts.2;
      split = parts.3;
      at = parts.4;
      apart = parts.5;
      wrong = parts.6;
    }

-- where nothing is wrong, all items are well-formed
right-from_parts : {T : Type 0} (same : T → T → Bool) (earlier : List T) (items : List (Option T))
    → are_distinct same earlier ≡ true → wrong_from same earlier items ≡ None
    → (items ≡ map (λ x. Some x) (present items)) × (are_distinct same (earlier ++ present items) ≡ true)
right-from_parts same earlier [] apart h = (refl, ap (are_distinct same) (append-nil earlier) ∙ apart)
right-from_parts {T} same earlier (item ∷ items) apart h =
    by_fresh (λ x. right-from_parts same (earlier ++ x ∷ []) items) (fresh same earlier item) refl h
  where
    no_suc : (w : Option ℕ) → option_map suc w ≡ None → w ≡ None
    no_suc None e = refl
    no_suc (Some i) e = cc

    by_fresh : ((x : T) → are_distinct same (earlier ++ x ∷ []) ≡ true
        → wrong_from same (earlier ++ x ∷ []) items ≡ None
        → (items ≡ map (λ x. Some x) (present items))
        × (are_distinct same ((earlier ++ x ∷ []) ++ present items) ≡ true))
        → (f : Option T) → fresh same earlier item ≡ f
        → here_or_behind f (λ x. wrong_from same (earlier ++ x ∷ []) items) ≡ None
        → (item ∷ items ≡ map (λ x. Some x) (present (item ∷ items)))
        × (are_distinct same (earlier ++ present (item ∷ items)) ≡ true)
    by_fresh later None e g = cc
    by_fresh later (Some x) e g =
        let parts = fresh-some same (λ n. n) earlier item x e in
        let rest = later x (distinct-push same earlier x apart parts.1)
        (no_suc (wrong_from same (earlier ++ x ∷ []) items) g) in
        let shown : present (item ∷ items) ≡ x ∷ present items = ap (λ o. present (o ∷ items)) parts.0 in (
          ap (λ o. o ∷ items) parts.0 ∙ ap (λ r. Some x ∷ r) rest.0 ∙ ap (map (λ y. Some y)) (sym shown),
          ap (λ ys. are_distinct same (earlier ++ ys)) shown
              ∙ ap (are_distinct same) (sym (append_assoc earlier (x ∷ []) (present items))) ∙ rest.1,
        )

pub right_parts : {T : Type 0} (same : T → T → Bool) (items : List (Option T)) → first_wrong same items ≡ None
    → (items ≡ map (λ x. Some x) (present items)) × (are_distinct same (present items) ≡ true)
right_parts same items h = right-from_parts same [] items refl (first_wrong-from same items ∙ h)

-- items that are well-formed and differ
none_again : {T : Type 0} (same : T → T → Bool) (x : T) (xs : List T) → list_any (λ y. same y x) xs ≡ false
    → repeats_at same (x ∷ []) (map (λ y. Some y) xs) ≡ None
none_again same x [] h = refl
none_again same x (y ∷ xs) h = by_tests (none_again same x xs) (same y x) (list_any (λ z. same z x) xs) refl h
  where
    by_tests : (list_any (λ z. same z x) xs ≡ false → repeats_at same (x ∷ []) (map (λ z. Some z) xs) ≡ None)
        → (a b : Bool) → list_any (λ z. same z x) xs ≡ b → (a || b) ≡ false
        → cond (a || false) (Some 0) (option_map suc (repeats_at same (x ∷ []) (map (λ z. Some z) xs))) ≡ None
    by_tests behind true b e g = cc
    by_tests behind false true e g = cc
    by_tests behind false false e g = ap (option_map suc) (behind e)

pub distinct-right : {T : Type 0} (same : T → T → Bool) (xs : List T) → are_distinct same xs ≡ true
    → first_wrong same (map (λ y. Some y) xs) ≡ None
distinct-right same [] h = refl
distinct-right same (x ∷ xs) h =
    by_tests (distinct-right same xs) (list_any (λ y. same y x) xs) refl (are_distinct same xs) refl h
  where
    by_tests : (are_distinct same xs ≡ true → first_wrong same (map (λ y. Some y) xs) ≡ None) → (a : Bool) → list_any (λ y. same y x) xs ≡ a → (b : Bool) → are_distinct same xs ≡ b
        → (not a && b) ≡ true
        → option_map suc (earlier_of (repeats_at same (x ∷ []) (map (λ y. Some y) xs))
        (first_wrong same (map (λ y. Some y) xs))) ≡ None
    by_tests behind true e b g h = cc
    by_tests behind false e false g h = cc
    by_tests behind false e true g h = rw (none_again same x xs e, behind g) refl

pub present-all : {T : Type 0} (xs : List T) → present (map (λ y. Some y) xs) ≡ xs
present-all [] = refl
present-all (x ∷ xs) = ap (λ ys. x ∷ ys) (present-all xs)
