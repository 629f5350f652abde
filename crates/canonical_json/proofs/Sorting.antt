-- A sort of members with names that differ puts them in order.
use Rattle.std.proofs.Common.{IsUtf8, bytes_eq, not, Bool, ◌||◌, ◌≡◌, ◌≢◌, ℕ, zero, suc, ◌+◌, ◌<◌, true, false, List, [], ◌∷◌, length, get_or, set, Ordering, Less, Equal, Greater, refl, sym, ap, ◌∙◌, subst, arith, true≢false}
use Rattle.std.proofs.lemmas.Bool.{and_from, and_parts, or_parts}
use Rattle.std.proofs.lemmas.Cmp.{tied_itself, tied_back}
use Rattle.std.proofs.lemmas.Slice.Eq.{bytes_eq-Decides}
use Rattle.std.proofs.lemmas.List.Sorted.{IsPermutation-keeps, IsPermutation-sym}
use Rattle.std.specs.List.Sorted.{IsPermutation}
use Rattle.std.specs.List.{swap}
use Rattle.std.specs.Ordering.{is_lt}
use Rattle.canonical_json.specs.Value.{Members, no_members, member}
use Rattle.canonical_json.specs.View.{member_view, members_view}
use Rattle.canonical_json.specs.Name.{name_cmp, comes_before, names_rise, IsApart, AreApart, put, put_all, in_order}
use Rattle.canonical_json.specs.Lawful.{HasTexts, MembersHaveTexts}
use Rattle.canonical_json.specs.Reading.{has_name, repeats, names_of}
use Rattle.canonical_json.specs.declared.value.Member.{Member}
use Rattle.canonical_json.proofs.Units.{name_cmp_same_name}
use Rattle.canonical_json.proofs.Order.{order, turned, is_lt-Less, put_all-names_rise}
use Rattle.canonical_json.proofs.Order.{swap as put_swap}

apart_back : (a b : List ℕ) → name_cmp a b ≢ Equal → name_cmp b a ≢ Equal
apart_back a b apart e = apart (tied_back order b a e)

-- ---- one exchange

IsApart-set : (k : List ℕ) (xs : List Member) (n : ℕ) (x : Member) → IsApart k (members_view xs) → name_cmp k (member_view x).0 ≢ Equal → IsApart k (members_view (set xs n x))
IsApart-set k [] n x apart other = tt
IsApart-set k (y ∷ ys) zero x apart other = (other, apart.1)
IsApart-set k (y ∷ ys) (suc n) x apart other = (apart.0, IsApart-set k ys n x apart.1 other)

IsApart-get_or : (k : List ℕ) (xs : List Member) (n : ℕ) (d : Member) → IsApart k (members_view xs) → n < length xs → name_cmp k (member_view (get_or xs n d)).0 ≢ Equal
IsApart-get_or k [] n d apart h = absurd (omega arith)
IsApart-get_or k (y ∷ ys) zero d apart h = apart.0
IsApart-get_or k (y ∷ ys) (suc n) d apart h = IsApart-get_or k ys n d apart.1 (omega arith)

-- x takes the place of the n-th, which comes to the front
IsApart-front : (x : Member) (xs : List Member) (n : ℕ) (d : Member) → IsApart (member_view x).0 (members_view xs) → AreApart (members_view xs) → n < length xs
    → IsApart (member_view (get_or xs n d)).0 (members_view (set xs n x))
IsApart-front x [] n d apart are h = absurd (omega arith)
IsApart-front x (y ∷ ys) zero d apart are h = (apart_back (member_view x).0 (member_view y).0 apart.0, are.0)
IsApart-front x (y ∷ ys) (suc n) d apart are h =
    (apart_back (member_view y).0 (member_view (get_or ys n d)).0 (IsApart-get_or (member_view y).0 ys n d are.0 (omega arith)), IsApart-front x ys n d apart.1 are.1 (omega arith))

AreApart-set : (x : Member) (xs : List Member) (n : ℕ) → IsApart (member_view x).0 (members_view xs) → AreApart (members_view xs) → AreApart (members_view (set xs n x))
AreApart-set x [] n apart are = tt
AreApart-set x (y ∷ ys) zero apart are = (apart.1, are.1)
AreApart-set x (y ∷ ys) (suc n) apart are = (IsApart-set (member_view y).0 ys n x are.0 (apart_back (member_view x).0 (member_view y).0 apart.0), AreApart-set x ys n apart.1 are.1)

put_all-front : (x : Member) (xs : List Member) (n : ℕ) (d : Member) (rows : Members) → IsApart (member_view x).0 (members_view xs) → AreApart (members_view xs) → n < length xs
    → put_all (members_view (get_or xs n d ∷ set xs n x)) rows ≡ put_all (members_view (x ∷ xs)) rows
put_all-front x [] n d rows apart are h = absurd (omega arith)
put_all-front x (y ∷ ys) zero d rows apart are h =
    ap (put_all (members_view ys)) (put_swap (member_view x).0 (member_view y).0 (member_view x).1 (member_view y).1 rows apart.0)
put_all-front x (y ∷ ys) (suc n) d rows apart are h =
    let z = get_or ys n d in
    let other = IsApart-get_or (member_view y).0 ys n d are.0 (omega arith) in
    ap (put_all (members_view (set ys n x))) (put_swap (member_view y).0 (member_view z).0 (member_view y).1 (member_view z).1 rows other)
    ∙ put_all-front x ys n d (put (member_view y).0 (member_view y).1 rows) apart.1 are.1 (omega arith)
    ∙ ap (put_all (members_view ys)) (put_swap (member_view x).0 (member_view y).0 (member_view x).1 (member_view y).1 rows apart.0)

-- the i-th and the j-th in each other's place
abbrev exchanged : Member → List Member → ℕ → ℕ → List Member
exchanged d xs i j = set (set xs i (get_or xs j d)) j (get_or xs i d)

IsApart-exchanged : (k : List ℕ) (d : Member) (xs : List Member) (i j : ℕ) → i < length xs → j < length xs → IsApart k (members_view xs) → IsApart k (members_view (exchanged d xs i j))
IsApart-exchanged k d xs i j p q apart =
    IsApart-set k (set xs i (get_or xs j d)) j (get_or xs i d) (IsApart-set k xs i (get_or xs j d) apart (IsApart-get_or k xs j d apart q)) (IsApart-get_or k xs i d apart p)

AreApart-exchanged : (d : Member) (xs : List Member) (i j : ℕ) → i < length xs → j < length xs → AreApart (members_view xs) → AreApart (members_view (exchanged d xs i j))
AreApart-exchanged d [] i j p q are = absurd (omega arith)
AreApart-exchanged d (x ∷ xs) zero zero p q are = are
AreApart-exchanged d (x ∷ xs) zero (suc j) p q are = (IsApart-front x xs j d are.0 are.1 (omega arith), AreApart-set x xs j are.0 are.1)
AreApart-exchanged d (x ∷ xs) (suc i) zero p q are = (IsApart-front x xs i d are.0 are.1 (omega arith), AreApart-set x xs i are.0 are.1)
AreApart-exchanged d (x ∷ xs) (suc i) (suc j) p q are =
    (IsApart-exchanged (member_view x).0 d xs i j (omega arith) (omega arith) are.0, AreApart-exchanged d xs i j (omega arith) (omega arith) are.1)

put_all-exchanged : (d : Member) (xs : List Member) (i j : ℕ) (rows : Members) → i < length xs → j < length xs → AreApart (members_view xs)
    → put_all (members_view (exchanged d xs i j)) rows ≡ put_all (members_view xs) rows
put_all-exchanged d [] i j rows p q are = absurd (omega arith)
put_all-exchanged d (x ∷ xs) zero zero rows p q are = refl
put_all-exchanged d (x ∷ xs) zero (suc j) rows p q are = put_all-front x xs j d rows are.0 are.1 (omega arith)
put_all-exchanged d (x ∷ xs) (suc i) zero rows p q are = put_all-front x xs i d rows are.0 are.1 (omega arith)
put_all-exchanged d (x ∷ xs) (suc i) (suc j) rows p q are = put_all-exchanged d xs i j (put (member_view x).0 (member_view x).1 rows) (omega arith) (omega arith) are.1

-- ---- a sort

-- an order of the same members
record Keeps (ms : Members) (xs : List Member) : Type 0 where
  apart : AreApart (members_view xs)
  ordered : in_order (members_view xs) ≡ ms

Keeps-swap : (ms : Members) (xs : List Member) (i j : ℕ) → i < length xs → j < length xs → Keeps ms xs → Keeps ms (swap xs i j)
Keeps-swap ms [] i j p q keeps = keeps
Keeps-swap ms (x ∷ xs) i j p q keeps = record {
  apart = AreApart-exchanged x (x ∷ xs) i j p q keeps.apart;
  ordered = put_all-exchanged x (x ∷ xs) i j no_members p q keeps.apart ∙ keeps.ordered;
}

names_rise-sorted : (xs : List Member) → AreApart (members_view xs) → ((k : ℕ) (d : Member) → k + 1 < length xs → is_lt (name_cmp (member_view (get_or xs (k + 1) d)).0 (member_view (get_or xs k d)).0) ≡ false)
    → names_rise (members_view xs) ≡ true
names_rise-sorted [] are sorted = refl
names_rise-sorted (x ∷ []) are sorted = refl
names_rise-sorted (x ∷ y ∷ ys) are sorted =
    and_from _ _ (by (name_cmp (member_view x).0 (member_view y).0) refl) (names_rise-sorted (y ∷ ys) are.1 (λ k d h. later k d h))
  where
    by : (o : Ordering) → name_cmp (member_view x).0 (member_view y).0 ≡ o → is_lt (name_cmp (member_view x).0 (member_view y).0) ≡ true
    by Less e = ap is_lt e
    by Equal e = absurd (are.0.0 e)
    by Greater e = absurd (true≢false (sym (ap is_lt (turned (member_view x).0 (member_view y).0 e)) ∙ sorted 0 x (omega arith)))

    later : (k : ℕ) (d : Member) → k + 1 < length (y ∷ ys) → is_lt (name_cmp (member_view (get_or (y ∷ ys) (k + 1) d)).0 (member_view (get_or (y ∷ ys) k d)).0) ≡ false
    later k d h =
        let one : suc k + 1 ≡ suc (k + 1) = omega arith in
        subst (λ n. is_lt (name_cmp (member_view (get_or (x ∷ y ∷ ys) n d)).0 (member_view (get_or (y ∷ ys) k d)).0) ≡ false) one (sorted (suc k) d (omega arith))

pub risen_in_order : (xs ys : List Member) → AreApart (members_view xs) → IsPermutation xs ys → names_rise (members_view ys) ≡ true → members_view ys ≡ in_order (members_view xs)
risen_in_order xs ys are moved rise =
    let keeps = IsPermutation-keeps xs (Keeps (in_order (members_view xs))) (record { apart = are; ordered = refl }) (λ l i j. Keeps-swap (in_order (members_view xs)) l i j) ys moved in
    sym (put_all-names_rise (members_view ys) rise) ∙ keeps.ordered

-- ---- names that come once

-- as long as the names differ by their code units, they differ
no_name : (k : List ℕ) (ms : Members) → IsApart k ms → has_name k (names_of ms) ≡ false
no_name k no_members apart = refl
no_name k (member l v ms) apart = by (no_name k ms apart.1) (bytes_eq l k) refl
  where
    by : has_name k (names_of ms) ≡ false → (b : Bool) → bytes_eq l k ≡ b → has_name k (names_of (member l v ms)) ≡ false
    by none true e = absurd (apart.0 (subst (λ n. name_cmp k n ≡ Equal) (sym ((bytes_eq-Decides l k).0 e)) (tied_itself order k)))
    by none false e = ap (λ b. b || has_name k (names_of ms)) e ∙ none

pub repeats-apart : (ms : Members) → AreApart ms → repeats (names_of ms) ≡ false
repeats-apart no_members apart = refl
repeats-apart (member k v ms) apart = ap (λ b. b || repeats (names_of ms)) (no_name k ms apart.0) ∙ repeats-apart ms apart.1

-- and the other way round, for names in UTF-8
IsApart-no_name : (k : List ℕ) (ms : Members) → IsUtf8 k → MembersHaveTexts ms → has_name k (names_of ms) ≡ false → IsApart k ms
IsApart-no_name k no_members u texts none = tt
IsApart-no_name k (member l v ms) u texts none =
    let p = or_parts (bytes_eq l k) (has_name k (names_of ms)) none in
    (λ e. true≢false (sym ((bytes_eq-Decides l k).1 (sym (name_cmp_same_name k l u texts.0 e))) ∙ p.0), IsApart-no_name k ms u texts.2 p.1)

pub AreApart-repeats : (ms : Members) → MembersHaveTexts ms → repeats (names_of ms) ≡ false → AreApart ms
AreApart-repeats no_members texts none = tt
AreApart-repeats (member k v ms) texts none =
    let p = or_parts (has_name k (names_of ms)) (repeats (names_of ms)) none in
    (IsApart-no_name k ms texts.0 texts.2 p.0, AreApart-repeats ms texts.2 p.1)

-- names that rise differ
IsApart-above : (j k : List ℕ) (ms : Members) → name_cmp j k ≡ Less → comes_before k ms ≡ true → names_rise ms ≡ true → IsApart j ms
IsApart-above j k no_members less before rise = tt
IsApart-above j k (member l v ms) less before rise =
    let next = order.trans j k l less (is_lt-Less (name_cmp k l) before) in
    let p = and_parts (comes_before l ms) (names_rise ms) rise in
    (λ e. true≢false (sym (ap is_lt next) ∙ ap is_lt e), IsApart-above j l ms next p.0 p.1)

IsApart-first : (k : List ℕ) (ms : Members) → comes_before k ms ≡ true → names_rise ms ≡ true → IsApart k ms
IsApart-first k no_members before rise = tt
IsApart-first k (member l v ms) before rise =
    let next = is_lt-Less (name_cmp k l) before in
    let p = and_parts (comes_before l ms) (names_rise ms) rise in
    (λ e. true≢false (sym (ap is_lt next) ∙ ap is_lt e), IsApart-above k l ms next p.0 p.1)

pub AreApart-rise : (ms : Members) → names_rise ms ≡ true → AreApart ms
AreApart-rise no_members rise = tt
AreApart-rise (member k v ms) rise =
    let p = and_parts (comes_before k ms) (names_rise ms) rise in (IsApart-first k ms p.0 p.1, AreApart-rise ms p.1)

AreApart-swap : (xs : List Member) (i j : ℕ) → i < length xs → j < length xs → AreApart (members_view xs) → AreApart (members_view (swap xs i j))
AreApart-swap [] i j p q are = are
AreApart-swap (x ∷ xs) i j p q are = AreApart-exchanged x (x ∷ xs) i j p q are

pub AreApart-permutation : (xs ys : List Member) → IsPermutation xs ys → AreApart (members_view xs) → AreApart (members_view ys)
AreApart-permutation xs ys moved are = IsPermutation-keeps xs (λ l. AreApart (members_view l)) are AreApart-swap ys moved

-- ---- what a sort says of the names

-- ys has the members of xs, and its names rise
module _ (xs ys : List Member) (moved : IsPermutation xs ys) (rise : names_rise (members_view ys) ≡ true) where
  apart_if_risen : AreApart (members_view xs)
  apart_if_risen = AreApart-permutation ys xs (IsPermutation-sym xs ys moved) (AreApart-rise (members_view ys) rise)

  pub none_repeats : true ≡ not (repeats (names_of (members_view xs)))
  none_repeats = ap not (sym (repeats-apart (members_view xs) apart_if_risen))

  pub in_order_if_risen : members_view ys ≡ in_order (members_view xs)
  in_order_if_risen = risen_in_order xs ys apart_if_risen moved rise

-- ys is xs sorted
pub rise_if_apart : (xs ys : List Member) → MembersHaveTexts (members_view xs) → IsPermutation xs ys
    → ((k : ℕ) (d : Member) → k + 1 < length ys → is_lt (name_cmp (member_view (get_or ys (k + 1) d)).0 (member_view (get_or ys k d)).0) ≡ false)
    → (b : Bool) → names_rise (members_view ys) ≡ b → b ≡ not (repeats (names_of (members_view xs)))
rise_if_apart xs ys texts moved sorted true e = none_repeats xs ys moved e
rise_if_apart xs ys texts moved sorted false e = by (repeats (names_of (members_view xs))) refl
  where
    by : (r : Bool) → repeats (names_of (members_view xs)) ≡ r → false ≡ not (repeats (names_of (members_view xs)))
    by true f = ap not (sym f)
    by false f =
        absurd (true≢false (sym (names_rise-sorted ys (AreApart-permutation xs ys moved (AreApart-repeats (members_view xs) texts f)) sorted) ∙ e))

-- ---- texts of members in another order

MembersHaveTexts-get_or : (xs : List Member) (n : ℕ) (d : Member) → MembersHaveTexts (members_view xs) → n < length xs → IsUtf8 (member_view (get_or xs n d)).0 × HasTexts (member_view (get_or xs n d)).1
MembersHaveTexts-get_or [] n d t h = absurd (omega arith)
MembersHaveTexts-get_or (x ∷ xs) zero d t h = (t.0, t.1)
MembersHaveTexts-get_or (x ∷ xs) (suc n) d t h = MembersHaveTexts-get_or xs n d t.2 (omega arith)

MembersHaveTexts-set : (xs : List Member) (n : ℕ) (x : Member) → IsUtf8 (member_view x).0 → HasTexts (member_view x).1 → MembersHaveTexts (members_view xs) → MembersHaveTexts (members_view (set xs n x))
MembersHaveTexts-set [] n x u v t = t
MembersHaveTexts-set (y ∷ ys) zero x u v t = (u, v, t.2)
MembersHaveTexts-set (y ∷ ys) (suc n) x u v t = (t.0, t.1, MembersHaveTexts-set ys n x u v t.2)

MembersHaveTexts-swap : (xs : List Member) (i j : ℕ) → i < length xs → j < length xs → MembersHaveTexts (members_view xs) → MembersHaveTexts (members_view (swap xs i j))
MembersHaveTexts-swap [] i j p q t = t
MembersHaveTexts-swap (x ∷ xs) i j p q t =
    let all = x ∷ xs in
    let first = MembersHaveTexts-get_or all i x t p in
    let second = MembersHaveTexts-get_or all j x t q in
    MembersHaveTexts-set (set all i (get_or all j x)) j (get_or all i x) first.0 first.1 (MembersHaveTexts-set all i (get_or all j x) second.0 second.1 t)

pub MembersHaveTexts-permutation : (xs ys : List Member) → IsPermutation xs ys → MembersHaveTexts (members_view xs) → MembersHaveTexts (members_view ys)
MembersHaveTexts-permutation xs ys moved t = IsPermutation-keeps xs (λ l. MembersHaveTexts (members_view l)) t MembersHaveTexts-swap ys moved
