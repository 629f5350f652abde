-- The order of names, and members put among others by it.
use Rattle.std.proofs.Common.{◌≡◌, ℕ, true, List, Ordering, Less, Equal, Greater, refl, sym, ap, ◌∙◌, true≢false}
use Rattle.std.proofs.lemmas.Bool.{and_parts, and_from}
use Rattle.std.proofs.lemmas.Cmp.{nat_list_cmp_total, on_total, tied_back}
use Rattle.std.specs.Cmp.{IsTotalOrder}
use Rattle.std.specs.Ordering.{match_ordering, ordering_reverse, is_lt}
use Rattle.canonical_json.specs.Value.{Value, Members, no_members, member}
use Rattle.canonical_json.specs.Name.{units, name_cmp, comes_before, names_rise, IsApart, put, put_all}

pub order : IsTotalOrder name_cmp
unfolding name_cmp
order = on_total units nat_list_cmp_total

pub turned : (a b : List ℕ) → name_cmp a b ≡ Greater → name_cmp b a ≡ Less
turned a b e = order.antisymm b a ∙ ap ordering_reverse e

pub back : (a b : List ℕ) → name_cmp a b ≡ Less → name_cmp b a ≡ Greater
back a b e = order.antisymm b a ∙ ap ordering_reverse e

pub greater_trans : (a b c : List ℕ) → name_cmp a b ≡ Greater → name_cmp b c ≡ Greater → name_cmp a c ≡ Greater
greater_trans a b c p q = back c a (order.trans c b a (turned b c q) (turned a b p))

pub is_lt-Less : (o : Ordering) → is_lt o ≡ true → o ≡ Less
is_lt-Less Less e = refl
is_lt-Less Equal e = absurd (true≢false (sym e))
is_lt-Less Greater e = absurd (true≢false (sym e))

-- ---- a name among members

pub put-Less : (k : List ℕ) (v : Value) (l : List ℕ) (w : Value) (ms : Members) → name_cmp k l ≡ Less → put k v (member l w ms) ≡ member k v (member l w ms)
put-Less k v l w ms e = ap (λ o. match_ordering o (member k v (member l w ms)) (member l v ms) (member l w (put k v ms))) e

pub put-Equal : (k : List ℕ) (v : Value) (l : List ℕ) (w : Value) (ms : Members) → name_cmp k l ≡ Equal → put k v (member l w ms) ≡ member l v ms
put-Equal k v l w ms e = ap (λ o. match_ordering o (member k v (member l w ms)) (member l v ms) (member l w (put k v ms))) e

pub put-Greater : (k : List ℕ) (v : Value) (l : List ℕ) (w : Value) (ms : Members) → name_cmp k l ≡ Greater → put k v (member l w ms) ≡ member l w (put k v ms)
put-Greater k v l w ms e = ap (λ o. match_ordering o (member k v (member l w ms)) (member l v ms) (member l w (put k v ms))) e

comes_before-put : (j k : List ℕ) (v : Value) (ms : Members) → name_cmp j k ≡ Less → comes_before j ms ≡ true → comes_before j (put k v ms) ≡ true
comes_before-put j k v no_members less e = ap is_lt less
comes_before-put j k v (member l w ms) less e = by (name_cmp k l) refl
  where
    by : (o : Ordering) → name_cmp k l ≡ o → comes_before j (put k v (member l w ms)) ≡ true
    by Less p = ap (comes_before j) (put-Less k v l w ms p) ∙ ap is_lt less
    by Equal p = ap (comes_before j) (put-Equal k v l w ms p) ∙ e
    by Greater p = ap (comes_before j) (put-Greater k v l w ms p) ∙ e

-- members in order stay so
pub names_rise-put : (k : List ℕ) (v : Value) (ms : Members) → names_rise ms ≡ true → names_rise (put k v ms) ≡ true
names_rise-put k v no_members e = refl
names_rise-put k v (member l w ms) e =
    let parts = and_parts (comes_before l ms) (names_rise ms) e in by parts.0 (names_rise-put k v ms parts.1) (name_cmp k l) refl
  where
    by : comes_before l ms ≡ true → names_rise (put k v ms) ≡ true → (o : Ordering) → name_cmp k l ≡ o → names_rise (put k v (member l w ms)) ≡ true
    by first rest Less p = ap names_rise (put-Less k v l w ms p) ∙ and_from _ _ (ap is_lt p) e
    by first rest Equal p = ap names_rise (put-Equal k v l w ms p) ∙ e
    by first rest Greater p = ap names_rise (put-Greater k v l w ms p) ∙ and_from _ _ (comes_before-put l k v ms (turned k l p) first) rest

pub names_rise-put_all : (ms rows : Members) → names_rise rows ≡ true → names_rise (put_all ms rows) ≡ true
names_rise-put_all no_members rows e = e
names_rise-put_all (member k v ms) rows e = names_rise-put_all ms (put k v rows) (names_rise-put k v rows e)

-- ---- two names that differ go in by either order

pub swap : (k l : List ℕ) (v w : Value) (ms : Members) → (name_cmp k l ≡ Equal → ⊥) → put k v (put l w ms) ≡ put l w (put k v ms)
swap k l v w no_members apart = by (name_cmp k l) refl
  where
    by : (o : Ordering) → name_cmp k l ≡ o → put k v (member l w no_members) ≡ put l w (member k v no_members)
    by Less p = put-Less k v l w no_members p ∙ sym (put-Greater l w k v no_members (back k l p))
    by Equal p = absurd (apart p)
    by Greater p = put-Greater k v l w no_members p ∙ sym (put-Less l w k v no_members (turned k l p))
swap k l v w (member m x ms) apart = by (swap k l v w ms apart) (name_cmp k l) (name_cmp l m) (name_cmp k m) refl refl refl
  where
    by : put k v (put l w ms) ≡ put l w (put k v ms) → (o p q : Ordering) → name_cmp k l ≡ o → name_cmp l m ≡ p → name_cmp k m ≡ q → put k v (put l w (member m x ms)) ≡ put l w (put k v (member m x ms))
    by ih Equal p q h i j = absurd (apart h)
    by ih Less Less q h i j =
        let r : name_cmp k m ≡ Less = order.trans k l m h i in
        ap (put k v) (put-Less l w m x ms i) ∙ put-Less k v l w (member m x ms) h
        ∙ sym (ap (put l w) (put-Less k v m x ms r) ∙ put-Greater l w k v (member m x ms) (back k l h) ∙ ap (member k v) (put-Less l w m x ms i))
    by ih Greater Less Less h i j =
        ap (put k v) (put-Less l w m x ms i) ∙ put-Greater k v l w (member m x ms) h ∙ ap (member l w) (put-Less k v m x ms j)
        ∙ sym (ap (put l w) (put-Less k v m x ms j) ∙ put-Less l w k v (member m x ms) (turned k l h))
    by ih Greater Less Equal h i j =
        ap (put k v) (put-Less l w m x ms i) ∙ put-Greater k v l w (member m x ms) h ∙ ap (member l w) (put-Equal k v m x ms j)
        ∙ sym (ap (put l w) (put-Equal k v m x ms j) ∙ put-Less l w m v ms i)
    by ih Greater Less Greater h i j =
        ap (put k v) (put-Less l w m x ms i) ∙ put-Greater k v l w (member m x ms) h ∙ ap (member l w) (put-Greater k v m x ms j)
        ∙ sym (ap (put l w) (put-Greater k v m x ms j) ∙ put-Less l w m x (put k v ms) i)
    by ih o Equal Less h i j =
        let r : name_cmp l k ≡ Greater = order.congr l m k i ∙ back k m j in
        ap (put k v) (put-Equal l w m x ms i) ∙ put-Less k v m w ms j
        ∙ sym (ap (put l w) (put-Less k v m x ms j) ∙ put-Greater l w k v (member m x ms) r ∙ ap (member k v) (put-Equal l w m x ms i))
    by ih o Equal Equal h i j = absurd (apart (order.congr k m l j ∙ tied_back order l m i))
    by ih o Equal Greater h i j =
        ap (put k v) (put-Equal l w m x ms i) ∙ put-Greater k v m w ms j
        ∙ sym (ap (put l w) (put-Greater k v m x ms j) ∙ put-Equal l w m x (put k v ms) i)
    by ih o Greater Less h i j =
        let r : name_cmp l k ≡ Greater = greater_trans l m k i (back k m j) in
        ap (put k v) (put-Greater l w m x ms i) ∙ put-Less k v m x (put l w ms) j
        ∙ sym (ap (put l w) (put-Less k v m x ms j) ∙ put-Greater l w k v (member m x ms) r ∙ ap (member k v) (put-Greater l w m x ms i))
    by ih o Greater Equal h i j =
        ap (put k v) (put-Greater l w m x ms i) ∙ put-Equal k v m x (put l w ms) j
        ∙ sym (ap (put l w) (put-Equal k v m x ms j) ∙ put-Greater l w m v ms i)
    by ih o Greater Greater h i j =
        ap (put k v) (put-Greater l w m x ms i) ∙ put-Greater k v m x (put l w ms) j ∙ ap (member m x) ih
        ∙ sym (ap (put l w) (put-Greater k v m x ms j) ∙ put-Greater l w m x (put k v ms) i)

pub put_all-put : (ms rows : Members) (k : List ℕ) (v : Value) → IsApart k ms → put_all ms (put k v rows) ≡ put k v (put_all ms rows)
put_all-put no_members rows k v apart = refl
put_all-put (member l w ms) rows k v apart =
    ap (put_all ms) (swap l k w v rows (λ e. apart.0 (tied_back order l k e))) ∙ put_all-put ms (put l w rows) k v apart.1

-- ---- members that rise are in order already

abbrev pub then : Members → Members → Members
then no_members later = later
then (member k v ms) later = member k v (then ms later)

then-then : (xs ys zs : Members) → then (then xs ys) zs ≡ then xs (then ys zs)
then-then no_members ys zs = refl
then-then (member k v xs) ys zs = ap (member k v) (then-then xs ys zs)

-- the name is above that of each member
abbrev pub Above : List ℕ → Members → Type 0
Above k no_members = Unit {0}
Above k (member l w ms) = (name_cmp l k ≡ Less) × Above k ms

Above-trans : (j k : List ℕ) (ms : Members) → name_cmp j k ≡ Less → Above j ms → Above k ms
Above-trans j k no_members less above = tt
Above-trans j k (member l w ms) less above = (order.trans l j k above.0 less, Above-trans j k ms less above.1)

Above-then : (k : List ℕ) (xs ys : Members) → Above k xs → Above k ys → Above k (then xs ys)
Above-then k no_members ys p q = q
Above-then k (member l w xs) ys p q = (p.0, Above-then k xs ys p.1 q)

put-last : (k : List ℕ) (v : Value) (ms : Members) → Above k ms → put k v ms ≡ then ms (member k v no_members)
put-last k v no_members above = refl
put-last k v (member l w ms) above = put-Greater k v l w ms (back l k above.0) ∙ ap (member l w) (put-last k v ms above.1)

-- the first of the members is above those that are there
abbrev FirstAbove : Members → Members → Type 0
FirstAbove rows no_members = Unit {0}
FirstAbove rows (member k v ms) = Above k rows

next_above : (rows : Members) (k : List ℕ) (v : Value) (ms : Members) → Above k rows → comes_before k ms ≡ true → FirstAbove (then rows (member k v no_members)) ms
next_above rows k v no_members above e = tt
next_above rows k v (member l w ms) above e =
    let less = is_lt-Less (name_cmp k l) e in Above-then l rows (member k v no_members) (Above-trans k l rows less above) (less, tt)

put_all-rise : (ms rows : Members) → names_rise ms ≡ true → FirstAbove rows ms → put_all ms rows ≡ then rows ms
put_all-rise no_members rows e above = sym (then-none rows)
  where
    then-none : (rows : Members) → then rows no_members ≡ rows
    then-none no_members = refl
    then-none (member k v ms) = ap (member k v) (then-none ms)
put_all-rise (member k v ms) rows e above =
    let parts = and_parts (comes_before k ms) (names_rise ms) e in
    ap (put_all ms) (put-last k v rows above) ∙ put_all-rise ms (then rows (member k v no_members)) parts.1 (next_above rows k v ms above parts.0)
    ∙ then-then rows (member k v no_members) ms

pub put_all-names_rise : (ms : Members) → names_rise ms ≡ true → put_all ms no_members ≡ ms
put_all-names_rise ms e = put_all-rise ms no_members e (none ms)
  where
    none : (ms : Members) → FirstAbove no_members ms
    none no_members = tt
    none (member k v ms) = tt
