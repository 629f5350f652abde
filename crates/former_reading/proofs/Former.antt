-- What was read before decimals, with each name once, is read alike.
use Rattle.std.proofs.Common.{◌≡◌, ◌≢◌, ℕ, pos, zero, suc, ◌^◌, ◌≤◌, ◌&&◌, ◌||◌, ◌==◌, Bool, true, false, not, cond, nat_lt, nat_le, List, [], ◌∷◌, length, drop, slice_index, Option, Some, None, Ok, Err, Result, option_map, option_and_then, unwrap_or, Ordering, Less, Equal, Greater, nat_cmp, refl, sym, ap, ap₂, ◌∙◌, subst, arith, true≢false, lt-ltb}
use Rattle.std.proofs.lemmas.Bool.{and_parts, or_parts, le-leb, ltb-false}
use Rattle.std.proofs.lemmas.Cmp.{tied_itself, tied_back}
use Rattle.std.proofs.lemmas.Map.Text.{is_eq-slice_cmp}
use Rattle.std.proofs.lemmas.Slice.Eq.{bytes_eq-Decides}
use Rattle.std.proofs.lemmas.Str.{is_utf8-from_IsUtf8}
use Rattle.std.specs.Ordering.{match_ordering, is_eq}
use Rattle.std.specs.Cmp.Lexicographic.{slice_cmp}
use Rattle.std.specs.Float.{binary64, float_is_finite}
use Rattle.fast_float.specs.Text.{minus, Parts, scan, digits_of, nearest, with_sign}
use Rattle.json.specs.Lex.{tokens}
use Rattle.json.specs.Json as json
use Rattle.json.specs.Strict.{keys}
use Rattle.serde_json.specs.Data as reading
use Rattle.serde_json.specs.Data.{Data, Num, unsigned, negative, float}
use Rattle.serde_json.specs.Find.{is_float}
use Rattle.serde_json.specs.Read.{number_of, number_from, float_of, is_integer, of_json, of_items, of_members}
use Rattle.serde_json.specs.Written.{has_float, items_have_float, members_have_float}
use Rattle.canonical_json.specs.Value.{Value, int, list, object, item, Members, no_members, member}
use Rattle.canonical_json.specs.Name.{name_cmp, IsApart, AreApart, put, put_all}
use Rattle.canonical_json.specs.Lawful.{is_out_of_range}
use Rattle.canonical_json.specs.Number.{lowest, greatest, exact, from_parts, number_in, is_fraction, is_big, fails_by_fraction, fails_by_range, or_null}
use Rattle.canonical_json.specs.Reading.{tree_of, has_repeated, items_have_repeated, members_have_repeated, repeats, names_of, has_number, items_have_number, members_have_number, value_of, values_of_items, members_of_members, Reads, HasNamesOnce, ItemsHaveNamesOnce, MembersHaveNamesOnce, NamesOnce}
use Rattle.canonical_json.specs.declared.fault.ReadError.{ReadError}
use Rattle.canonical_json.specs.declared.fault.ReadError.TheVariants.{Fraction, Range}
use Rattle.former_reading.specs.Former as former
use Rattle.former_reading.specs.Former.{FormerlyReads}
use Rattle.canonical_json.proofs.Order.{order, put_all-put}
use Rattle.canonical_json.proofs.Sorting.{repeats-apart}
use Rattle.canonical_json.proofs.Readings.{value_in_tree-none}
use Rattle.canonical_json.proofs.Trees.{value_in-tree}

-- ---- numbers

no_fraction : (b : Bool) (xs : List ℕ) → b ≡ false → length (cond b xs []) ≡ 0
no_fraction true xs e = absurd (true≢false e)
no_fraction false xs e = refl

scan-no_point : (bs : List ℕ) → (scan bs).point ≡ false → length (scan bs).fraction ≡ 0
unfolding scan
scan-no_point bs e = no_fraction _ _ e

not-true : (b : Bool) → not b ≡ true → b ≡ false
not-true true e = absurd (true≢false (sym e))
not-true false e = refl

-- a numeral without a point and an exponent, in range
from_integer : (sign : Bool) (bs : List ℕ) → is_integer (scan bs) ≡ true → digits_of (scan bs) ≤ greatest → from_parts sign (scan bs) ≡ Ok (int (with_sign sign (digits_of (scan bs))))
from_integer sign bs whole small =
    let p = and_parts (nat_lt 0 (length (scan bs).whole) && not (scan bs).point) (length (scan bs).exponent == 0) whole in
    let q = and_parts (nat_lt 0 (length (scan bs).whole)) (not (scan bs).point) p.0 in
    let n = digits_of (scan bs) in
    ap (λ b. cond b (exact sign (lowest n (length (scan bs).fraction))) (Err Fraction)) p.1
    ∙ ap (λ k. exact sign (lowest n k)) (scan-no_point bs (not-true _ q.1))
    ∙ ap (λ b. cond b (Ok (int (with_sign sign n))) (Err Range)) (le-leb n greatest small)

-- of serde_json's number: it is none of ours, or it reads alike
abbrev Alike : Result Value ReadError → Option Num → Type 0
Alike r None = Unit {0}
Alike r (Some n) = is_float n ≡ false → former.is_big n ≡ false → r ≡ Ok (int (former.whole_number n))

alike_float : (sign : Bool) (p : Parts) (r : Result Value ReadError) → Alike r (float_of sign p)
alike_float sign p r = by (float_is_finite (nearest binary64 sign p))
  where
    by : (b : Bool) → Alike r (cond b (Some (float (nearest binary64 sign p))) None)
    by true = λ e f. absurd (true≢false e)
    by false = tt

alike_unsigned : (bs : List ℕ) (b : Bool) → (is_integer (scan bs) && nat_lt (digits_of (scan bs)) (2 ^ 64)) ≡ b
    → Alike (from_parts false (scan bs)) (cond b (Some (unsigned (digits_of (scan bs)))) (float_of false (scan bs)))
alike_unsigned bs false e = alike_float false (scan bs) _
alike_unsigned bs true e =
    λ exact_number small. let n = digits_of (scan bs) in
    let p = and_parts (is_integer (scan bs)) (nat_lt n (2 ^ 64)) e in
    let k : n ≤ 9007199254740991 = ltb-false 9007199254740991 n small in
    from_integer false bs p.0 k ∙ ap (λ o. Ok (int (unwrap_or o (pos 0)))) (sym (ap (λ b. cond b (Some (pos n)) None) (lt-ltb n (2 ^ 63) (omega arith))))

alike_negative : (bs : List ℕ) (b : Bool) → (is_integer (scan bs) && nat_lt 0 (digits_of (scan bs)) && nat_le (digits_of (scan bs)) (2 ^ 63)) ≡ b
    → Alike (from_parts true (scan bs)) (cond b (Some (negative (with_sign true (digits_of (scan bs))))) (float_of true (scan bs)))
alike_negative bs false e = alike_float true (scan bs) _
alike_negative bs true e =
    λ exact_number small. let n = digits_of (scan bs) in
    let p = and_parts (is_integer (scan bs) && nat_lt 0 n) (nat_le n (2 ^ 63)) e in
    let q = and_parts (is_integer (scan bs)) (nat_lt 0 n) p.0 in
    from_integer true bs q.0 (size n small)
  where
    size : (n : ℕ) → is_out_of_range (with_sign true n) ≡ false → n ≤ 9007199254740991
    size zero e = omega arith
    size (suc n) e = let k = ltb-false 9007199254740990 n (or_parts _ false e).0 in omega arith

alike_number : (s : List ℕ) → Alike (number_in s) (number_of s)
unfolding number_in number_of
alike_number s = by (slice_index s 0 == minus)
  where
    by : (b : Bool) → Alike (from_parts b (cond b (scan (drop 1 s)) (scan s))) (cond b (number_from true (scan (drop 1 s))) (number_from false (scan s)))
    by true = alike_negative (drop 1 s) _ refl
    by false = alike_unsigned s _ refl

-- ---- members that serde_json put by their bytes

same_name : (k l : List ℕ) → slice_cmp nat_cmp k l ≡ Equal → name_cmp k l ≡ Equal
same_name k l e =
    let same : k ≡ l = (bytes_eq-Decides k l).0 (sym (is_eq-slice_cmp k l) ∙ ap is_eq e) in
    subst (λ n. name_cmp k n ≡ Equal) same (tied_itself order k)

put_all-reading_put : (k : List ℕ) (d : Data) (found : reading.Members) (rows : Members) → IsApart k (former.members_of_members found)
    → put_all (former.members_of_members (reading.put k d found)) rows ≡ put k (former.value_of d) (put_all (former.members_of_members found) rows)
put_all-reading_put k d reading.no_members rows apart = refl
put_all-reading_put k d (reading.member l e fs) rows apart =
    by (put_all-reading_put k d fs (put l (former.value_of e) rows) apart.1) (slice_cmp nat_cmp k l) refl
  where
    by : put_all (former.members_of_members (reading.put k d fs)) (put l (former.value_of e) rows) ≡ put k (former.value_of d) (put_all (former.members_of_members fs) (put l (former.value_of e) rows))
        → (o : Ordering) → slice_cmp nat_cmp k l ≡ o
        → put_all (former.members_of_members (match_ordering o (reading.member k d (reading.member l e fs)) (reading.member l d fs) (reading.member l e (reading.put k d fs)))) rows
        ≡ put k (former.value_of d) (put_all (former.members_of_members fs) (put l (former.value_of e) rows))
    by ih Less p = put_all-put (former.members_of_members (reading.member l e fs)) rows k (former.value_of d) apart
    by ih Equal p = absurd (apart.0 (same_name k l p))
    by ih Greater p = ih

-- whether some data of the members passes a test that goes member by member
record Clean (test : Data → Bool) (tests : reading.Members → Bool) : Type 0 where
  none : tests reading.no_members ≡ false
  step : (k : List ℕ) (d : Data) (ms : reading.Members) → tests (reading.member k d ms) ≡ (test d || tests ms)

-- a name that isn't there takes nothing away
clean_before : (test : Data → Bool) (tests : reading.Members → Bool) → Clean test tests → (k : List ℕ) (d : Data) (fs : reading.Members) → IsApart k (former.members_of_members fs)
    → tests (reading.put k d fs) ≡ false → (test d ≡ false) × (tests fs ≡ false)
clean_before test tests c k d reading.no_members apart e = ((or_parts (test d) _ (sym (c.step k d reading.no_members) ∙ e)).0, c.none)
clean_before test tests c k d (reading.member l w fs) apart e = by (clean_before test tests c k d fs apart.1) (slice_cmp nat_cmp k l) refl e
  where
    by : (tests (reading.put k d fs) ≡ false → (test d ≡ false) × (tests fs ≡ false)) → (o : Ordering) → slice_cmp nat_cmp k l ≡ o
        → tests (match_ordering o (reading.member k d (reading.member l w fs)) (reading.member l d fs) (reading.member l w (reading.put k d fs))) ≡ false
        → (test d ≡ false) × (tests (reading.member l w fs) ≡ false)
    by ih Less p e = or_parts (test d) _ (sym (c.step k d (reading.member l w fs)) ∙ e)
    by ih Equal p e = absurd (apart.0 (same_name k l p))
    by ih Greater p e =
        let parts = or_parts (test w) _ (sym (c.step l w (reading.put k d fs)) ∙ e) in
        let rest = ih parts.1 in
        (rest.0, c.step l w fs ∙ ap₂ (λ x y. x || y) parts.0 rest.1)

floats : Clean has_float members_have_float
floats = record { none = refl; step = λ k d ms. refl }

bigs : Clean former.has_big former.members_have_big
bigs = record { none = refl; step = λ k d ms. refl }

-- the names of the members differ from those that are there
abbrev Fresh : Members → reading.Members → Type 0
Fresh no_members found = Unit {0}
Fresh (member k v ms) found = IsApart k (former.members_of_members found) × Fresh ms found

apart_back : (a b : List ℕ) → name_cmp a b ≢ Equal → name_cmp b a ≢ Equal
apart_back a b apart e = apart (tied_back order b a e)

IsApart-put : (j k : List ℕ) (d : Data) (fs : reading.Members) → name_cmp j k ≢ Equal → IsApart j (former.members_of_members fs) → IsApart j (former.members_of_members (reading.put k d fs))
IsApart-put j k d reading.no_members other apart = (other, tt)
IsApart-put j k d (reading.member l w fs) other apart = by (IsApart-put j k d fs other apart.1) (slice_cmp nat_cmp k l)
  where
    by : IsApart j (former.members_of_members (reading.put k d fs)) → (o : Ordering)
        → IsApart j (former.members_of_members (match_ordering o (reading.member k d (reading.member l w fs)) (reading.member l d fs) (reading.member l w (reading.put k d fs))))
    by ih Less = (other, apart)
    by ih Equal = apart
    by ih Greater = (apart.0, ih)

Fresh-put : (k : List ℕ) (d : Data) (ms : Members) (found : reading.Members) → IsApart k ms → Fresh ms found → Fresh ms (reading.put k d found)
Fresh-put k d no_members found apart fresh = tt
Fresh-put k d (member j v ms) found apart fresh = (IsApart-put j k d found (apart_back k j apart.0) fresh.0, Fresh-put k d ms found apart.1 fresh.1)

Fresh-none : (ms : Members) → Fresh ms reading.no_members
Fresh-none no_members = tt
Fresh-none (member k v ms) = (tt, Fresh-none ms)

-- ---- whole trees

names_of-keys : (ms : json.Members) → names_of (members_of_members ms) ≡ keys ms
names_of-keys json.no_members = refl
names_of-keys (json.member k j ms) = ap (λ l. k ∷ l) (names_of-keys ms)

either : (a b : Bool) → a ≡ false → b ≡ false → (a || b) ≡ false
either a b p q = ap₂ (λ x y. x || y) p q

-- the tree has no fault, and the value of the data
record Same (t : json.Json) (d : Data) : Type 0 where
  once : has_repeated t ≡ false
  exact_numbers : has_number is_fraction t ≡ false
  in_range_numbers : has_number is_big t ≡ false
  value_is : value_of t ≡ former.value_of d

record SameItems (js : json.Items) (ds : reading.Items) : Type 0 where
  once : items_have_repeated js ≡ false
  exact_numbers : items_have_number is_fraction js ≡ false
  in_range_numbers : items_have_number is_big js ≡ false
  value_is : values_of_items js ≡ former.values_of_items ds

record SameMembers (ms : json.Members) (found all : reading.Members) : Type 0 where
  once : members_have_repeated ms ≡ false
  exact_numbers : members_have_number is_fraction ms ≡ false
  in_range_numbers : members_have_number is_big ms ≡ false
  value_is : (rows : Members) → put_all (former.members_of_members all) rows ≡ put_all (members_of_members ms) (put_all (former.members_of_members found) rows)
  no_float : members_have_float found ≡ false
  none_big : former.members_have_big found ≡ false

abbrev AlikeTree : json.Json → Option Data → Type 0
AlikeTree t None = Unit {0}
AlikeTree t (Some d) = has_float d ≡ false → former.has_big d ≡ false → Same t d

abbrev AlikeItems : json.Items → Option reading.Items → Type 0
AlikeItems js None = Unit {0}
AlikeItems js (Some ds) = items_have_float ds ≡ false → former.items_have_big ds ≡ false → SameItems js ds

abbrev AlikeMembers : json.Members → reading.Members → Option reading.Members → Type 0
AlikeMembers ms found None = Unit {0}
AlikeMembers ms found (Some all) = members_have_float all ≡ false → former.members_have_big all ≡ false → SameMembers ms found all

tree_of_number : (s : List ℕ) (o : Option Num) → Alike (number_in s) o → AlikeTree (json.number s) (option_map reading.number o)
tree_of_number s None h = tt
tree_of_number s (Some n) h =
    λ whole small. let e = h whole small in
    record { once = refl; exact_numbers = ap fails_by_fraction e; in_range_numbers = ap fails_by_range e; value_is = ap or_null e }

tree_of_array : (js : json.Items) (o : Option reading.Items) → AlikeItems js o → AlikeTree (json.array js) (option_map reading.array o)
tree_of_array js None h = tt
tree_of_array js (Some ds) h = λ whole small. let r = h whole small in record { once = r.once; exact_numbers = r.exact_numbers; in_range_numbers = r.in_range_numbers; value_is = ap list r.value_is }

tree_of_object : (ms : json.Members) (o : Option reading.Members) → AreApart (members_of_members ms) → AlikeMembers ms reading.no_members o → AlikeTree (json.object ms) (option_map reading.object o)
tree_of_object ms None apart h = tt
tree_of_object ms (Some all) apart h =
    λ whole small. let r = h whole small in
    record {
      once = either _ _ (ap repeats (sym (names_of-keys ms)) ∙ repeats-apart (members_of_members ms) apart) r.once;
      exact_numbers = r.exact_numbers;
      in_range_numbers = r.in_range_numbers;
      value_is = ap object (sym (r.value_is no_members));
    }

items_step : (j : json.Json) (js : json.Items) (o : Option Data) (p : Option reading.Items) → AlikeTree j o → AlikeItems js p
    → AlikeItems (json.item j js) (option_and_then (λ d. option_map (reading.item d) p) o)
items_step j js None p h k = tt
items_step j js (Some d) None h k = tt
items_step j js (Some d) (Some ds) h k =
    λ whole small. let a = or_parts (has_float d) _ whole in
    let b = or_parts (former.has_big d) _ small in
    let r = h a.0 b.0 in
    let s = k a.1 b.1 in
    record { once = either _ _ r.once s.once; exact_numbers = either _ _ r.exact_numbers s.exact_numbers; in_range_numbers = either _ _ r.in_range_numbers s.in_range_numbers; value_is = ap₂ item r.value_is s.value_is }

members_step : (name : List ℕ) (j : json.Json) (ms : json.Members) (found : reading.Members) (d : Data) (p : Option reading.Members) → IsApart name (former.members_of_members found) → AlikeTree j (Some d)
    → AlikeMembers ms (reading.put name d found) p → AlikeMembers (json.member name j ms) found p
members_step name j ms found d None apart h k = tt
members_step name j ms found d (Some all) apart h k =
    λ whole small. let s = k whole small in
    let a = clean_before has_float members_have_float floats name d found apart s.no_float in
    let b = clean_before former.has_big former.members_have_big bigs name d found apart s.none_big in
    let r = h a.0 b.0 in
    record {
      once = either _ _ r.once s.once;
      exact_numbers = either _ _ r.exact_numbers s.exact_numbers;
      in_range_numbers = either _ _ r.in_range_numbers s.in_range_numbers;
      value_is = λ rows. s.value_is rows ∙ ap (put_all (members_of_members ms)) (put_all-reading_put name d found rows apart ∙ ap (λ v. put name v (put_all (former.members_of_members found) rows)) (sym r.value_is));
      no_float = a.1;
      none_big = b.1;
    }

next_member : (name : List ℕ) (j : json.Json) (ms : json.Members) (found : reading.Members) (o : Option Data) → AlikeTree j o
    → ((d : Data) → AlikeMembers ms (reading.put name d found) (of_members ms (reading.put name d found))) → IsApart name (former.members_of_members found)
    → AlikeMembers (json.member name j ms) found (option_and_then (λ d. of_members ms (reading.put name d found)) o)
next_member name j ms found None h k apart = tt
next_member name j ms found (Some d) h k apart = members_step name j ms found d (of_members ms (reading.put name d found)) apart h (k d)

mutual
  alike_tree : (t : json.Json) → HasNamesOnce t → AlikeTree t (of_json t)
  alike_tree json.null h = λ whole small. record { once = refl; exact_numbers = refl; in_range_numbers = refl; value_is = refl }
  alike_tree (json.boolean b) h = λ whole small. record { once = refl; exact_numbers = refl; in_range_numbers = refl; value_is = refl }
  alike_tree (json.number s) h = tree_of_number s (number_of s) (alike_number s)
  alike_tree (json.string s) h = λ whole small. record { once = refl; exact_numbers = refl; in_range_numbers = refl; value_is = refl }
  alike_tree (json.array js) h = tree_of_array js (of_items js) (alike_items js h)
  alike_tree (json.object ms) h = tree_of_object ms (of_members ms reading.no_members) h.0 (alike_members ms reading.no_members h.1 h.0 (Fresh-none (members_of_members ms)))

  alike_items : (js : json.Items) → ItemsHaveNamesOnce js → AlikeItems js (of_items js)
  alike_items json.no_items h = λ whole small. record { once = refl; exact_numbers = refl; in_range_numbers = refl; value_is = refl }
  alike_items (json.item j js) h = items_step j js (of_json j) (of_items js) (alike_tree j h.0) (alike_items js h.1)

  alike_members : (ms : json.Members) (found : reading.Members) → MembersHaveNamesOnce ms → AreApart (members_of_members ms) → Fresh (members_of_members ms) found → AlikeMembers ms found (of_members ms found)
  alike_members json.no_members found h apart fresh = λ whole small. record { once = refl; exact_numbers = refl; in_range_numbers = refl; value_is = λ rows. refl; no_float = whole; none_big = small }
  alike_members (json.member name j ms) found h apart fresh = next_member name j ms found (of_json j) (alike_tree j h.0) (λ d. alike_members ms (reading.put name d found) h.1 apart.1 (Fresh-put name d (members_of_members ms) found apart.0 fresh.1)) fresh.0

-- ---- texts

abbrev document : List ℕ → Option json.Json
document bytes = option_and_then (λ p. json.if_last p.0 p.1) (json.value 127 (tokens bytes))

with_tree : (bytes : List ℕ) (v : Value) (d : Data) (o : Option json.Json) → tree_of bytes ≡ o → option_and_then of_json o ≡ Some d
    → has_float d ≡ false → former.has_big d ≡ false → v ≡ former.value_of d → NamesOnce bytes → Reads bytes v
with_tree bytes v d None tree read whole small is once = absurd (cc)
with_tree bytes v d (Some t) tree read whole small is once =
    let r : Same t d = subst (AlikeTree t) read (alike_tree t (once t tree)) whole small in
    value_in-tree bytes (Some t) tree ∙ value_in_tree-none t r.once r.exact_numbers r.in_range_numbers ∙ ap Ok (r.value_is ∙ sym is)

pub read_alike : (bytes : List ℕ) (v : Value) → FormerlyReads bytes v → NamesOnce bytes → Reads bytes v
read_alike bytes v (d, reads, whole, small, is) once =
    let tree : tree_of bytes ≡ document bytes = ap (λ b. cond b (document bytes) None) (is_utf8-from_IsUtf8 bytes reads.0) in
    with_tree bytes v d (document bytes) tree reads.1 whole small is once
