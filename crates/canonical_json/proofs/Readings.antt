-- What is read is lawful, nests at most as deep as its text, and the canonical text of a value is read as that value.
use Rattle.std.proofs.Common.{◌≡◌, ℕ, ℤ, pos, zero, suc, ◌<◌, ◌≤◌, ◌⊎◌, ◌==◌, inl, inr, length, max, Bool, true, false, not, cond, ◌||◌, nat_le, List, [], ◌∷◌, Some, None, Ok, Err, Result, Option, option_and_then, unsigned_abs, Ordering, Less, Equal, Greater, refl, sym, ap, ap₂, ◌∙◌, subst, arith}
use Rattle.std.proofs.lemmas.Bool.{and_parts, and_from, leb-true, le-ltb, cases_lt}
use Rattle.std.proofs.lemmas.Str.{is_utf8-from_IsUtf8}
use Rattle.std.specs.Ordering.{match_ordering}
use Rattle.fast_float.specs.Text.{Parts, with_sign, digits_of}
use Rattle.std.specs.Prelude.{⊤}
use Rattle.std.specs.Str.{is_utf8}
use Rattle.std.specs.Fmt.{signed_decimal}
use Rattle.json.specs.Token.{Token}
use Rattle.json.specs.Json as json
use Rattle.json.specs.Lex.{tokens}
use Rattle.json.specs.Strict.{keys}
use Rattle.json.specs.Tree as tree
use Rattle.json.proofs.Nesting.{value-depth}
use Rattle.canonical_json.specs.Value.{Value, null, flag, int, text, list, object, Values, no_values, item, Members, no_members, member, depth, values_depth, members_depth}
use Rattle.canonical_json.specs.Value as value
use Rattle.canonical_json.specs.Name.{name_cmp, names_rise, put, put_all, in_order}
use Rattle.canonical_json.specs.Lawful.{is_out_of_range, is_lawful, are_lawful, members_are_lawful, HasTexts}
use Rattle.canonical_json.specs.Canon.{canon, decimal_text}
use Rattle.canonical_json.specs.declared.fault.ReadError.{ReadError}
use Rattle.canonical_json.specs.declared.fault.ReadError.TheVariants.{Repeated, Fraction, Range}
use Rattle.canonical_json.specs.Number.{lowest, is_decimal, greatest, exact, from_parts, parts_of, is_negative, number_in, number_value, fails_by_fraction, fails_by_range, or_null, is_fraction, is_big}
use Rattle.canonical_json.specs.Reading.{tree_of, names_of, repeats, has_repeated, items_have_repeated, members_have_repeated, has_number, items_have_number, members_have_number, value_of, values_of_items, members_of_members, value_in_tree, Reads}
use Rattle.canonical_json.proofs.Order.{names_rise-put_all, put_all-names_rise}
use Rattle.canonical_json.proofs.Sorting.{repeats-apart, AreApart-rise}
use Rattle.canonical_json.proofs.Decimals.{number_in-signed_decimal, number_in-decimal_text}
use Rattle.canonical_json.proofs.Texts.{outline, items_outline, members_outline, depth-outline, tokens-canon, read_tokens, outline_same, IsUtf8-canon}
use Rattle.canonical_json.proofs.Trees.{value_in-tree}

-- ---- a number that was read is lawful

in_range : (negative : Bool) (n : ℕ) → n ≤ greatest → not (is_out_of_range (with_sign negative n)) ≡ true
in_range false n h = by (cases_lt 9007199254740991 n)
  where
    by : (9007199254740991 < n) ⊎ (n ≤ 9007199254740991) → not (is_out_of_range (pos n)) ≡ true
    by (inl l) = absurd (omega arith)
    by (inr g) = ap not (le-ltb 9007199254740991 n g)
in_range true zero h = refl
in_range true (suc n) h =
    ap (λ b. not (b || false)) (le-ltb 9007199254740990 n (omega arith))

size_of-sign : (negative : Bool) (n : ℕ) → unsigned_abs (with_sign negative n) ≡ n
size_of-sign false n = refl
size_of-sign true zero = refl
size_of-sign true (suc n) = refl

abbrev IsLawfulIfOk : Result Value ReadError → Type 0
IsLawfulIfOk (Ok v) = is_lawful v ≡ true
IsLawfulIfOk (Err e) = ⊤

choose : (b : Bool) (x y : Result Value ReadError) → (b ≡ true → IsLawfulIfOk x) → IsLawfulIfOk y → IsLawfulIfOk (cond b x y)
choose true x y p q = p refl
choose false x y p q = q

lawful-exact : (negative : Bool) (r : ℕ × ℕ) → IsLawfulIfOk (exact negative r)
lawful-exact negative (n, zero) = choose (nat_le n greatest) _ _ (λ e. in_range negative n (leb-true n greatest e)) tt
lawful-exact negative (n, suc s) = choose (is_decimal n (suc s)) _ _ (λ e. ap (λ m. is_decimal m (suc s)) (size_of-sign negative n) ∙ e) tt

lawful-from_parts : (negative : Bool) (p : Parts) → IsLawfulIfOk (from_parts negative p)
lawful-from_parts negative p = choose (length p.exponent == 0) _ _ (λ e. lawful-exact negative (lowest (digits_of p) (length p.fraction))) tt

lawful-number_in : (s : List ℕ) → IsLawfulIfOk (number_in s)
unfolding number_in
lawful-number_in s = lawful-from_parts (is_negative s) (parts_of s)

lawful-or_null : (r : Result Value ReadError) → IsLawfulIfOk r → is_lawful (or_null r) ≡ true
lawful-or_null (Ok v) h = h
lawful-or_null (Err e) h = refl

flat-exact : (negative : Bool) (r : ℕ × ℕ) → depth (or_null (exact negative r)) ≡ 0
flat-exact negative (n, zero) = either (nat_le n greatest)
  where
    either : (b : Bool) → depth (or_null (cond b (Ok (int (with_sign negative n))) (Err Range))) ≡ 0
    either true = refl
    either false = refl
flat-exact negative (n, suc s) = either (is_decimal n (suc s))
  where
    either : (b : Bool) → depth (or_null (cond b (Ok (value.decimal (with_sign negative n) (suc s))) (Err Fraction))) ≡ 0
    either true = refl
    either false = refl

flat-from_parts : (negative : Bool) (p : Parts) (b : Bool) → depth (or_null (cond b (exact negative (lowest (digits_of p) (length p.fraction))) (Err Fraction))) ≡ 0
flat-from_parts negative p true = flat-exact negative (lowest (digits_of p) (length p.fraction))
flat-from_parts negative p false = refl

flat-number_value : (s : List ℕ) → depth (number_value s) ≡ 0
unfolding number_in
flat-number_value s = flat-from_parts (is_negative s) (parts_of s) (length (parts_of s).exponent == 0)

members_are_lawful-put : (k : List ℕ) (v : Value) (ms : Members) → is_lawful v ≡ true → members_are_lawful ms ≡ true → members_are_lawful (put k v ms) ≡ true
members_are_lawful-put k v no_members p q = and_from _ _ p refl
members_are_lawful-put k v (member l w ms) p q =
    let parts = and_parts (is_lawful w) (members_are_lawful ms) q in by parts.0 parts.1 (members_are_lawful-put k v ms p parts.1) (name_cmp k l)
  where
    by : is_lawful w ≡ true → members_are_lawful ms ≡ true → members_are_lawful (put k v ms) ≡ true → (o : Ordering)
        → members_are_lawful (match_ordering o (member k v (member l w ms)) (member l v ms) (member l w (put k v ms))) ≡ true
    by first rest ih Less = and_from _ _ p q
    by first rest ih Equal = and_from _ _ p rest
    by first rest ih Greater = and_from _ _ first ih

members_are_lawful-put_all : (ms rows : Members) → members_are_lawful ms ≡ true → members_are_lawful rows ≡ true → members_are_lawful (put_all ms rows) ≡ true
members_are_lawful-put_all no_members rows p q = q
members_are_lawful-put_all (member k v ms) rows p q =
    let parts = and_parts (is_lawful v) (members_are_lawful ms) p in
    members_are_lawful-put_all ms (put k v rows) parts.1 (members_are_lawful-put k v rows parts.0 q)

mutual
  pub is_lawful-value_of : (t : json.Json) → is_lawful (value_of t) ≡ true
  is_lawful-value_of json.null = refl
  is_lawful-value_of (json.boolean b) = refl
  is_lawful-value_of (json.number s) = lawful-or_null (number_in s) (lawful-number_in s)
  is_lawful-value_of (json.string s) = refl
  is_lawful-value_of (json.array js) = are_lawful-values_of_items js
  is_lawful-value_of (json.object ms) =
      and_from _ _ (names_rise-put_all (members_of_members ms) no_members refl) (members_are_lawful-put_all (members_of_members ms) no_members (members_are_lawful-members_of_members ms) refl)

  are_lawful-values_of_items : (js : json.Items) → are_lawful (values_of_items js) ≡ true
  are_lawful-values_of_items json.no_items = refl
  are_lawful-values_of_items (json.item j js) = and_from _ _ (is_lawful-value_of j) (are_lawful-values_of_items js)

  members_are_lawful-members_of_members : (ms : json.Members) → members_are_lawful (members_of_members ms) ≡ true
  members_are_lawful-members_of_members json.no_members = refl
  members_are_lawful-members_of_members (json.member name j ms) = and_from _ _ (is_lawful-value_of j) (members_are_lawful-members_of_members ms)

-- ---- it nests as deep as its tree at most

members_depth-put : (k : List ℕ) (v : Value) (ms : Members) → members_depth (put k v ms) ≤ max (depth v) (members_depth ms)
members_depth-put k v no_members = omega arith
members_depth-put k v (member l w ms) = by (members_depth-put k v ms) (name_cmp k l)
  where
    by : members_depth (put k v ms) ≤ max (depth v) (members_depth ms) → (o : Ordering)
        → members_depth (match_ordering o (member k v (member l w ms)) (member l v ms) (member l w (put k v ms))) ≤ max (depth v) (max (depth w) (members_depth ms))
    by ih Less = omega arith
    by ih Equal = omega arith
    by ih Greater = omega (arith, ih)

members_depth-put_all : (ms rows : Members) → members_depth (put_all ms rows) ≤ max (members_depth ms) (members_depth rows)
members_depth-put_all no_members rows = omega arith
members_depth-put_all (member k v ms) rows = omega (arith, members_depth-put_all ms (put k v rows), members_depth-put k v rows)

mutual
  depth-value_of : (t : json.Json) → depth (value_of t) ≤ tree.depth t
  depth-value_of json.null = omega arith
  depth-value_of (json.boolean b) = omega arith
  depth-value_of (json.number s) = omega (arith, flat-number_value s)
  depth-value_of (json.string s) = omega arith
  depth-value_of (json.array js) = let h = depth-values_of_items js in omega arith
  depth-value_of (json.object ms) = let h = depth-members_of_members ms in let k = members_depth-put_all (members_of_members ms) no_members in omega arith

  depth-values_of_items : (js : json.Items) → values_depth (values_of_items js) ≤ tree.items_depth js
  depth-values_of_items json.no_items = omega arith
  depth-values_of_items (json.item j js) = let h = depth-value_of j in let k = depth-values_of_items js in omega arith

  depth-members_of_members : (ms : json.Members) → members_depth (members_of_members ms) ≤ tree.members_depth ms
  depth-members_of_members json.no_members = omega arith
  depth-members_of_members (json.member name j ms) = let h = depth-value_of j in let k = depth-members_of_members ms in omega arith

abbrev AtMost : Option json.Json → Type 0
AtMost None = ⊤
AtMost (Some t) = tree.depth t ≤ 127

last-depth : (j : json.Json) (ts : List Token) → tree.depth j ≤ 127 → AtMost (json.if_last j ts)
last-depth j [] h = h
last-depth j (t ∷ ts) h = tt

document-depth : (ts : List Token) (o : Option (json.Json × List Token)) → json.value 127 ts ≡ o → AtMost (option_and_then (λ p. json.if_last p.0 p.1) o)
document-depth ts None e = tt
document-depth ts (Some p) e = last-depth p.0 p.1 (value-depth 127 ts p.1 p.0 e)

tree_of-depth : (bytes : List ℕ) → AtMost (tree_of bytes)
tree_of-depth bytes = by (is_utf8 bytes)
  where
    by : (b : Bool) → AtMost (cond b (option_and_then (λ p. json.if_last p.0 p.1) (json.value 127 (tokens bytes))) None)
    by true = document-depth (tokens bytes) (json.value 127 (tokens bytes)) refl
    by false = tt

pub value_of-depth : (bytes : List ℕ) (t : json.Json) → tree_of bytes ≡ Some t → depth (value_of t) ≤ 127
value_of-depth bytes t e = let h : tree.depth t ≤ 127 = subst AtMost e (tree_of-depth bytes) in omega (arith, depth-value_of t, h)

-- ---- the canonical text's tree has no fault and is the value

number-outline : (z : ℤ) → not (is_out_of_range z) ≡ true → (is_fraction (signed_decimal z) ≡ false) × (is_big (signed_decimal z) ≡ false) × (number_value (signed_decimal z) ≡ int z)
number-outline z h = let e = number_in-signed_decimal z h in (ap fails_by_fraction e, ap fails_by_range e, ap or_null e)

decimal-outline : (z : ℤ) (s : ℕ) → is_decimal (unsigned_abs z) s ≡ true → (is_fraction (decimal_text z s) ≡ false) × (is_big (decimal_text z s) ≡ false) × (number_value (decimal_text z s) ≡ value.decimal z s)
decimal-outline z s h = let e = number_in-decimal_text z s h in (ap fails_by_fraction e, ap fails_by_range e, ap or_null e)

-- of a tree: no fault, and its value
record Means (t : json.Json) (v : Value) : Type 0 where
  once : has_repeated t ≡ false
  exact_numbers : has_number is_fraction t ≡ false
  in_range_numbers : has_number is_big t ≡ false
  value_is : value_of t ≡ v

record ItemsMean (js : json.Items) (vs : Values) : Type 0 where
  once : items_have_repeated js ≡ false
  exact_numbers : items_have_number is_fraction js ≡ false
  in_range_numbers : items_have_number is_big js ≡ false
  value_is : values_of_items js ≡ vs

record MembersMean (js : json.Members) (ms : Members) : Type 0 where
  once : members_have_repeated js ≡ false
  exact_numbers : members_have_number is_fraction js ≡ false
  in_range_numbers : members_have_number is_big js ≡ false
  names_are : keys js ≡ names_of ms
  value_is : members_of_members js ≡ ms

either : (a b : Bool) → a ≡ false → b ≡ false → (a || b) ≡ false
either a b p q = ap₂ (λ x y. x || y) p q

mutual
  means-outline : (v : Value) → is_lawful v ≡ true → Means (outline v) v
  means-outline null h = record { once = refl; exact_numbers = refl; in_range_numbers = refl; value_is = refl }
  means-outline (flag b) h = record { once = refl; exact_numbers = refl; in_range_numbers = refl; value_is = refl }
  means-outline (int z) h = let n = number-outline z h in record { once = refl; exact_numbers = n.0; in_range_numbers = n.1; value_is = n.2 }
  means-outline (value.decimal z s) h = let n = decimal-outline z s h in record { once = refl; exact_numbers = n.0; in_range_numbers = n.1; value_is = n.2 }
  means-outline (text s) h = record { once = refl; exact_numbers = refl; in_range_numbers = refl; value_is = refl }
  means-outline (list vs) h = let m = means-items vs h in record { once = m.once; exact_numbers = m.exact_numbers; in_range_numbers = m.in_range_numbers; value_is = ap list m.value_is }
  means-outline (object ms) h =
      let p = and_parts (names_rise ms) (members_are_lawful ms) h in
      let m = means-members ms p.1 in
      record {
        once = either _ _ (ap repeats m.names_are ∙ repeats-apart ms (AreApart-rise ms p.0)) m.once;
        exact_numbers = m.exact_numbers;
        in_range_numbers = m.in_range_numbers;
        value_is = ap object (ap in_order m.value_is ∙ put_all-names_rise ms p.0);
      }

  means-items : (vs : Values) → are_lawful vs ≡ true → ItemsMean (items_outline vs) vs
  means-items no_values h = record { once = refl; exact_numbers = refl; in_range_numbers = refl; value_is = refl }
  means-items (item v vs) h =
      let p = and_parts (is_lawful v) (are_lawful vs) h in
      let m = means-outline v p.0 in
      let n = means-items vs p.1 in
      record { once = either _ _ m.once n.once; exact_numbers = either _ _ m.exact_numbers n.exact_numbers; in_range_numbers = either _ _ m.in_range_numbers n.in_range_numbers; value_is = ap₂ item m.value_is n.value_is }

  means-members : (ms : Members) → members_are_lawful ms ≡ true → MembersMean (members_outline ms) ms
  means-members no_members h = record { once = refl; exact_numbers = refl; in_range_numbers = refl; names_are = refl; value_is = refl }
  means-members (member name v ms) h =
      let p = and_parts (is_lawful v) (members_are_lawful ms) h in
      let m = means-outline v p.0 in
      let n = means-members ms p.1 in
      record {
        once = either _ _ m.once n.once;
        exact_numbers = either _ _ m.exact_numbers n.exact_numbers;
        in_range_numbers = either _ _ m.in_range_numbers n.in_range_numbers;
        names_are = ap (λ l. name ∷ l) n.names_are;
        value_is = ap₂ (member name) m.value_is n.value_is;
      }

-- a tree without a fault is its value
pub value_in_tree-none : (t : json.Json) → has_repeated t ≡ false → has_number is_fraction t ≡ false → has_number is_big t ≡ false → value_in_tree t ≡ Ok (value_of t)
value_in_tree-none t once exact_numbers in_range_numbers =
    ap (λ b. cond b (Err Repeated) (cond (has_number is_fraction t) (Err Fraction) (cond (has_number is_big t) (Err Range) (Ok (value_of t))))) once
    ∙ ap (λ b. cond b (Err Fraction) (cond (has_number is_big t) (Err Range) (Ok (value_of t)))) exact_numbers
    ∙ ap (λ b. cond b (Err Range) (Ok (value_of t))) in_range_numbers

tree_of-canon : (v : Value) → is_lawful v ≡ true → HasTexts v → depth v ≤ 127 → tree_of (canon v) ≡ Some (outline v)
tree_of-canon v h t shallow =
    ap (λ b. cond b (option_and_then (λ p. json.if_last p.0 p.1) (json.value 127 (tokens (canon v)))) None) (is_utf8-from_IsUtf8 (canon v) (IsUtf8-canon v h t))
    ∙ ap (λ ts. option_and_then (λ p. json.if_last p.0 p.1) (json.value 127 ts)) (tokens-canon v h)
    ∙ ap (option_and_then (λ p. json.if_last p.0 p.1)) (read_tokens (outline v) 127 (subst (λ n. n ≤ 127) (sym (depth-outline v)) shallow))

pub canon_reads : (v : Value) → is_lawful v ≡ true → HasTexts v → depth v ≤ 127 → Reads (canon v) v
canon_reads v h t shallow =
    let m = means-outline v h in
    value_in-tree (canon v) (Some (outline v)) (tree_of-canon v h t shallow) ∙ value_in_tree-none (outline v) m.once m.exact_numbers m.in_range_numbers ∙ ap Ok m.value_is

-- equal texts have equal values
pub canon_same : (v w : Value) → is_lawful v ≡ true → is_lawful w ≡ true → canon v ≡ canon w → v ≡ w
canon_same v w h k e = let m = means-outline v h in let n = means-outline w k in sym m.value_is ∙ ap value_of (outline_same v w h k e) ∙ n.value_is
