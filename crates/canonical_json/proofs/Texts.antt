-- The canonical text as a tree of the grammar: its tokens are those of the tree, so no other tree has it.
use Rattle.std.proofs.Common.{◌≡◌, ℕ, ℤ, pos, negsuc, suc, ◌^◌, ◌<◌, ◌≤◌, max, Bool, true, false, not, List, [], ◌∷◌, ◌++◌, Option, Some, None, IsUtf8, refl, sym, ap, ap₂, ◌∙◌, arith, append-nil, append_assoc}
use Rattle.std.proofs.lemmas.Bool.{and_parts}
use Rattle.std.proofs.lemmas.Str.{IsUtf8-append, IsUtf8-nil, IsUtf8-from_ascii}
use Rattle.std.proofs.lemmas.Fmt.{IsAscii-signed}
use Rattle.std.specs.Fmt.{signed_decimal}
use lib.Signed.{mag}
use Rattle.json.specs.Token.{Token}
use Rattle.json.specs.Lex.{tokens}
use Rattle.json.specs.Print.{quoted, print, print_from}
use Rattle.json.specs.Json as json
use Rattle.json.specs.Tree as tree
use Rattle.json.specs.Tree.{json_tokens, items_tokens, members_tokens, HasNumbers, ItemsHaveNumbers, MembersHaveNumbers}
use Rattle.json.proofs.Printed.Decimals.{IsNumber-signed_decimal}
use Rattle.json.proofs.Printed.Tokens.{tokens-print}
use Rattle.json.proofs.Printed.Trees.{value-json_tokens, ArePrintable-json_tokens}
use Rattle.json.proofs.Printed.Utf8.{IsUtf8-quoted, IsUtf8-are_ascii}
use Rattle.canonical_json.specs.Value.{Value, null, flag, int, decimal, text, list, object, Values, no_values, item, Members, no_members, member, depth, values_depth, members_depth}
use Rattle.canonical_json.specs.Name.{names_rise}
use Rattle.canonical_json.specs.Lawful.{is_out_of_range, is_lawful, are_lawful, members_are_lawful, HasTexts, HaveTexts, MembersHaveTexts}
use Rattle.canonical_json.specs.Canon.{comma_if, decimal_text, canon, values_text, members_text}
use Rattle.canonical_json.proofs.Decimals.{in_range-pos, in_range-negsuc, IsNumber-decimal_text, IsAscii-decimal_text}

mag_in_range : (z : ℤ) → not (is_out_of_range z) ≡ true → mag z < 2 ^ 63
mag_in_range (pos n) h = let k = in_range-pos n h in omega arith
mag_in_range (negsuc n) h = let k = in_range-negsuc n h in omega arith

-- ---- the tree of a value's text

abbrev mutual
  pub outline : Value → json.Json
  outline null = json.null
  outline (flag b) = json.boolean b
  outline (int z) = json.number (signed_decimal z)
  outline (decimal z s) = json.number (decimal_text z s)
  outline (text s) = json.string s
  outline (list vs) = json.array (items_outline vs)
  outline (object ms) = json.object (members_outline ms)

  pub items_outline : Values → json.Items
  items_outline no_values = json.no_items
  items_outline (item v vs) = json.item (outline v) (items_outline vs)

  pub members_outline : Members → json.Members
  members_outline no_members = json.no_members
  members_outline (member name v ms) = json.member name (outline v) (members_outline ms)

mutual
  pub depth-outline : (v : Value) → tree.depth (outline v) ≡ depth v
  depth-outline null = refl
  depth-outline (flag b) = refl
  depth-outline (int z) = refl
  depth-outline (decimal z s) = refl
  depth-outline (text s) = refl
  depth-outline (list vs) = ap suc (items_depth-outline vs)
  depth-outline (object ms) = ap suc (members_depth-outline ms)

  items_depth-outline : (vs : Values) → tree.items_depth (items_outline vs) ≡ values_depth vs
  items_depth-outline no_values = refl
  items_depth-outline (item v vs) = ap₂ max (depth-outline v) (items_depth-outline vs)

  members_depth-outline : (ms : Members) → tree.members_depth (members_outline ms) ≡ members_depth ms
  members_depth-outline no_members = refl
  members_depth-outline (member name v ms) = ap₂ max (depth-outline v) (members_depth-outline ms)

mutual
  HasNumbers-outline : (v : Value) → is_lawful v ≡ true → HasNumbers (outline v)
  HasNumbers-outline null h = tt
  HasNumbers-outline (flag b) h = tt
  HasNumbers-outline (int z) h = IsNumber-signed_decimal z (mag_in_range z h)
  HasNumbers-outline (decimal z s) h = IsNumber-decimal_text z s h
  HasNumbers-outline (text s) h = tt
  HasNumbers-outline (list vs) h = ItemsHaveNumbers-outline vs h
  HasNumbers-outline (object ms) h = MembersHaveNumbers-outline ms (and_parts (names_rise ms) _ h).1

  ItemsHaveNumbers-outline : (vs : Values) → are_lawful vs ≡ true → ItemsHaveNumbers (items_outline vs)
  ItemsHaveNumbers-outline no_values h = tt
  ItemsHaveNumbers-outline (item v vs) h = let p = and_parts (is_lawful v) _ h in (HasNumbers-outline v p.0, ItemsHaveNumbers-outline vs p.1)

  MembersHaveNumbers-outline : (ms : Members) → members_are_lawful ms ≡ true → MembersHaveNumbers (members_outline ms)
  MembersHaveNumbers-outline no_members h = tt
  MembersHaveNumbers-outline (member name v ms) h = let p = and_parts (is_lawful v) _ h in (HasNumbers-outline v p.0, MembersHaveNumbers-outline ms p.1)

-- ---- its tokens, printed, are the text

regroup : (q a b c : List ℕ) → (q ++ 58 ∷ []) ++ (a ++ (b ++ c)) ≡ (q ++ 58 ∷ (a ++ b)) ++ c
regroup q a b c = append_assoc q _ _ ∙ sym (append_assoc q _ c ∙ ap (λ s. q ++ 58 ∷ s) (append_assoc a b c))

regroup_item : (q a b c : List ℕ) → q ++ (a ++ (b ++ c)) ≡ (q ++ (a ++ b)) ++ c
regroup_item q a b c = simp append_assoc

print_member : (k : List ℕ) (v : Value) (ms : Members) (ts : List Token)
    → print_from false (json_tokens (outline v) ++ (members_tokens (members_outline ms) ++ ts)) ≡ canon v ++ print_from true (members_tokens (members_outline ms) ++ ts)
    → print_from true (members_tokens (members_outline ms) ++ ts) ≡ members_text true ms ++ print_from true ts
    → (quoted k ++ 58 ∷ []) ++ print_from false ((json_tokens (outline v) ++ members_tokens (members_outline ms)) ++ ts) ≡ (quoted k ++ 58 ∷ (canon v ++ members_text true ms)) ++ print_from true ts
print_member k v ms ts value rest =
    let whole = ap (print_from false) (append_assoc (json_tokens (outline v)) (members_tokens (members_outline ms)) ts) ∙ value in
    ap (λ s. (quoted k ++ 58 ∷ []) ++ s) (whole ∙ ap (λ s. canon v ++ s) rest) ∙ regroup (quoted k) (canon v) (members_text true ms) (print_from true ts)

mutual
  unfolding print_from

  print_value : (later : Bool) (v : Value) (ts : List Token) → print_from later (json_tokens (outline v) ++ ts) ≡ comma_if later ++ (canon v ++ print_from true ts)
  print_value true null ts = refl
  print_value false null ts = refl
  print_value true (flag true) ts = refl
  print_value true (flag false) ts = refl
  print_value false (flag true) ts = refl
  print_value false (flag false) ts = refl
  print_value true (int z) ts = refl
  print_value false (int z) ts = refl
  print_value true (decimal z s) ts = refl
  print_value false (decimal z s) ts = refl
  print_value true (text s) ts = refl
  print_value false (text s) ts = refl
  print_value true (list vs) ts = ap (λ s. 44 ∷ 91 ∷ s) (print_items false vs ts)
  print_value false (list vs) ts = ap (λ s. 91 ∷ s) (print_items false vs ts)
  print_value true (object ms) ts = ap (λ s. 44 ∷ 123 ∷ s) (print_members false ms ts)
  print_value false (object ms) ts = ap (λ s. 123 ∷ s) (print_members false ms ts)

  print_items : (later : Bool) (vs : Values) (ts : List Token) → print_from later (items_tokens (items_outline vs) ++ ts) ≡ values_text later vs ++ print_from true ts
  print_items true no_values ts = refl
  print_items false no_values ts = refl
  print_items later (item v vs) ts =
      let rest = items_tokens (items_outline vs) in
      ap (print_from later) (append_assoc (json_tokens (outline v)) rest ts) ∙ print_value later v (rest ++ ts) ∙ ap (λ s. comma_if later ++ (canon v ++ s)) (print_items true vs ts)
      ∙ regroup_item (comma_if later) (canon v) (values_text true vs) (print_from true ts)

  print_members : (later : Bool) (ms : Members) (ts : List Token) → print_from later (members_tokens (members_outline ms) ++ ts) ≡ members_text later ms ++ print_from true ts
  print_members true no_members ts = refl
  print_members false no_members ts = refl
  print_members true (member k v ms) ts = ap (λ s. 44 ∷ s) (print_member k v ms ts (print_value false v (members_tokens (members_outline ms) ++ ts)) (print_members true ms ts))
  print_members false (member k v ms) ts = print_member k v ms ts (print_value false v (members_tokens (members_outline ms) ++ ts)) (print_members true ms ts)

print-outline : (v : Value) → print (json_tokens (outline v)) ≡ canon v
unfolding print_from
print-outline v = ap print (sym (append-nil (json_tokens (outline v)))) ∙ print_value false v [] ∙ append-nil (canon v)

pub tokens-canon : (v : Value) → is_lawful v ≡ true → tokens (canon v) ≡ json_tokens (outline v)
tokens-canon v h = ap tokens (sym (print-outline v)) ∙ tokens-print (json_tokens (outline v)) (ArePrintable-json_tokens (outline v) (HasNumbers-outline v h))

-- ---- the one tree with these tokens, however deep

abbrev first_json : Option (json.Json × List Token) → json.Json
first_json None = json.null
first_json (Some p) = p.0

pub read_tokens : (j : json.Json) (d : ℕ) → tree.depth j ≤ d → json.value d (json_tokens j) ≡ Some (j, [])
read_tokens j d h = ap (json.value d) (sym (append-nil (json_tokens j))) ∙ value-json_tokens j d [] h

json_tokens_same : (j k : json.Json) → json_tokens j ≡ json_tokens k → j ≡ k
json_tokens_same j k e =
    let d = max (tree.depth j) (tree.depth k) in
    ap first_json (sym (read_tokens j d (omega arith)) ∙ ap (json.value d) e ∙ read_tokens k d (omega arith))

-- equal texts have equal trees
pub outline_same : (v w : Value) → is_lawful v ≡ true → is_lawful w ≡ true → canon v ≡ canon w → outline v ≡ outline w
outline_same v w h k e = json_tokens_same (outline v) (outline w) (sym (tokens-canon v h) ∙ ap tokens e ∙ tokens-canon w k)

-- ---- the text is UTF-8

comma_if-IsUtf8 : (later : Bool) → IsUtf8 (comma_if later)
comma_if-IsUtf8 true = IsUtf8-are_ascii (44 ∷ []) refl
comma_if-IsUtf8 false = IsUtf8-nil

mutual
  pub IsUtf8-canon : (v : Value) → is_lawful v ≡ true → HasTexts v → IsUtf8 (canon v)
  IsUtf8-canon null h t = IsUtf8-are_ascii _ refl
  IsUtf8-canon (flag true) h t = IsUtf8-are_ascii _ refl
  IsUtf8-canon (flag false) h t = IsUtf8-are_ascii _ refl
  IsUtf8-canon (int z) h t = IsUtf8-from_ascii _ (IsAscii-signed z (mag_in_range z h))
  IsUtf8-canon (decimal z s) h t = IsUtf8-from_ascii _ (IsAscii-decimal_text z s h)
  IsUtf8-canon (text s) h t = IsUtf8-quoted s t
  IsUtf8-canon (list vs) h t = IsUtf8-append (91 ∷ []) _ (IsUtf8-are_ascii _ refl) (IsUtf8-values_text false vs h t)
  IsUtf8-canon (object ms) h t = IsUtf8-append (123 ∷ []) _ (IsUtf8-are_ascii _ refl) (IsUtf8-members_text false ms (and_parts (names_rise ms) _ h).1 t)

  IsUtf8-values_text : (later : Bool) (vs : Values) → are_lawful vs ≡ true → HaveTexts vs → IsUtf8 (values_text later vs)
  IsUtf8-values_text later no_values h t = IsUtf8-are_ascii _ refl
  IsUtf8-values_text later (item v vs) h t =
      let p = and_parts (is_lawful v) _ h in
      IsUtf8-append _ _ (comma_if-IsUtf8 later) (IsUtf8-append _ _ (IsUtf8-canon v p.0 t.0) (IsUtf8-values_text true vs p.1 t.1))

  IsUtf8-members_text : (later : Bool) (ms : Members) → members_are_lawful ms ≡ true → MembersHaveTexts ms → IsUtf8 (members_text later ms)
  IsUtf8-members_text later no_members h t = IsUtf8-are_ascii _ refl
  IsUtf8-members_text later (member name v ms) h t =
      let p = and_parts (is_lawful v) _ h in
      IsUtf8-append _ _ (comma_if-IsUtf8 later)
      (IsUtf8-append (quoted name) _ (IsUtf8-quoted name t.0)
      (IsUtf8-append (58 ∷ []) _ (IsUtf8-are_ascii _ refl) (IsUtf8-append _ _ (IsUtf8-canon v p.0 t.1) (IsUtf8-members_text true ms p.1 t.2))))
