-- What loops over the tokens of a list and of an object have read.
use Rattle.std.proofs.Common.{◌≡◌, ℕ, ◌-◌, ◌<◌, ◌≤◌, List, [], ◌∷◌, ◌++◌, length, Bool, true, false, not, ◌||◌, Option, Some, None, IsUtf8, refl, sym, ap, ◌∙◌, arith}
use Rattle.std.proofs.lemmas.Bool.{or_parts}
use Rattle.json.specs.Token.{Token}
use Rattle.json.specs.Json as grammar
use Rattle.json.specs.Json.{Parse, parse_map, after_end_array, read_key}
use Rattle.json.specs.Strict.{keys}
use Rattle.json.proofs.Grammar.{items_end, items_fail, items_more, members_end, members_no_key, members_fail, members_more, read_key-shorter}
use Rattle.canonical_json.specs.Value.{Members}
use Rattle.canonical_json.specs.View.{view, member_view, items_view, members_view}
use Rattle.canonical_json.specs.Lawful.{HasTexts, HaveTexts, MembersHaveTexts}
use Rattle.canonical_json.specs.Name.{in_order}
use Rattle.canonical_json.specs.Number.{is_fraction, is_big}
use Rattle.canonical_json.specs.Reading.{value_of, values_of_items, members_of_members, items_have_repeated, members_have_repeated, items_have_number, members_have_number, has_repeated, has_number, repeats, names_of}
use Rattle.canonical_json.specs.Faults.{IsValueOf, AreItemsOf, AreMembersOf, IsStop}
use Rattle.canonical_json.specs.declared.fault.ReadError.{ReadError}
use Rattle.canonical_json.specs.declared.faults.Faults.{Faults}
use Rattle.canonical_json.specs.declared.value.Json.{Json}
use Rattle.canonical_json.specs.declared.value.Member.{Member}
use Rattle.canonical_json.proofs.Growing.{before, before-push, before-no_values, HaveTexts-push, members_before, members_before-push, members_before-no_members, MembersHaveTexts-push, names_before, names_before-push, names_before-none, moved, last_noted, none_noted}

map_same : {A : Type 0} (r : Option (A × List Token)) → r ≡ parse_map (λ x. x) r
map_same None = refl
map_same (Some p) = refl

map_twice : {A : Type 0} (f g : A → A) (r : Option (A × List Token)) → parse_map f (parse_map g r) ≡ parse_map (λ x. f (g x)) r
map_twice f g None = refl
map_twice f g (Some p) = refl

-- where p stops the whole stops
pub IsStop-when : {A B : Type 0} (found : Option A) (whole : Option B) (e : ReadError) → (found ≡ None → whole ≡ None) → IsStop found e → IsStop whole e
IsStop-when found whole ReadError.NotJson then stop = then stop
IsStop-when found whole ReadError.Repeated then stop = stop
IsStop-when found whole ReadError.Fraction then stop = stop
IsStop-when found whole ReadError.Range then stop = stop
IsStop-when found whole ReadError.NoMemory then stop = stop

-- ---- the items of a list

-- from ts on the items js were read, with the faults that were noted, and `now` is left; `front` puts their trees before others
pub record ItemsRead (p : Parse grammar.Json) (ts now : List Token) (old f : Faults) (js : List Json) : Type 0 where
  turns : ℕ
  bound : length now ≤ turns
  pub shorter : length now ≤ length ts
  front : grammar.Items → grammar.Items
  found : grammar.items p (length ts) ts ≡ parse_map front (grammar.items p turns now)
  repeated : (rest : grammar.Items) → (items_have_repeated rest || f.repeated) ≡ (items_have_repeated (front rest) || old.repeated)
  fraction : (rest : grammar.Items) → (items_have_number is_fraction rest || f.fraction) ≡ (items_have_number is_fraction (front rest) || old.fraction)
  range : (rest : grammar.Items) → (items_have_number is_big rest || f.range) ≡ (items_have_number is_big (front rest) || old.range)
  values : f.repeated ≡ false → (rest : grammar.Items) → before js (values_of_items rest) ≡ values_of_items (front rest)
  pub texts : HaveTexts (items_view js)

pub no_items_read : (p : Parse grammar.Json) (ts : List Token) (f : Faults) → ItemsRead p ts ts f f []
no_items_read p ts f = record {
  turns = length ts;
  bound = omega arith;
  shorter = omega arith;
  front = λ rest. rest;
  found = map_same (grammar.items p (length ts) ts);
  repeated = λ rest. refl;
  fraction = λ rest. refl;
  range = λ rest. refl;
  values = λ e rest. refl;
  texts = tt;
}

module _ (p : Parse grammar.Json) (ts now : List Token) (old f : Faults) (js : List Json) (read : ItemsRead p ts now old f js) where
  pub one_item_read : (r : List Token) (g : Faults) (j : Json) (t : grammar.Json) → after_end_array now ≡ None → p now ≡ Some (t, r) → length r < length now → IsValueOf t f g (view j) → HasTexts (view j)
      → ItemsRead p ts r old g (js ++ j ∷ [])
  one_item_read r g j t going is less valued texts = record {
    turns = read.turns - 1;
    bound = omega (arith, read.bound);
    shorter = omega (arith, read.shorter);
    front = λ rest. read.front (grammar.item t rest);
    found = read.found ∙ ap (parse_map read.front) (items_more p read.turns now r t (omega (arith, read.bound)) going is) ∙ map_twice read.front (grammar.item t) (grammar.items p (read.turns - 1) r);
    repeated = λ rest. ap (λ n. items_have_repeated rest || n) valued.0.0 ∙ moved (has_repeated t) (items_have_repeated rest) f.repeated ∙ read.repeated (grammar.item t rest);
    fraction = λ rest. ap (λ n. items_have_number is_fraction rest || n) valued.0.1 ∙ moved (has_number is_fraction t) (items_have_number is_fraction rest) f.fraction ∙ read.fraction (grammar.item t rest);
    range = λ rest. ap (λ n. items_have_number is_big rest || n) valued.0.2 ∙ moved (has_number is_big t) (items_have_number is_big rest) f.range ∙ read.range (grammar.item t rest);
    values = λ once rest. before-push js j (value_of t) (values_of_items rest) (valued.1 once) ∙ read.values (or_parts (has_repeated t) f.repeated (sym valued.0.0 ∙ once)).1 (grammar.item t rest);
    texts = HaveTexts-push js j read.texts texts;
  }

  pub all_items_read : (r : List Token) → after_end_array now ≡ Some r → (trees : grammar.Items) × (grammar.items p (length ts) ts ≡ Some (trees, r)) × AreItemsOf trees old f (items_view js)
  all_items_read r end = (
    read.front grammar.no_items,
    read.found ∙ ap (parse_map read.front) (items_end p read.turns now r read.bound end),
    ((read.repeated grammar.no_items, read.fraction grammar.no_items, read.range grammar.no_items), λ once. sym (before-no_values js) ∙ read.values once grammar.no_items),
  )

  pub items_stop : (e : ReadError) → after_end_array now ≡ None → IsStop (p now) e → IsStop (grammar.items p (length ts) ts) e
  items_stop e going stop =
      IsStop-when (p now) (grammar.items p (length ts) ts) e (λ none. read.found ∙ ap (parse_map read.front) (items_fail p read.turns now going none)) stop

-- ---- the members of an object

pub record MembersRead (p : Parse grammar.Json) (ts now : List Token) (old f : Faults) (js : List Member) : Type 0 where
  turns : ℕ
  bound : length now ≤ turns
  pub shorter : length now ≤ length ts
  front : grammar.Members → grammar.Members
  found : grammar.members p (length ts) ts ≡ parse_map front (grammar.members p turns now)
  repeated : (rest : grammar.Members) → (members_have_repeated rest || f.repeated) ≡ (members_have_repeated (front rest) || old.repeated)
  fraction : (rest : grammar.Members) → (members_have_number is_fraction rest || f.fraction) ≡ (members_have_number is_fraction (front rest) || old.fraction)
  range : (rest : grammar.Members) → (members_have_number is_big rest || f.range) ≡ (members_have_number is_big (front rest) || old.range)
  names : (rest : grammar.Members) → names_before js (keys rest) ≡ keys (front rest)
  values : f.repeated ≡ false → (rest : grammar.Members) → members_before js (members_of_members rest) ≡ members_of_members (front rest)
  pub texts : MembersHaveTexts (members_view js)

pub no_members_read : (p : Parse grammar.Json) (ts : List Token) (f : Faults) → MembersRead p ts ts f f []
no_members_read p ts f = record {
  turns = length ts;
  bound = omega arith;
  shorter = omega arith;
  front = λ rest. rest;
  found = map_same (grammar.members p (length ts) ts);
  repeated = λ rest. refl;
  fraction = λ rest. refl;
  range = λ rest. refl;
  names = λ rest. refl;
  values = λ e rest. refl;
  texts = tt;
}

module _ (p : Parse grammar.Json) (ts now : List Token) (old f : Faults) (js : List Member) (read : MembersRead p ts now old f js) where
  pub one_member_read : (k : List ℕ) (s r : List Token) (g : Faults) (j : Member) (v : Json) (t : grammar.Json) → read_key now ≡ Some (Some k, s) → p s ≡ Some (t, r) → length r < length s
      → member_view j ≡ (k, view v) → IsUtf8 k → IsValueOf t f g (view v) → HasTexts (view v) → MembersRead p ts r old g (js ++ j ∷ [])
  one_member_read k s r g j v t key is less seen utf8 valued texts =
      let less_key = read_key-shorter now (Some k) s key in record {
        turns = read.turns - 1;
        bound = omega (arith, read.bound);
        shorter = omega (arith, read.shorter);
        front = λ rest. read.front (grammar.member k t rest);
        found = read.found ∙ ap (parse_map read.front) (members_more p read.turns k now s r t (omega (arith, read.bound)) key is) ∙ map_twice read.front (grammar.member k t) (grammar.members p (read.turns - 1) r);
        repeated = λ rest. ap (λ n. members_have_repeated rest || n) valued.0.0 ∙ moved (has_repeated t) (members_have_repeated rest) f.repeated ∙ read.repeated (grammar.member k t rest);
        fraction = λ rest. ap (λ n. members_have_number is_fraction rest || n) valued.0.1 ∙ moved (has_number is_fraction t) (members_have_number is_fraction rest) f.fraction ∙ read.fraction (grammar.member k t rest);
        range = λ rest. ap (λ n. members_have_number is_big rest || n) valued.0.2 ∙ moved (has_number is_big t) (members_have_number is_big rest) f.range ∙ read.range (grammar.member k t rest);
        names = λ rest. names_before-push js j (k, view v) (keys rest) seen ∙ read.names (grammar.member k t rest);
        values = λ once rest.
            members_before-push js j (k, value_of t) (members_of_members rest) (seen ∙ ap (λ (w : _). (k, w)) (valued.1 once))
            ∙ read.values (or_parts (has_repeated t) f.repeated (sym valued.0.0 ∙ once)).1 (grammar.member k t rest);
        texts = MembersHaveTexts-push js j (k, view v) read.texts seen utf8 texts;
      }

  pub all_members_read : (r : List Token) (g : Faults) (apart : Bool) (sorted : Members) → read_key now ≡ Some (None, r) → apart ≡ not (repeats (names_of (members_view js)))
      → (apart ≡ true → sorted ≡ in_order (members_view js)) → g.repeated ≡ (f.repeated || not apart) → g.fraction ≡ f.fraction → g.range ≡ f.range
      → (trees : grammar.Members) × (grammar.members p (length ts) ts ≡ Some (trees, r)) × AreMembersOf trees old g sorted
  all_members_read r g apart sorted end are order a b c =
      let all = read.front grammar.no_members in
      let names = are ∙ ap (λ l. not (repeats l)) (sym (names_before-none js) ∙ read.names grammar.no_members) in (
        all,
        read.found ∙ ap (parse_map read.front) (members_end p read.turns now r read.bound end),
        (
          (
            a ∙ ap (λ x. f.repeated || not x) names ∙ last_noted f.repeated (repeats (keys all)) (members_have_repeated all) old.repeated (read.repeated grammar.no_members),
            b ∙ read.fraction grammar.no_members,
            c ∙ read.range grammar.no_members,
          ),
          λ once. let parts = none_noted f.repeated apart (sym a ∙ once) in
              order parts.1 ∙ ap in_order (sym (members_before-no_members js) ∙ read.values parts.0 grammar.no_members),
        ),
      )

  pub members_no_key_stop : (e : ReadError) → IsStop (read_key now) e → IsStop (grammar.members p (length ts) ts) e
  members_no_key_stop e stop =
      IsStop-when (read_key now) (grammar.members p (length ts) ts) e (λ none. read.found ∙ ap (parse_map read.front) (members_no_key p read.turns now none)) stop

  pub members_stop : (e : ReadError) (k : List ℕ) (s : List Token) → read_key now ≡ Some (Some k, s) → IsStop (p s) e → IsStop (grammar.members p (length ts) ts) e
  members_stop e k s key stop =
      IsStop-when (p s) (grammar.members p (length ts) ts) e (λ none. read.found ∙ ap (parse_map read.front) (members_fail p read.turns k now s key none)) stop
