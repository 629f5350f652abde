-- A text is no shorter than the names and the texts in the value that it reads as.
use Rattle.std.proofs.Common.{◌≡◌, ℕ, zero, suc, ◌+◌, ◌≤◌, Bool, true, false, cond, ◌&&◌, ◌==◌, nat_le, List, [], ◌∷◌, length, drop, Option, Some, None, Ok, Err, option_and_then, refl, sym, ap, ◌∙◌, arith}
use Rattle.std.specs.Prelude.{⊤, nat_eq}
use Rattle.std.specs.List.{starts_with}
use Rattle.std.specs.Str.{is_utf8}
use Rattle.fast_float.specs.Text.{Parts, with_sign, digits_of}
use Rattle.json.specs.Token.{Token}
use Rattle.json.specs.Token as token
use Rattle.json.specs.Text.{content, plain}
use Rattle.json.specs.Word.{head, ends_word, after_number, literal, number_before, word}
use Rattle.json.specs.Ascii as ascii
use Rattle.json.specs.Lex.{Lexeme, comma, colon, Class, quote, backslash, operator, space, other, class, operator_lexeme, string_token, Mode, between, in_word, in_string, in_escape, lex_byte, lex, Place, fresh, after_value, after_comma, after_key, begins_colon, may_begin, may_close, if_allowed, place_token, punctuate, tokens}
use Rattle.json.specs.Lex as lexeme
use Rattle.json.specs.Align.{span_byte, span}
use Rattle.json.specs.Json as json
use Rattle.json.specs.Json.{Parse, parse_map, after_end_array, read_key, items_step, members_step, value_with}
use Rattle.journal_room.proofs.ContentLengths.{AtMost, content-span}
use Rattle.std.specs.Ordering.{match_ordering}
use Rattle.std.specs.declared.cmp.Ordering.{Ordering}
use Rattle.std.specs.declared.cmp.Ordering.TheVariants.{Less, Equal, Greater}
use Rattle.canonical_json.specs.Value.{Value, null, flag, int, decimal, text, list, object, Values, no_values, item, Members, no_members, member}
use Rattle.canonical_json.specs.Name.{name_cmp, put, put_all}
use Rattle.canonical_json.specs.Number.{lowest, is_decimal, greatest, exact, parts_of, is_negative, number_in, number_value, or_null, is_fraction, is_big}
use Rattle.canonical_json.specs.declared.fault.ReadError.TheVariants.{NotJson, Repeated, Fraction, Range}
use Rattle.canonical_json.specs.Reading.{deepest, tree_of, has_repeated, has_number, value_of, values_of_items, members_of_members, value_in_tree, Reads}
use Rattle.canonical_json.proofs.Trees.{value_in-tree}

-- ---- weights: what of a text's length is sure

-- of a value: a byte for each text and two for each name, beside their bytes
abbrev mutual
  pub weight : Value → ℕ
  weight null = 0
  weight (flag b) = 0
  weight (int z) = 0
  weight (decimal z s) = 0
  weight (text s) = 1 + length s
  weight (list vs) = weight_of_values vs
  weight (object ms) = weight_of_members ms

  pub weight_of_values : Values → ℕ
  weight_of_values no_values = 0
  weight_of_values (item v vs) = weight v + weight_of_values vs

  pub weight_of_members : Members → ℕ
  weight_of_members no_members = 0
  weight_of_members (member name v ms) = 2 + length name + weight v + weight_of_members ms

-- of a tree of the grammar
abbrev mutual
  of_tree : json.Json → ℕ
  of_tree json.null = 0
  of_tree (json.boolean b) = 0
  of_tree (json.number s) = 0
  of_tree (json.string s) = 1 + length s
  of_tree (json.array js) = of_items js
  of_tree (json.object ms) = of_members ms

  of_items : json.Items → ℕ
  of_items json.no_items = 0
  of_items (json.item j js) = of_tree j + of_items js

  of_members : json.Members → ℕ
  of_members json.no_members = 0
  of_members (json.member name j ms) = 2 + length name + of_tree j + of_members ms

-- of a token
abbrev of_token : Token → ℕ
of_token token.begin_object = 0
of_token token.end_object = 0
of_token token.begin_array = 0
of_token token.end_array = 0
of_token (token.key s) = 2 + length s
of_token (token.string s) = 1 + length s
of_token (token.number s) = 0
of_token (token.boolean b) = 0
of_token token.null = 0
of_token token.bad = 0

abbrev of_tokens : List Token → ℕ
of_tokens [] = 0
of_tokens (t ∷ ts) = of_token t + of_tokens ts

-- of a lexeme: a colon is a byte, which a key takes over
abbrev of_lexeme : Lexeme → ℕ
of_lexeme (lexeme.token t) = of_token t
of_lexeme comma = 0
of_lexeme colon = 1

abbrev of_lexemes : List Lexeme → ℕ
of_lexemes [] = 0
of_lexemes (l ∷ ls) = of_lexeme l + of_lexemes ls

-- ---- the lexer

of_operator : (x : ℕ) → of_lexeme (operator_lexeme x) ≤ 1
of_operator x = by (x == ascii.open_brace) (x == ascii.close_brace) (x == ascii.open_bracket) (x == ascii.close_bracket) (x == ascii.comma)
  where
    by : (a b c d e : Bool) → of_lexeme (cond a (lexeme.token token.begin_object) (cond b (lexeme.token token.end_object) (cond c (lexeme.token token.begin_array) (cond d (lexeme.token token.end_array) (cond e comma colon))))) ≤ 1
    by true b c d e = omega arith
    by false true c d e = omega arith
    by false false true d e = omega arith
    by false false false true e = omega arith
    by false false false false true = omega arith
    by false false false false false = omega arith

of_string : (n : ℕ) (s : Option (List ℕ)) → AtMost n s → of_token (string_token s) ≤ 1 + n
of_string n None le = omega arith
of_string n (Some s) le = omega arith

-- a word is no key and no text
choose : (b : Bool) (x y : Token) → of_token x ≡ 0 → of_token y ≡ 0 → of_token (cond b x y) ≡ 0
choose true x y p q = p
choose false x y p q = q

of_number : (t : List ℕ) (rest : Option (List ℕ)) → of_token (number_before t rest) ≡ 0
of_number t None = refl
of_number t (Some rest) = choose (ends_word rest) _ _ refl refl

of_literal : (name : List ℕ) (k : Token) (t : List ℕ) → of_token k ≡ 0 → of_token (literal name k t) ≡ 0
of_literal name k t e =
    choose (starts_with nat_eq t name && ends_word (drop (length name) t)) k token.bad e refl

of_word : (t : List ℕ) → of_token (word t) ≡ 0
unfolding word
of_word t =
    choose (head t == ascii.lower_t) _ _ (of_literal ascii.true_text (token.boolean true) t refl)
    (choose (head t == ascii.lower_f) _ _ (of_literal ascii.false_text (token.boolean false) t refl)
    (choose (head t == ascii.lower_n) _ _ (of_literal ascii.null_text token.null t refl)
    (of_number t (after_number t))))

-- what the lexer has still to pass of a string, and the lexemes behind it
lexed_byte : (m : Mode) (c : Class) (x : ℕ) (xs : List ℕ) (k : Mode → List Lexeme) (s : Mode → ℕ)
    → ((n : Mode) → s n + of_lexemes (k n) ≤ length xs) → AtMost (s in_string) (content plain xs)
    → span_byte m c s + of_lexemes (lex_byte m c x xs k) ≤ 1 + length xs
lexed_byte between quote x xs k s more within =
    omega (arith, more in_string, of_string (s in_string) (content plain xs) within)
lexed_byte between backslash x xs k s more within = omega (arith, more in_word)
lexed_byte between operator x xs k s more within = omega (arith, more between, of_operator x)
lexed_byte between space x xs k s more within = omega (arith, more between)
lexed_byte between other x xs k s more within = omega (arith, more in_word, of_word (x ∷ xs))
lexed_byte in_word quote x xs k s more within = omega (arith, more in_word)
lexed_byte in_word backslash x xs k s more within = omega (arith, more in_word)
lexed_byte in_word operator x xs k s more within = omega (arith, more between, of_operator x)
lexed_byte in_word space x xs k s more within = omega (arith, more between)
lexed_byte in_word other x xs k s more within = omega (arith, more in_word)
lexed_byte in_string quote x xs k s more within = omega (arith, more between)
lexed_byte in_string backslash x xs k s more within = omega (arith, more in_escape)
lexed_byte in_string operator x xs k s more within = omega (arith, more in_string)
lexed_byte in_string space x xs k s more within = omega (arith, more in_string)
lexed_byte in_string other x xs k s more within = omega (arith, more in_string)
lexed_byte in_escape c x xs k s more within = omega (arith, more in_string)

lexed : (m : Mode) (xs : List ℕ) → span m xs + of_lexemes (lex m xs) ≤ length xs
unfolding lex span
lexed m [] = omega arith
lexed m (x ∷ xs) =
    let byte = lexed_byte m (class x) x xs (λ next. lex next xs) (λ next. span next xs) (λ n. lexed n xs)
    (content-span plain xs) in
    omega (arith, byte)

-- ---- commas and colons

if_allowed_at_most : (b : Bool) (t : Token) (k : Place → List Token) (next : Place) (n : ℕ)
    → of_token t + of_tokens (k next) ≤ n → of_tokens (if_allowed b t k next) ≤ n
if_allowed_at_most true t k next n le = le
if_allowed_at_most false t k next n le = omega arith

placed : (p : Place) (t : Token) (before_colon : Bool) (k : Place → List Token) (n : ℕ)
    → ((next : Place) → of_tokens (k next) ≤ n) → (before_colon ≡ true → 1 + of_tokens (k after_key) ≤ n)
    → of_tokens (place_token p t before_colon k) ≤ of_token t + n
placed p token.begin_object b k n more key = if_allowed_at_most (may_begin p) _ k fresh _ (omega (arith, more fresh))
placed p token.end_object b k n more key = if_allowed_at_most (may_close p) _ k after_value _ (omega (arith, more after_value))
placed p token.begin_array b k n more key = if_allowed_at_most (may_begin p) _ k fresh _ (omega (arith, more fresh))
placed p token.end_array b k n more key = if_allowed_at_most (may_close p) _ k after_value _ (omega (arith, more after_value))
placed p (token.key s) b k n more key = omega arith
placed p (token.string s) true k n more key =
    if_allowed_at_most (may_begin p) _ k after_key _ (omega (arith, key refl))
placed p (token.string s) false k n more key =
    if_allowed_at_most (may_begin p) _ k after_value _ (omega (arith, more after_value))
placed p (token.number s) b k n more key = if_allowed_at_most (may_begin p) _ k after_value _ (omega (arith, more after_value))
placed p (token.boolean v) b k n more key = if_allowed_at_most (may_begin p) _ k after_value _ (omega (arith, more after_value))
placed p token.null b k n more key = if_allowed_at_most (may_begin p) _ k after_value _ (omega (arith, more after_value))
placed p token.bad b k n more key = omega arith

-- the tokens weigh no more than the lexemes, and behind a key they lack the colon
record IsPunctuated (ls : List Lexeme) : Type 0 where
  all : (p : Place) → of_tokens (punctuate p ls) ≤ of_lexemes ls
  colon : begins_colon ls ≡ true → 1 + of_tokens (punctuate after_key ls) ≤ of_lexemes ls

at_end : (p : Place) → of_tokens (punctuate p []) ≤ 0
unfolding punctuate
at_end fresh = omega arith
at_end after_value = omega arith
at_end after_comma = omega arith
at_end after_key = omega arith

at_token : (t : Token) (ls : List Lexeme) → IsPunctuated ls → (p : Place)
    → of_tokens (punctuate p (lexeme.token t ∷ ls)) ≤ of_token t + of_lexemes ls
unfolding punctuate
at_token t ls is fresh = placed fresh t (begins_colon ls) (λ next. punctuate next ls) _ is.all is.colon
at_token t ls is after_value = placed after_value t (begins_colon ls) (λ next. punctuate next ls) _ is.all is.colon
at_token t ls is after_comma = placed after_comma t (begins_colon ls) (λ next. punctuate next ls) _ is.all is.colon
at_token t ls is after_key = placed after_key t (begins_colon ls) (λ next. punctuate next ls) _ is.all is.colon

at_comma : (ls : List Lexeme) → IsPunctuated ls → (p : Place) → of_tokens (punctuate p (comma ∷ ls)) ≤ of_lexemes ls
unfolding punctuate
at_comma ls is fresh = omega arith
at_comma ls is after_value = is.all after_comma
at_comma ls is after_comma = omega arith
at_comma ls is after_key = omega arith

at_colon : (ls : List Lexeme) → IsPunctuated ls → (p : Place) → of_tokens (punctuate p (colon ∷ ls)) ≤ of_lexemes ls
unfolding punctuate
at_colon ls is fresh = omega arith
at_colon ls is after_value = omega arith
at_colon ls is after_comma = omega arith
at_colon ls is after_key = is.all fresh

punctuated : (ls : List Lexeme) → IsPunctuated ls
punctuated [] = record { all = at_end; colon = λ e. cc e }
punctuated (lexeme.token t ∷ ls) = record { all = at_token t ls (punctuated ls); colon = λ e. cc e }
punctuated (comma ∷ ls) = record { all = λ p. omega (arith, at_comma ls (punctuated ls) p); colon = λ e. cc e }
punctuated (colon ∷ ls) = record {
  all = λ p. omega (arith, at_colon ls (punctuated ls) p);
  colon = λ e. omega (arith, at_colon ls (punctuated ls) after_key);
}

of_tokens-text : (bytes : List ℕ) → of_tokens (tokens bytes) ≤ length bytes
of_tokens-text bytes = omega (arith, (punctuated (lex between bytes)).all fresh, lexed between bytes)

-- ---- the grammar

-- what is read and what is left weigh at most n
abbrev Leaves : {A : Type 0} → (A → ℕ) → ℕ → Option (A × List Token) → Type 0
Leaves f n None = ⊤
Leaves f n (Some p) = f p.0 + of_tokens p.1 ≤ n

abbrev Within : {A : Type 0} → (A → ℕ) → Parse A → Type 0
Within f p = (ts : List Token) → Leaves f (of_tokens ts) (p ts)

mapped : {A B : Type 0} (f : A → ℕ) (g : B → ℕ) (n m : ℕ) (h : A → B) → ((a : A) (k : ℕ) → f a + k ≤ n → g (h a) + k ≤ m)
    → (o : Option (A × List Token)) → Leaves f n o → Leaves g m (parse_map h o)
mapped f g n m h k None x = tt
mapped f g n m h k (Some p) x = k p.0 (of_tokens p.1) x

and_more : {B : Type 0} (g : B → ℕ) (n m : ℕ) (h : json.Json → B → B)
    → ((j : json.Json) (b : B) (k : ℕ) → of_tree j + (g b + k) ≤ n → g (h j b) + k ≤ m) → (more : Parse B) → Within g more
    → (o : Option (json.Json × List Token)) → Leaves of_tree n o
    → Leaves g m (option_and_then (λ q. parse_map (h q.0) (more q.1)) o)
and_more g n m h is more within None x = tt
and_more g n m h is more within (Some q) x =
    mapped g g (of_tokens q.1) m (h q.0) (λ b k y. is q.0 b k (omega arith)) _ (within q.1)

after_end : (ts : List Token) (r : List Token) → after_end_array ts ≡ Some r → of_tokens r ≤ of_tokens ts
after_end [] r e = cc e
after_end (token.begin_object ∷ ts) r e = cc e
after_end (token.end_object ∷ ts) r e = cc e
after_end (token.begin_array ∷ ts) r e = cc e
after_end (token.end_array ∷ ts) r e = let same : ts ≡ r = cc e in omega (arith, ap of_tokens same)
after_end (token.key s ∷ ts) r e = cc e
after_end (token.string s ∷ ts) r e = cc e
after_end (token.number s ∷ ts) r e = cc e
after_end (token.boolean b ∷ ts) r e = cc e
after_end (token.null ∷ ts) r e = cc e
after_end (token.bad ∷ ts) r e = cc e

-- the weight of a key, and 0 at the end
abbrev of_key : Option (List ℕ) → ℕ
of_key None = 0
of_key (Some s) = 2 + length s

key_leaves : (ts : List Token) → Leaves of_key (of_tokens ts) (read_key ts)
key_leaves [] = tt
key_leaves (token.begin_object ∷ ts) = tt
key_leaves (token.end_object ∷ ts) = omega arith
key_leaves (token.begin_array ∷ ts) = tt
key_leaves (token.end_array ∷ ts) = tt
key_leaves (token.key s ∷ ts) = omega arith
key_leaves (token.string s ∷ ts) = tt
key_leaves (token.number s ∷ ts) = tt
key_leaves (token.boolean b ∷ ts) = tt
key_leaves (token.null ∷ ts) = tt
key_leaves (token.bad ∷ ts) = tt

module _ (p : Parse json.Json) (within : Within of_tree p) where
  item_turn : (more : Parse json.Items) → Within of_items more → (ts : List Token) (o : Option (List Token))
      → after_end_array ts ≡ o → Leaves of_items (of_tokens ts) (items_step p more ts o)
  item_turn more again ts (Some r) e = omega (arith, after_end ts r e)
  item_turn more again ts None e =
      and_more of_items (of_tokens ts) (of_tokens ts) json.item (λ j b k le. omega arith) more again (p ts) (within ts)

  Within-items : (n : ℕ) → Within of_items (json.items p n)
  unfolding json.items
  Within-items zero ts = tt
  Within-items (suc n) ts = item_turn (json.items p n) (Within-items n) ts (after_end_array ts) refl

  member_turn : (more : Parse json.Members) → Within of_members more → (n : ℕ)
      → (o : Option (Option (List ℕ) × List Token)) → Leaves of_key n o
      → Leaves of_members n (option_and_then (λ q. members_step p more q.0 q.1) o)
  member_turn more again n None x = tt
  member_turn more again n (Some (None, s)) x = omega arith
  member_turn more again n (Some (Some name, s)) x =
      and_more of_members (of_tokens s) n (json.member name) (λ j b k le. omega arith) more again (p s) (within s)

  Within-members : (n : ℕ) → Within of_members (json.members p n)
  unfolding json.members
  Within-members zero ts = tt
  Within-members (suc n) ts = member_turn (json.members p n) (Within-members n) (of_tokens ts) (read_key ts) (key_leaves ts)

one_level : (a : Parse json.Items) (o : Parse json.Members) → Within of_items a → Within of_members o
    → Within of_tree (value_with a o)
one_level a o p q [] = tt
one_level a o p q (token.begin_object ∷ ts) = mapped of_members of_tree (of_tokens ts) (0 + of_tokens ts) json.object (λ b k le. omega arith) (o ts) (q ts)
one_level a o p q (token.end_object ∷ ts) = tt
one_level a o p q (token.begin_array ∷ ts) = mapped of_items of_tree (of_tokens ts) (0 + of_tokens ts) json.array (λ b k le. omega arith) (a ts) (p ts)
one_level a o p q (token.end_array ∷ ts) = tt
one_level a o p q (token.key s ∷ ts) = tt
one_level a o p q (token.string s ∷ ts) = omega arith
one_level a o p q (token.number s ∷ ts) = omega arith
one_level a o p q (token.boolean b ∷ ts) = omega arith
one_level a o p q (token.null ∷ ts) = omega arith
one_level a o p q (token.bad ∷ ts) = tt

Within-value : (d : ℕ) → Within of_tree (json.value d)
unfolding json.value
Within-value zero = one_level (λ ts. None) (λ ts. None) (λ ts. tt) (λ ts. tt)
Within-value (suc d) =
    one_level (λ ts. json.items (json.value d) (length ts) ts) (λ ts. json.members (json.value d) (length ts) ts)
    (λ ts. Within-items (json.value d) (Within-value d) (length ts) ts)
    (λ ts. Within-members (json.value d) (Within-value d) (length ts) ts)

last : (n : ℕ) (o : Option (json.Json × List Token)) (t : json.Json) → Leaves of_tree n o
    → option_and_then (λ p. json.if_last p.0 p.1) o ≡ Some t → of_tree t ≤ n
last n None t x e = cc e
last n (Some (j, [])) t x e = let same : j ≡ t = cc e in omega (arith, ap of_tree same)
last n (Some (j, r ∷ rs)) t x e = cc e

of_tree-text : (bytes : List ℕ) (t : json.Json) → tree_of bytes ≡ Some t → of_tree t ≤ length bytes
of_tree-text bytes t e = by (is_utf8 bytes) e
  where
    by : (b : Bool)
        → cond b (option_and_then (λ p. json.if_last p.0 p.1) (json.value deepest (tokens bytes))) None ≡ Some t
        → of_tree t ≤ length bytes
    by true e =
        omega (
          arith,
          last (of_tokens (tokens bytes)) (json.value deepest (tokens bytes)) t (Within-value deepest (tokens bytes)) e,
          of_tokens-text bytes,
        )
    by false e = cc e

-- ---- values

exact_weighs : (negative : Bool) (r : ℕ × ℕ) → weight (or_null (exact negative r)) ≡ 0
exact_weighs negative (n, zero) = either (nat_le n greatest)
  where
    either : (b : Bool) → weight (or_null (cond b (Ok (int (with_sign negative n))) (Err Range))) ≡ 0
    either true = refl
    either false = refl
exact_weighs negative (n, suc s) = either (is_decimal n (suc s))
  where
    either : (b : Bool) → weight (or_null (cond b (Ok (decimal (with_sign negative n) (suc s))) (Err Fraction))) ≡ 0
    either true = refl
    either false = refl

parts_weigh : (negative : Bool) (p : Parts) (b : Bool)
    → weight (or_null (cond b (exact negative (lowest (digits_of p) (length p.fraction))) (Err Fraction))) ≡ 0
parts_weigh negative p true = exact_weighs negative (lowest (digits_of p) (length p.fraction))
parts_weigh negative p false = refl

number_weighs : (s : List ℕ) → weight (number_value s) ≡ 0
unfolding number_in
number_weighs s = parts_weigh (is_negative s) (parts_of s) (length (parts_of s).exponent == 0)

put_weighs : (name : List ℕ) (v : Value) (ms : Members)
    → weight_of_members (put name v ms) ≤ 2 + length name + weight v + weight_of_members ms
put_weighs name v no_members = omega arith
put_weighs name v (member next w ms) = by (name_cmp name next) (put_weighs name v ms)
  where
    by : (order : Ordering) → weight_of_members (put name v ms) ≤ 2 + length name + weight v + weight_of_members ms
        → weight_of_members (match_ordering order (member name v (member next w ms)) (member next v ms) (member next w (put name v ms)))
        ≤ 2 + length name + weight v + (2 + length next + weight w + weight_of_members ms)
    by Less more = omega arith
    by Equal more = omega arith
    by Greater more = omega arith

put_all_weighs : (ms there : Members)
    → weight_of_members (put_all ms there) ≤ weight_of_members ms + weight_of_members there
put_all_weighs no_members there = omega arith
put_all_weighs (member name v ms) there = omega (arith, put_all_weighs ms (put name v there), put_weighs name v there)

mutual
  value_weighs : (t : json.Json) → weight (value_of t) ≤ of_tree t
  value_weighs json.null = omega arith
  value_weighs (json.boolean b) = omega arith
  value_weighs (json.number s) = omega (arith, number_weighs s)
  value_weighs (json.string s) = omega arith
  value_weighs (json.array js) = values_weigh js
  value_weighs (json.object ms) = omega (arith, put_all_weighs (members_of_members ms) no_members, members_weigh ms)

  values_weigh : (js : json.Items) → weight_of_values (values_of_items js) ≤ of_items js
  values_weigh json.no_items = omega arith
  values_weigh (json.item j js) = omega (arith, value_weighs j, values_weigh js)

  members_weigh : (ms : json.Members) → weight_of_members (members_of_members ms) ≤ of_members ms
  members_weigh json.no_members = omega arith
  members_weigh (json.member name j ms) = omega (arith, value_weighs j, members_weigh ms)

tree_weighs : (t : json.Json) (v : Value) → value_in_tree t ≡ Ok v → weight v ≤ of_tree t
tree_weighs t v e = by (has_repeated t) (has_number is_fraction t) (has_number is_big t) e
  where
    by : (a b c : Bool)
        → cond a (Err Repeated) (cond b (Err Fraction) (cond c (Err Range) (Ok (value_of t)))) ≡ Ok v
        → weight v ≤ of_tree t
    by true b c e = cc e
    by false true c e = cc e
    by false false true e = cc e
    by false false false e = let same : value_of t ≡ v = cc e in omega (arith, ap weight same, value_weighs t)

-- a text that reads as a value is no shorter than the names and the texts in it
pub weight-text : (bytes : List ℕ) (v : Value) → Reads bytes v → weight v ≤ length bytes
weight-text bytes v reads = by (tree_of bytes) refl
  where
    by : (o : Option json.Json) → tree_of bytes ≡ o → weight v ≤ length bytes
    by None e = let clash : Err NotJson ≡ Ok v = sym (value_in-tree bytes None e) ∙ reads in cc clash
    by (Some t) e =
        let read : value_in_tree t ≡ Ok v = sym (value_in-tree bytes (Some t) e) ∙ reads in
        omega (arith, tree_weighs t v read, of_tree-text bytes t e)
