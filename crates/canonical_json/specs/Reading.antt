-- Which value a text is, or why it is none: the grammar of RFC 8259 over UTF-8 as the kit's `json` defines it (`Lex`
-- for sections 2 and 7, `Word` for 3 and 6, `Json` for 4 and 5), and the value of a tree of that grammar.
use Rattle.std.specs.Prelude.{◌≡◌, ℕ, List, [], ◌∷◌, Bool, false, ◌||◌, bytes_eq, if◌then◌else◌, Option, Some, None, option_and_then, Result, Ok, Err}
use Rattle.std.specs.Str.{is_utf8}
use Rattle.json.specs.Json as json
use Rattle.json.specs.Lex.{tokens}
use Rattle.json.specs.Strict.{keys}
use Rattle.canonical_json.specs.Value.{Value, null, flag, text, list, object, Values, no_values, item, Members, no_members, member}
use Rattle.canonical_json.specs.Name.{AreApart, in_order}
use Rattle.canonical_json.specs.Number.{is_fraction, is_big, number_value}
use Rattle.canonical_json.specs.declared.fault.ReadError.{ReadError}
use Rattle.canonical_json.specs.declared.fault.ReadError.TheVariants.{NotJson, Repeated, Fraction, Range, NoMemory}

-- how deep lists and objects may nest in a text
abbrev pub deepest : ℕ
deepest = 127

-- the tree that UTF-8 bytes are in the grammar, nested at most 127 deep; a lone surrogate has none
abbrev pub tree_of : List ℕ → Option json.Json
tree_of bytes =
    if is_utf8 bytes then option_and_then (λ p. json.if_last p.0 p.1) (json.value deepest (tokens bytes)) else None

-- some name stands among the names, and some name twice
abbrev pub has_name : List ℕ → List (List ℕ) → Bool
has_name name [] = false
has_name name (other ∷ names) = bytes_eq other name || has_name name names

abbrev pub repeats : List (List ℕ) → Bool
repeats [] = false
repeats (name ∷ names) = has_name name names || repeats names

-- the names of members
abbrev pub names_of : Members → List (List ℕ)
names_of no_members = []
names_of (member name v ms) = name ∷ names_of ms

-- some object of the tree has a name twice, when its escapes are read
abbrev mutual
  pub has_repeated : json.Json → Bool
  has_repeated json.null = false
  has_repeated (json.boolean b) = false
  has_repeated (json.number s) = false
  has_repeated (json.string s) = false
  has_repeated (json.array js) = items_have_repeated js
  has_repeated (json.object ms) = repeats (keys ms) || members_have_repeated ms

  pub items_have_repeated : json.Items → Bool
  items_have_repeated json.no_items = false
  items_have_repeated (json.item j js) = has_repeated j || items_have_repeated js

  pub members_have_repeated : json.Members → Bool
  members_have_repeated json.no_members = false
  members_have_repeated (json.member name j ms) = has_repeated j || members_have_repeated ms

-- some number of the tree passes the test
abbrev mutual
  pub has_number : (List ℕ → Bool) → json.Json → Bool
  has_number test json.null = false
  has_number test (json.boolean b) = false
  has_number test (json.number s) = test s
  has_number test (json.string s) = false
  has_number test (json.array js) = items_have_number test js
  has_number test (json.object ms) = members_have_number test ms

  pub items_have_number : (List ℕ → Bool) → json.Items → Bool
  items_have_number test json.no_items = false
  items_have_number test (json.item j js) = has_number test j || items_have_number test js

  pub members_have_number : (List ℕ → Bool) → json.Members → Bool
  members_have_number test json.no_members = false
  members_have_number test (json.member name j ms) = has_number test j || members_have_number test ms

-- the value of a tree, with the members of each object in order
abbrev mutual
  pub value_of : json.Json → Value
  value_of json.null = null
  value_of (json.boolean b) = flag b
  value_of (json.number s) = number_value s
  value_of (json.string s) = text s
  value_of (json.array js) = list (values_of_items js)
  value_of (json.object ms) = object (in_order (members_of_members ms))

  pub values_of_items : json.Items → Values
  values_of_items json.no_items = no_values
  values_of_items (json.item j js) = item (value_of j) (values_of_items js)

  pub members_of_members : json.Members → Members
  members_of_members json.no_members = no_members
  members_of_members (json.member name j ms) = member name (value_of j) (members_of_members ms)

-- the value of a tree, or the first of its faults: a name twice, a fraction or an exponent, a whole number out of range
abbrev pub value_in_tree : json.Json → Result Value ReadError
value_in_tree t =
    if has_repeated t then Err Repeated
    else (if has_number is_fraction t then Err Fraction
    else (if has_number is_big t then Err Range else Ok (value_of t)))

abbrev pub if_tree : Option json.Json → Result Value ReadError
if_tree None = Err NotJson
if_tree (Some t) = value_in_tree t

-- the value of a text, or why it has none
unfoldable pub value_in : List ℕ → Result Value ReadError
value_in bytes = if_tree (tree_of bytes)

-- the text is read as the value
abbrev pub Reads : List ℕ → Value → Type 0
Reads bytes v = value_in bytes ≡ Ok v

-- the text is refused for this reason; memory may run out on any text
abbrev pub IsFault : List ℕ → ReadError → Type 0
IsFault bytes NotJson = value_in bytes ≡ Err NotJson
IsFault bytes Repeated = value_in bytes ≡ Err Repeated
IsFault bytes Fraction = value_in bytes ≡ Err Fraction
IsFault bytes Range = value_in bytes ≡ Err Range
IsFault bytes NoMemory = Unit {0}

-- the text has no value
abbrev pub IsUnread : List ℕ → Type 0
IsUnread bytes = (v : Value) → ¬ Reads bytes v

-- each object of the tree has a name once, as names are compared by RFC 8259, section 8.3: code unit by code unit
abbrev mutual
  pub HasNamesOnce : json.Json → Type 0
  HasNamesOnce json.null = Unit {0}
  HasNamesOnce (json.boolean b) = Unit {0}
  HasNamesOnce (json.number s) = Unit {0}
  HasNamesOnce (json.string s) = Unit {0}
  HasNamesOnce (json.array js) = ItemsHaveNamesOnce js
  HasNamesOnce (json.object ms) = AreApart (members_of_members ms) × MembersHaveNamesOnce ms

  pub ItemsHaveNamesOnce : json.Items → Type 0
  ItemsHaveNamesOnce json.no_items = Unit {0}
  ItemsHaveNamesOnce (json.item j js) = HasNamesOnce j × ItemsHaveNamesOnce js

  pub MembersHaveNamesOnce : json.Members → Type 0
  MembersHaveNamesOnce json.no_members = Unit {0}
  MembersHaveNamesOnce (json.member name j ms) = HasNamesOnce j × MembersHaveNamesOnce ms

abbrev pub NamesOnce : List ℕ → Type 0
NamesOnce bytes = (t : json.Json) → tree_of bytes ≡ Some t → HasNamesOnce t
