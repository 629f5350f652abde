-- A text's tree, from what the kit reads.
use Rattle.std.proofs.Common.{◌≡◌, ℕ, List, [], ◌∷◌, Bool, true, false, true≢false, ◌||◌, Option, Some, None, Ok, Err, option_and_then, unwrap_or, cond, is_some, IsUtf8, refl, sym, ap, ◌∙◌, subst}
use Rattle.std.proofs.lemmas.Str.{is_utf8-from_IsUtf8, IsUtf8-from_is_utf8}
use Rattle.std.specs.Prelude.{MatchOption}
use Rattle.std.specs.Str.{is_utf8}
use Rattle.json.specs.Token.{Token}
use Rattle.json.specs.Lex.{tokens}
use Rattle.json.specs.Json as json
use Rattle.canonical_json.specs.Value.{Value}
use Rattle.canonical_json.specs.Number.{is_fraction, is_big}
use Rattle.canonical_json.specs.Faults.{no_faults, first_fault, Notes, IsStop}
use Rattle.canonical_json.specs.Reading.{tree_of, if_tree, value_in, value_of, has_repeated, has_number, IsFault}
use Rattle.canonical_json.specs.declared.faults.Faults.{Faults}
use Rattle.canonical_json.specs.declared.fault.ReadError.{ReadError}
use Rattle.canonical_json.specs.declared.fault.ReadError.TheVariants.{NotJson, Repeated, Fraction, Range}

-- UTF-8 is in the grammar as what the tokens are
pub tree_of-tokens : (bytes : List ℕ) (ts : List Token) → IsUtf8 bytes → ts ≡ tokens bytes → tree_of bytes ≡ option_and_then (λ p. json.if_last p.0 p.1) (json.value 127 ts)
tree_of-tokens bytes ts u e =
    ap (λ b. cond b (option_and_then (λ p. json.if_last p.0 p.1) (json.value 127 (tokens bytes))) None) (is_utf8-from_IsUtf8 bytes u)
    ∙ ap (λ l. option_and_then (λ p. json.if_last p.0 p.1) (json.value 127 l)) (sym e)

pub tree_of-value : (bytes : List ℕ) (ts : List Token) (o : Option (json.Json × List Token)) → IsUtf8 bytes → ts ≡ tokens bytes → json.value 127 ts ≡ o
    → tree_of bytes ≡ option_and_then (λ p. json.if_last p.0 p.1) o
tree_of-value bytes ts o u e f = tree_of-tokens bytes ts u e ∙ ap (option_and_then (λ p. json.if_last p.0 p.1)) f

pub value_in-tree : (bytes : List ℕ) (o : Option json.Json) → tree_of bytes ≡ o → value_in bytes ≡ if_tree o
unfolding value_in
value_in-tree bytes o e = ap if_tree e

-- a token behind the value, and none
module _ {A : Type 0} (of : A → Token) (j : json.Json) where
  pub if_last-more : (r : Option A) (left new : List Token) → MatchOption r ((left ≡ []) × (new ≡ [])) (λ t. left ≡ of t ∷ new) → is_some r ≡ true → json.if_last j left ≡ None
  if_last-more None left new next some = absurd (true≢false (sym some))
  if_last-more (Some t) left new next some = ap (json.if_last j) next

  pub if_last-none : (r : Option A) (left new : List Token) → MatchOption r ((left ≡ []) × (new ≡ [])) (λ t. left ≡ of t ∷ new) → is_some r ≡ false → json.if_last j left ≡ Some j
  if_last-none None left new next none = ap (json.if_last j) next.0
  if_last-none (Some t) left new next none = absurd (true≢false none)

-- where the grammar has no value the text has none
pub fault_of_stop : (bytes : List ℕ) (ts : List Token) (e : ReadError) → IsUtf8 bytes → ts ≡ tokens bytes → IsStop (json.value 127 ts) e → IsFault bytes e
fault_of_stop bytes ts ReadError.NotJson u e stop = value_in-tree bytes None (tree_of-value bytes ts None u e stop)
fault_of_stop bytes ts ReadError.Repeated u e stop = absurd stop
fault_of_stop bytes ts ReadError.Fraction u e stop = absurd stop
fault_of_stop bytes ts ReadError.Range u e stop = absurd stop
fault_of_stop bytes ts ReadError.NoMemory u e stop = tt

-- bytes that are no UTF-8 are no text
pub value_in-no_utf8 : (bytes : List ℕ) → ¬ IsUtf8 bytes → value_in bytes ≡ Err NotJson
value_in-no_utf8 bytes h = value_in-tree bytes None (by (is_utf8 bytes) refl)
  where
    by : (b : Bool) → is_utf8 bytes ≡ b → cond (is_utf8 bytes) (option_and_then (λ p. json.if_last p.0 p.1) (json.value 127 (tokens bytes))) None ≡ None
    by true e = absurd (h (IsUtf8-from_is_utf8 bytes e))
    by false e = ap (λ b. cond b (option_and_then (λ p. json.if_last p.0 p.1) (json.value 127 (tokens bytes))) None) e

-- ---- what was noted, and what is answered

or_false : (b : Bool) → (b || false) ≡ b
or_false true = refl
or_false false = refl

module _ (bytes : List ℕ) (t : json.Json) (old f : Faults) (tree : tree_of bytes ≡ Some t) (start : old ≡ no_faults)
    (noted : Notes old f (has_repeated t) (has_number is_fraction t) (has_number is_big t)) where
  repeated_is : f.repeated ≡ has_repeated t
  repeated_is = noted.0 ∙ ap (λ (o : Faults). has_repeated t || o.repeated) start ∙ or_false (has_repeated t)

  fraction_is : f.fraction ≡ has_number is_fraction t
  fraction_is = noted.1 ∙ ap (λ (o : Faults). has_number is_fraction t || o.fraction) start ∙ or_false (has_number is_fraction t)

  range_is : f.range ≡ has_number is_big t
  range_is = noted.2 ∙ ap (λ (o : Faults). has_number is_big t || o.range) start ∙ or_false (has_number is_big t)

  pick : (r q b : Bool) (v : Value) (e : ReadError) → value_in bytes ≡ cond r (Err Repeated) (cond q (Err Fraction) (cond b (Err Range) (Ok v)))
      → cond r (Some Repeated) (cond q (Some Fraction) (cond b (Some Range) None)) ≡ Some e → IsFault bytes e
  pick true q b v e is first = subst (IsFault bytes) (ap (λ o. unwrap_or o e) first) is
  pick false true b v e is first = subst (IsFault bytes) (ap (λ o. unwrap_or o e) first) is
  pick false false true v e is first = subst (IsFault bytes) (ap (λ o. unwrap_or o e) first) is
  pick false false false v e is first = absurd (cc)

  first_is : first_fault f ≡ cond (has_repeated t) (Some Repeated) (cond (has_number is_fraction t) (Some Fraction) (cond (has_number is_big t) (Some Range) None))
  first_is =
      ap (λ r. cond r (Some Repeated) (cond f.fraction (Some Fraction) (cond f.range (Some Range) None))) repeated_is
      ∙ ap (λ q. cond (has_repeated t) (Some Repeated) (cond q (Some Fraction) (cond f.range (Some Range) None))) fraction_is
      ∙ ap (λ b. cond (has_repeated t) (Some Repeated) (cond (has_number is_fraction t) (Some Fraction) (cond b (Some Range) None))) range_is

  -- the first fault is why the text has no value
  pub fault_named : (e : ReadError) → first_fault f ≡ Some e → IsFault bytes e
  fault_named e first = pick (has_repeated t) (has_number is_fraction t) (has_number is_big t) (value_of t) e (value_in-tree bytes (Some t) tree) (sym first_is ∙ first)

  none_of : (r q b : Bool) → cond r (Some Repeated) (cond q (Some Fraction) (cond b (Some Range) None)) ≡ None
      → value_in bytes ≡ cond r (Err Repeated) (cond q (Err Fraction) (cond b (Err Range) (Ok (value_of t)))) → (r ≡ false) × (value_in bytes ≡ Ok (value_of t))
  none_of true q b first is = absurd (cc)
  none_of false true b first is = absurd (cc)
  none_of false false true first is = absurd (cc)
  none_of false false false first is = (refl, is)

  -- without a fault it has the tree's
  pub no_fault : first_fault f ≡ None → (f.repeated ≡ false) × (value_in bytes ≡ Ok (value_of t))
  no_fault first =
      let n = none_of (has_repeated t) (has_number is_fraction t) (has_number is_big t) (sym first_is ∙ first) (value_in-tree bytes (Some t) tree) in
      (repeated_is ∙ n.0, n.1)
