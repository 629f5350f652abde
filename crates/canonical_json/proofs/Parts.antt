-- For crates above: the parts of a lawful value are lawful, those of a value with UTF-8 texts have them, and a text reads as one value.
use Rattle.std.proofs.Common.{◌≡◌, ℕ, List, Bool, true, false, cond, Ok, Err, Result, Some, bytes_eq, unwrap_or, sym, ap, ◌∙◌, subst}
use Rattle.std.proofs.lemmas.Bool.{and_parts}
use Rattle.canonical_json.specs.Value.{Value, null, flag, int, decimal, text, list, object, Members, no_members, member}
use Rattle.canonical_json.specs.Name.{names_rise}
use Rattle.canonical_json.specs.Lawful.{IsLawful, is_lawful, members_are_lawful, HasTexts, MembersHaveTexts}
use Rattle.canonical_json.specs.Reading.{Reads}
use Rattle.canonical_json.specs.Field.{under, member_of}
use Rattle.canonical_json.specs.declared.fault.ReadError.{ReadError}

is_lawful-under : (name : List ℕ) (ms : Members) (w : Value) → members_are_lawful ms ≡ true → under name ms ≡ Some w → IsLawful w
is_lawful-under name no_members w h e = absurd (cc)
is_lawful-under name (member other v ms) w h e =
    let p = and_parts (is_lawful v) (members_are_lawful ms) h in by p.0 (is_lawful-under name ms w p.1) (bytes_eq other name) e
  where
    by : is_lawful v ≡ true → (under name ms ≡ Some w → IsLawful w) → (b : Bool) → cond b (Some v) (under name ms) ≡ Some w → IsLawful w
    by first rest true e = ap (λ o. is_lawful (unwrap_or o v)) (sym e) ∙ first
    by first rest false e = rest e

-- a member of a lawful object is lawful
pub is_lawful-member_of : (name : List ℕ) (v w : Value) → IsLawful v → member_of name v ≡ Some w → IsLawful w
is_lawful-member_of name null w h e = absurd (cc)
is_lawful-member_of name (flag b) w h e = absurd (cc)
is_lawful-member_of name (int z) w h e = absurd (cc)
is_lawful-member_of name (decimal z s) w h e = absurd (cc)
is_lawful-member_of name (text s) w h e = absurd (cc)
is_lawful-member_of name (list vs) w h e = absurd (cc)
is_lawful-member_of name (object ms) w h e = is_lawful-under name ms w (and_parts (names_rise ms) (members_are_lawful ms) h).1 e

-- what stands under a name among members with UTF-8 texts has them too
pub HasTexts-under : (name : List ℕ) (ms : Members) (w : Value) → MembersHaveTexts ms → under name ms ≡ Some w → HasTexts w
HasTexts-under name no_members w h e = absurd (cc)
HasTexts-under name (member other v ms) w h e = by (HasTexts-under name ms w h.2) (bytes_eq other name) e
  where
    by : (under name ms ≡ Some w → HasTexts w) → (b : Bool) → cond b (Some v) (under name ms) ≡ Some w → HasTexts w
    by rest true e = subst HasTexts (ap (λ o. unwrap_or o v) e) h.1
    by rest false e = rest e

-- a member of an object with UTF-8 texts has them too
pub HasTexts-member_of : (name : List ℕ) (v w : Value) → HasTexts v → member_of name v ≡ Some w → HasTexts w
HasTexts-member_of name null w h e = absurd (cc)
HasTexts-member_of name (flag b) w h e = absurd (cc)
HasTexts-member_of name (int z) w h e = absurd (cc)
HasTexts-member_of name (decimal z s) w h e = absurd (cc)
HasTexts-member_of name (text s) w h e = absurd (cc)
HasTexts-member_of name (list vs) w h e = absurd (cc)
HasTexts-member_of name (object ms) w h e = HasTexts-under name ms w h e

abbrev or_else : Value → Result Value ReadError → Value
or_else v (Ok w) = w
or_else v (Err e) = v

-- a text reads as one value at most
pub Reads_once : (bytes : List ℕ) (v w : Value) → Reads bytes v → Reads bytes w → v ≡ w
Reads_once bytes v w r s = ap (or_else v) (sym r ∙ s)
