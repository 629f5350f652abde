-- The canonical text of a value: RFC 8785, sections 3.2.1 to 3.2.3. In the range of lawful numbers its section 3.2.2.3
-- writes plain decimals, with no exponent.
use Rattle.std.specs.Prelude.{ℕ, suc, ◌-◌, ℤ, pos, negsuc, List, [], ◌∷◌, ◌++◌, length, take, drop, replicate, Bool, true, false, codes, if◌then◌else◌}
use Rattle.std.specs.Fmt.{signed_decimal, decimal as digits_of}
use Rattle.json.specs.Print.{quoted}
use Rattle.canonical_json.specs.Value.{Value, null, flag, int, decimal, text, list, object, Values, no_values, item, Members, no_members, member}

-- a comma, where something stands before
abbrev pub comma_if : Bool → List ℕ
comma_if later = if later then 44 ∷ [] else []

-- the digits, filled with zeros in front to more than s of them
abbrev pub filled : ℕ → List ℕ → List ℕ
filled s digits = replicate (suc s - length digits) 48 ++ digits

-- the same, with a full stop before the last s
abbrev pub with_stop : ℕ → List ℕ → List ℕ
with_stop s digits =
    take (length (filled s digits) - s) (filled s digits)
    ++ 46 ∷ drop (length (filled s digits) - s) (filled s digits)

abbrev pub decimal_text : ℤ → ℕ → List ℕ
decimal_text (pos n) s = with_stop s (digits_of n)
decimal_text (negsuc n) s = 45 ∷ with_stop s (digits_of (suc n))

-- no white space; plain decimals; a text in quotes with the shortest escapes, `\u00xx` in lower case (section 3.2.2.2)
abbrev mutual
  pub canon : Value → List ℕ
  canon null = codes "null"
  canon (flag true) = codes "true"
  canon (flag false) = codes "false"
  canon (int z) = signed_decimal z
  canon (decimal z s) = decimal_text z s
  canon (text s) = quoted s
  canon (list vs) = 91 ∷ values_text false vs
  canon (object ms) = 123 ∷ members_text false ms

  -- with the closing bracket
  pub values_text : Bool → Values → List ℕ
  values_text later no_values = 93 ∷ []
  values_text later (item v vs) = comma_if later ++ (canon v ++ values_text true vs)

  -- with the closing brace
  pub members_text : Bool → Members → List ℕ
  members_text later no_members = 125 ∷ []
  members_text later (member name v ms) = comma_if later ++ (quoted name ++ 58 ∷ (canon v ++ members_text true ms))
