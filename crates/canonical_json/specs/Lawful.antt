-- Which values have a canonical text: numbers that IEEE 754 doubles tell apart (RFC 8785, section 3.2.2.3), and names
-- in order.
use Rattle.std.specs.Prelude.{ℤ, pos, negsuc, Bool, true, not, ◌&&◌, ◌||◌, IsTrue, int_lt, unsigned_abs}
use Rattle.std.specs.Str.{IsUtf8}
use Rattle.canonical_json.specs.Value.{Value, null, flag, int, decimal, text, list, object, Values, no_values, item, Members, no_members, member}
use Rattle.canonical_json.specs.Name.{names_rise}
use Rattle.canonical_json.specs.Number.{is_decimal}

-- below -(2^53 - 1) or above 2^53 - 1
abbrev pub is_out_of_range : ℤ → Bool
is_out_of_range z = int_lt z (negsuc 9007199254740990) || int_lt (pos 9007199254740991) z

-- each whole number is in range, each decimal is one, and the names of each object rise strictly
abbrev mutual
  pub is_lawful : Value → Bool
  is_lawful null = true
  is_lawful (flag b) = true
  is_lawful (int z) = not (is_out_of_range z)
  is_lawful (decimal z s) = is_decimal (unsigned_abs z) s
  is_lawful (text s) = true
  is_lawful (list vs) = are_lawful vs
  is_lawful (object ms) = names_rise ms && members_are_lawful ms

  pub are_lawful : Values → Bool
  are_lawful no_values = true
  are_lawful (item v vs) = is_lawful v && are_lawful vs

  pub members_are_lawful : Members → Bool
  members_are_lawful no_members = true
  members_are_lawful (member name v ms) = is_lawful v && members_are_lawful ms

-- the value may be written
abbrev pub IsLawful : Value → Type 0
IsLawful v = IsTrue (is_lawful v)

-- each text and each name is UTF-8, as they are in every `Json`
abbrev mutual
  pub HasTexts : Value → Type 0
  HasTexts null = Unit {0}
  HasTexts (flag b) = Unit {0}
  HasTexts (int z) = Unit {0}
  HasTexts (decimal z s) = Unit {0}
  HasTexts (text s) = IsUtf8 s
  HasTexts (list vs) = HaveTexts vs
  HasTexts (object ms) = MembersHaveTexts ms

  pub HaveTexts : Values → Type 0
  HaveTexts no_values = Unit {0}
  HaveTexts (item v vs) = HasTexts v × HaveTexts vs

  pub MembersHaveTexts : Members → Type 0
  MembersHaveTexts no_members = Unit {0}
  MembersHaveTexts (member name v ms) = IsUtf8 name × HasTexts v × MembersHaveTexts ms
