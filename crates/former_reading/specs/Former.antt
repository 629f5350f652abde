-- How texts were read before decimals: by `serde_json`, and the last of several members with one name stays.
use Rattle.std.specs.Prelude.{◌≡◌, ℕ, ℤ, pos, List, Bool, false, ◌||◌, Some, option_map, unwrap_or}
use Rattle.std.specs.Str.{IsUtf8}
use Rattle.serde_json.specs.Data as reading
use Rattle.serde_json.specs.Data.{Num, Data}
use Rattle.serde_json.specs.Find.{as_i64, as_integer}
use Rattle.serde_json.specs.Read as serde
use Rattle.serde_json.specs.Written.{has_float}
use Rattle.canonical_json.specs.Value.{Value, null, flag, int, text, list, object, Values, no_values, item, Members, no_members, member}
use Rattle.canonical_json.specs.Name.{in_order}
use Rattle.canonical_json.specs.Lawful.{is_out_of_range}

-- serde_json reads the bytes as this data
abbrev pub IsReading : List ℕ → Data → Type 0
IsReading bytes d = IsUtf8 bytes × (serde.read bytes ≡ Some d)

-- a number is whole and out of range
abbrev pub is_big : Num → Bool
is_big n = unwrap_or (option_map is_out_of_range (as_integer n)) false

-- some number of the data is whole and out of range
abbrev mutual
  pub has_big : Data → Bool
  has_big reading.null = false
  has_big (reading.boolean b) = false
  has_big (reading.number n) = is_big n
  has_big (reading.string s) = false
  has_big (reading.array ds) = items_have_big ds
  has_big (reading.object ms) = members_have_big ms

  pub items_have_big : reading.Items → Bool
  items_have_big reading.no_items = false
  items_have_big (reading.item d ds) = has_big d || items_have_big ds

  pub members_have_big : reading.Members → Bool
  members_have_big reading.no_members = false
  members_have_big (reading.member name d ms) = has_big d || members_have_big ms

-- the whole number, or 0 where it is none of 64 bits with a sign
abbrev pub whole_number : Num → ℤ
whole_number n = unwrap_or (as_i64 n) (pos 0)

-- the value of the data, with the members of each object in order
abbrev mutual
  pub value_of : Data → Value
  value_of reading.null = null
  value_of (reading.boolean b) = flag b
  value_of (reading.number n) = int (whole_number n)
  value_of (reading.string s) = text s
  value_of (reading.array ds) = list (values_of_items ds)
  value_of (reading.object ms) = object (in_order (members_of_members ms))

  pub values_of_items : reading.Items → Values
  values_of_items reading.no_items = no_values
  values_of_items (reading.item d ds) = item (value_of d) (values_of_items ds)

  pub members_of_members : reading.Members → Members
  members_of_members reading.no_members = no_members
  members_of_members (reading.member name d ms) = member name (value_of d) (members_of_members ms)

-- the bytes are JSON with whole numbers in range alone, and this is its value
abbrev pub FormerlyReads : List ℕ → Value → Type 0
FormerlyReads bytes v = (d : Data) × IsReading bytes d × (has_float d ≡ false) × (has_big d ≡ false) × (v ≡ value_of d)
