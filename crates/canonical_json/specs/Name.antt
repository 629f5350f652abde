-- Names in the order of RFC 8785, section 3.2.3: as sequences of UTF-16 code units.
use Rattle.std.specs.Prelude.{◌≢◌, ℕ, ◌+◌, List, Bool, true, ◌&&◌, ◌||◌, ◌==◌, flat_map, nat_lt, nat_le, if◌then◌else◌}
use Rattle.std.specs.declared.cmp.Ordering.{Ordering}
use Rattle.std.specs.declared.cmp.Ordering.TheVariants.{Equal}
use Rattle.std.specs.Ordering.{nat_cmp, match_ordering, is_lt}
use Rattle.std.specs.Char.Escape.{encode_utf16}
use Rattle.std.specs.Cmp.Lexicographic.{slice_cmp}
use Rattle.std.specs.Str.{chars}
use Rattle.canonical_json.specs.Value.{Value, Members, no_members, member}

-- the UTF-16 code units of a name
abbrev pub units : List ℕ → List ℕ
units name = flat_map encode_utf16 (chars name)

-- where a character stands by its code units: the surrogates of U+10000 and above come before U+E000 to U+FFFF
abbrev pub units_rank : ℕ → ℕ
units_rank c = if nat_le 0xE000 c && nat_lt c 0x1_0000 then c + 0x11_0000 else c

-- where a byte of UTF-8 stands: 0xEE and 0xEF, which begin U+E000 to U+FFFF, come last
abbrev pub byte_rank : ℕ → ℕ
byte_rank b = if b == 0xEE || b == 0xEF then b + 0x100 else b

-- which of two names comes first
unfoldable pub name_cmp : List ℕ → List ℕ → Ordering
name_cmp a b = slice_cmp nat_cmp (units a) (units b)

-- the name comes before the first of the members
abbrev pub comes_before : List ℕ → Members → Bool
comes_before name no_members = true
comes_before name (member next v ms) = is_lt (name_cmp name next)

-- the names rise strictly
abbrev pub names_rise : Members → Bool
names_rise no_members = true
names_rise (member name v ms) = comes_before name ms && names_rise ms

-- the name differs from that of each member, and the names from one another
abbrev pub IsApart : List ℕ → Members → Type 0
IsApart name no_members = Unit {0}
IsApart name (member other v ms) = (name_cmp name other ≢ Equal) × IsApart name ms

abbrev pub AreApart : Members → Type 0
AreApart no_members = Unit {0}
AreApart (member name v ms) = IsApart name ms × AreApart ms

-- the members with v under the name, in its place by the order
abbrev pub put : List ℕ → Value → Members → Members
put name v no_members = member name v no_members
put name v (member other w ms) =
    match_ordering (name_cmp name other)
    (member name v (member other w ms)) (member other v ms) (member other w (put name v ms))

-- the members put one after another among those that are there
abbrev pub put_all : Members → Members → Members
put_all no_members there = there
put_all (member name v ms) there = put_all ms (put name v there)

-- the members in order; of one name that comes twice the last value stays
abbrev pub in_order : Members → Members
in_order ms = put_all ms no_members
