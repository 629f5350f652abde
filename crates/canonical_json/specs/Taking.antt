-- Taking a member out of an object.
use Rattle.std.specs.Prelude.{ℕ, suc, List, Option, Some, None, option_map, bytes_eq, if◌then◌else◌}
use Rattle.canonical_json.specs.Value.{Members, no_members, member}

-- where the first member of the name stands
abbrev pub place_of : List ℕ → Members → Option ℕ
place_of name no_members = None
place_of name (member other v ms) = if bytes_eq other name then Some 0 else option_map suc (place_of name ms)

-- the members without the first of the name
abbrev pub without : List ℕ → Members → Members
without name no_members = no_members
without name (member other v ms) = if bytes_eq other name then ms else member other v (without name ms)
