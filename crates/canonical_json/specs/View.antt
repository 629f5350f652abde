-- How contracts see a `Json` and its lists: as the values of the model.
use Rattle.std.specs.Prelude.{ℕ, List, [], ◌∷◌, map}
use Rattle.canonical_json.specs.Value.{Value, null, flag, int, decimal, text, list, object, Values, no_values, item, Members, no_members, member}
use Rattle.canonical_json.specs.declared.value.Json.{Json, fold-Json}
use Rattle.canonical_json.specs.declared.value.JsonList.{JsonList, fold-JsonList}
use Rattle.canonical_json.specs.declared.value.Member.{Member, fold-Member}
use Rattle.canonical_json.specs.declared.value.MemberList.{MemberList, fold-MemberList}
use Rattle.canonical_json.specs.declared.value.Json.TheViews.{out-MemberList}
use Rattle.canonical_json.specs.declared.value.Json.TheOpen.{Json-F, JsonList-F, Member-F, MemberList-F}

-- a name and what stands under it
abbrev pub Entry : Type 0
Entry = List ℕ × Value

abbrev pub values_of : List Value → Values
values_of [] = no_values
values_of (v ∷ vs) = item v (values_of vs)

abbrev pub members_of : List Entry → Members
members_of [] = no_members
members_of (e ∷ es) = member e.0 e.1 (members_of es)

-- one level, with each part inside already seen as its value
abbrev pub json_step : Json-F Value Values Entry Members → Value
json_step Json-F.Null = null
json_step (Json-F.Flag b) = flag b
json_step (Json-F.Int z) = int z
json_step (Json-F.Decimal z s) = decimal z s
json_step (Json-F.Text s) = text s
json_step (Json-F.List vs) = list vs
json_step (Json-F.Object ms) = object ms

abbrev pub list_step : JsonList-F Value Values Entry Members → Values
list_step l = values_of l.items.items

abbrev pub member_step : Member-F Value Values Entry Members → Entry
member_step m = (m.name, m.value)

abbrev pub object_step : MemberList-F Value Values Entry Members → Members
object_step l = members_of l.items.items

-- the value of a `Json`
abbrev pub view : Json → Value
view = fold-Json Value Values Entry Members json_step list_step member_step object_step

-- the values of a `JsonList`
abbrev pub list_view : JsonList → Values
list_view = fold-JsonList Value Values Entry Members json_step list_step member_step object_step

-- the name and the value of a `Member`
abbrev pub member_view : Member → Entry
member_view = fold-Member Value Values Entry Members json_step list_step member_step object_step

-- the members of a `MemberList`
abbrev pub object_view : MemberList → Members
object_view = fold-MemberList Value Values Entry Members json_step list_step member_step object_step

-- the values of some items
abbrev pub items_view : List Json → Values
items_view items = values_of (map view items)

-- the members that some items are
abbrev pub members_view : List Member → Members
members_view items = members_of (map member_view items)

-- the items of a `JsonList`, as code goes over them
abbrev pub list_items : JsonList → List Json
list_items l = l.items.items

-- the items of a `MemberList`, as code goes over them
abbrev pub object_items : MemberList → List Member
object_items l = (out-MemberList l).items.items
