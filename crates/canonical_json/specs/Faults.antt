-- For private clauses: what a reader notes of the faults of the trees that it passes.
use Rattle.std.specs.Prelude.{◌≡◌, ℕ, ◌-◌, List, Bool, false, ◌&&◌, ◌||◌, ◌==◌, nat_lt, slice_index, if◌then◌else◌, Option, Some, None, Result}
use Rattle.json.specs.Json as grammar
use Rattle.json.specs.Strict.{keys}
use Rattle.canonical_json.specs.Value.{Value, Values, Members}
use Rattle.canonical_json.specs.Name.{in_order}
use Rattle.canonical_json.specs.Number.{is_fraction, is_big, fails_by_fraction, fails_by_range, or_null}
use Rattle.canonical_json.specs.Reading.{repeats, has_repeated, items_have_repeated, members_have_repeated, has_number, items_have_number, members_have_number, value_of, values_of_items, members_of_members}
use Rattle.canonical_json.specs.View.{view}
use Rattle.canonical_json.specs.declared.faults.Faults.{Faults}
use Rattle.canonical_json.specs.declared.fault.ReadError.{ReadError}
use Rattle.canonical_json.specs.declared.fault.ReadError.TheVariants.{Repeated, Fraction, Range}
use Rattle.canonical_json.specs.declared.value.Json.{Json}

abbrev pub no_faults : Faults
no_faults = record { repeated = false; fraction = false; range = false }

abbrev pub first_fault : Faults → Option ReadError
first_fault f =
    if f.repeated then Some Repeated else (if f.fraction then Some Fraction else (if f.range then Some Range else None))

-- these faults are noted beside those that were
abbrev pub Notes : Faults → Faults → Bool → Bool → Bool → Type 0
Notes old new repeated fraction range =
    (new.repeated ≡ (repeated || old.repeated))
    × (new.fraction ≡ (fraction || old.fraction))
    × (new.range ≡ (range || old.range))

-- the faults of the tree are noted, and where none had a name twice the value is the tree's
abbrev pub IsValueOf : grammar.Json → Faults → Faults → Value → Type 0
IsValueOf tree old new v =
    Notes old new (has_repeated tree) (has_number is_fraction tree) (has_number is_big tree)
    × (new.repeated ≡ false → v ≡ value_of tree)

abbrev pub AreItemsOf : grammar.Items → Faults → Faults → Values → Type 0
AreItemsOf trees old new vs =
    Notes old new (items_have_repeated trees) (items_have_number is_fraction trees) (items_have_number is_big trees)
    × (new.repeated ≡ false → vs ≡ values_of_items trees)

abbrev pub AreMembersOf : grammar.Members → Faults → Faults → Members → Type 0
AreMembersOf trees old new ms =
    Notes old new (repeats (keys trees) || members_have_repeated trees)
    (members_have_number is_fraction trees) (members_have_number is_big trees)
    × (new.repeated ≡ false → ms ≡ in_order (members_of_members trees))

-- the grammar has nothing here, or memory ran out
abbrev pub IsStop : {A : Type 0} → Option A → ReadError → Type 0
IsStop found ReadError.NotJson = found ≡ None
IsStop found ReadError.Repeated = ⊥
IsStop found ReadError.Fraction = ⊥
IsStop found ReadError.Range = ⊥
IsStop found ReadError.NoMemory = Unit {0}

-- the number's value, or null and its fault noted
abbrev pub IsNoted : Result Value ReadError → Faults → Faults → Json → Type 0
IsNoted number old new json =
    Notes old new false (fails_by_fraction number) (fails_by_range number) × (view json ≡ or_null number)

-- the digit before the end is 0
abbrev pub ends_in_zero : List ℕ → ℕ → Bool
ends_in_zero digits end = nat_lt 0 end && slice_index digits (end - 1) == 48
