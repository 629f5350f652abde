-- Lists whose items are well-formed and differ from one another.
use Rattle.std.specs.Prelude.{◌≡◌, ◌≤◌, All, ℕ, suc, Bool, true, false, not, ◌&&◌, List, [], ◌∷◌, ◌++◌, Option, Some, None, length, map, min, option_map, Result, Ok, Err, if◌then◌else◌}
use Rattle.std.specs.List.{list_any}
use Rattle.std.specs.Set.{is_member}

-- the item, where it is well-formed and repeats none of the earlier ones
abbrev pub fresh : {T : Type 0} → (T → T → Bool) → List T → Option T → Option T
fresh same earlier None = None
fresh same earlier (Some x) = if is_member same earlier x then None else Some x

-- whether an item is one of these
abbrev pub repeats : {T : Type 0} → (T → T → Bool) → List T → Option T → Bool
repeats same xs None = false
repeats same xs (Some y) = is_member same xs y

-- the place of the first item that is one of these
abbrev pub repeats_at : {T : Type 0} → (T → T → Bool) → List T → List (Option T) → Option ℕ
repeats_at same xs [] = None
repeats_at same xs (item ∷ items) = if repeats same xs item then Some 0 else option_map suc (repeats_at same xs items)

-- the earlier of two places
abbrev pub earlier_of : Option ℕ → Option ℕ → Option ℕ
earlier_of None b = b
earlier_of (Some a) None = Some a
earlier_of (Some a) (Some b) = Some (min a b)

-- the first place whose item is malformed or repeats an earlier one: this one; or the first behind it whose item
-- repeats this one, or is wrong among those behind
abbrev pub first_wrong : {T : Type 0} → (T → T → Bool) → List (Option T) → Option ℕ
first_wrong same [] = None
first_wrong same (None ∷ items) = Some 0
first_wrong same (Some x ∷ items) =
    option_map suc (earlier_of (repeats_at same (x ∷ []) items) (first_wrong same items))

-- the items that are well-formed
abbrev pub present : {T : Type 0} → List (Option T) → List T
present [] = []
present (None ∷ items) = present items
present (Some x ∷ items) = x ∷ present items

-- the items, or the place of the one that is wrong
abbrev pub unless_wrong : {T P : Type 0} → (ℕ → P) → Option ℕ → List T → Result (List T) P
unless_wrong place None items = Ok items
unless_wrong place (Some i) items = Err (place i)

-- the items where each is well-formed and differs from the others, else the first place that is wrong
abbrev pub distinct : {T P : Type 0} → (T → T → Bool) → (ℕ → P) → List (Option T) → Result (List T) P
distinct same place items = unless_wrong place (first_wrong same items) (present items)

-- the items differ from one another
abbrev pub are_distinct : {T : Type 0} → (T → T → Bool) → List T → Bool
are_distinct same [] = true
are_distinct same (x ∷ xs) = not (list_any (λ y. same y x) xs) && are_distinct same xs

-- the place is the least that is wrong: all items before it are well-formed and differ, and the item there is
-- malformed or repeats one of them
pub record IsFirstWrong {T : Type 0} (same : T → T → Bool) (items : List (Option T)) (place : ℕ) : Type 0 where
  pub before : List T
  pub item : Option T
  pub behind : List (Option T)
  pub split : items ≡ map (λ x. Some x) before ++ item ∷ behind
  pub at : length before ≡ place
  pub apart : are_distinct same before ≡ true
  pub wrong : fresh same before item ≡ None

-- a list of 1 to `most` items, each well-formed, that differ from one another
pub record IsDistinctList {T : Type 0} (IsItem : T → Type 0) (same : T → T → Bool) (most : ℕ) (xs : List T) : Type 0
  where
    pub some : 1 ≤ length xs
    pub few : length xs ≤ most
    pub each : All IsItem xs
    pub apart : are_distinct same xs ≡ true
