-- The rule of the table, which holds between any two atomic steps. Word k and slot k belong to the value at k, and
-- the last word counts the passes. A column is what all passes know of one value: a mark for each seat of the table.
use Rattle.std.specs.Prelude.{◌≡◌, ◌≢◌, ◌⊎◌, ℕ, suc, ◌+◌, ◌*◌, ◌<◌, ◌≤◌, Bool, true, false, List, [], ◌∷◌, length, map, slice_index, slice_index_or, Option, Some}
use mathlib.Core.Option as maybe
use mathlib.Core.Option.{some, none}
use mathlib.Core.List.{IsPrefix}
use lib.ListN.{get_elem?}
use Rattle.atomic_table.specs.Table.{State}
use Rattle.ebl_base.specs.Faults.{RoseBy}
use Rattle.bill_locks.specs.declared.view.Mark.{Mark}
use Rattle.bill_locks.specs.declared.view.Opened.{Opened}
use Rattle.bill_locks.specs.declared.view.View.{View}
use Rattle.bill_locks.specs.View.{one_if, times, unopened, mark_at, whole}

-- a number of each item, added up
abbrev pub total : {A : Type 0} → (A → ℕ) → List A → ℕ
total f [] = 0
total f (x ∷ xs) = f x + total f xs

-- P holds of each item at its place
abbrev pub Each : {A : Type 0} → (ℕ → A → Type 0) → List A → Type 0
Each {A} P xs = (i : ℕ) (x : A) → get_elem? xs i ≡ some x → P i x

-- what all passes know of the value at k
abbrev pub column : {F X : Type 0} → ℕ → List (View F X) → List (Mark F)
column k views = map (mark_at k) views

module _ {F : Type 0} where
  -- each front is a beginning of the list
  abbrev pub Begin : List F → List (Mark F) → Type 0
  Begin xs marks = Each (λ i m. IsPrefix m.front xs) marks

  -- a value with so many frames, this mark of being loose and these counts of faults. The frames since the opening
  -- that are nobody's, and one more if the value is loose, are at most the disk answers of all passes. These are at
  -- most what the disk's count rose, and the ring answers likewise.
  pub record Accounted {X : Type 0} (o : Opened X) (frames : ℕ) (loose : Bool) (disk ring : ℕ)
      (marks : List (Mark F)) : Type 0 where
    pub grown : o.frames ≤ frames
    pub made : frames + one_if loose ≤ o.frames + total (λ m. length m.numbers) marks + total (λ m. m.failed) marks
    pub disks : RoseBy o.disk (total (λ m. m.failed) marks) disk
    pub rings : RoseBy o.ring (total (λ m. m.unsigned) marks) ring

  -- a number was given once, for a frame since the opening that its pass has seen; what was joined last is a beginning
  pub record Numbered {X : Type 0} (o : Opened X) (marks : List (Mark F)) : Type 0 where
    pub once : (p : ℕ) → total (λ m. times p m.numbers) marks ≤ 1
    pub within : Each (λ i m. (p : ℕ) → 0 < times p m.numbers → (o.frames ≤ p) × (p < length m.front)) marks
    pub joined : Each (λ i m. IsPrefix m.absorbed m.front) marks

module _ {T F X : Type 0} (fixed : T → X) (list : T → List F) (loose : T → Bool) (disk ring : T → ℕ) where
  -- a value at the opening
  abbrev pub opened_as : T → Opened X
  opened_as x = record { fixed = Some (fixed x); frames = length (list x); disk = disk x; ring = ring x }

  -- all values at the opening
  abbrev pub openings : List T → List (Opened X)
  openings xs = map opened_as xs

  -- The turn is free: the word is twice the number of frames, the value is at home, and no pass holds it
  pub record IsFree (o : Opened X) (word : ℕ) (place : maybe.Option (maybe.Option (Option T)))
      (marks : List (Mark F)) (x : T) : Type 0 where
    pub same : o.fixed ≡ Some (fixed x)
    pub word_is : word ≡ 2 * length (list x)
    pub home : place ≡ some (some (Some x))
    pub nobody : Each (λ i m. m.held ≡ false) marks
    pub fronts : Begin (list x) marks
    pub account : Accounted o (length (list x)) (loose x) (disk x) (ring x) marks

  -- The turn is out with the seat h alone, and so is the value: the word is twice the length of its front and one more
  pub record IsOut (o : Opened X) (word : ℕ) (place : maybe.Option (maybe.Option (Option T)))
      (marks : List (Mark F)) (h : ℕ) (m : Mark F) : Type 0 where
    pub word_is : word ≡ 2 * length m.front + 1
    pub home : place ≡ some none
    pub seat : get_elem? marks h ≡ some m
    pub holds : m.held ≡ true
    pub only : Each (λ i n. i ≢ h → n.held ≡ false) marks
    pub fronts : Begin m.front marks
    pub account : Accounted o (length m.front) m.loose m.disk m.ring marks

  -- the turn of one value, and the numbers that were given at it
  pub record Stands (o : Opened X) (word : ℕ) (place : maybe.Option (maybe.Option (Option T)))
      (marks : List (Mark F)) : Type 0 where
    pub turn : ((x : T) × IsFree o word place marks x) ⊎ ((h : ℕ) × (m : Mark F) × IsOut o word place marks h m)
    pub numbers : Numbered o marks

-- The last word counts the passes for which all seats stand. No pass knows of more, one that stands for none knows
-- nothing and has no share, one that is alone stands for all, and each knows the values as they were opened. All shares
-- together are the whole
pub record Passes {F X : Type 0} (os : List (Opened X)) (word : ℕ) (views : List (View F X)) : Type 0 where
  pub word_is : word ≡ total (λ v. v.stands) views
  pub known : Each (λ i v. v.known ≤ total (λ u. u.stands) views) views
  pub empty : Each (λ i v. v.stands ≡ 0 → (v.marks ≡ []) × (v.share ≡ 0)) views
  pub shares : total (λ v. v.share) views ≡ whole
  pub alone : Each (λ i v. v.alone ≡ true → total (λ u. u.stands) views ≡ v.stands) views
  pub opened : Each (λ i v. 0 < v.stands → v.opened ≡ os) views

-- the rule
pub record Turning {T F X : Type 0} (fixed : T → X) (list : T → List F) (loose : T → Bool) (disk ring : T → ℕ)
    (os : List (Opened X)) (s : State (Option T) (View F X)) : Type 0 where
  pub sized : length s.words ≡ suc (length s.homes)
  pub turns : (k : ℕ) → k < length s.homes
      → Stands fixed list loose disk ring (slice_index_or os k unopened) (slice_index s.words k) (get_elem? s.homes k)
      (column k s.views)
  pub passes : Passes os (slice_index s.words (length s.homes)) s.views
