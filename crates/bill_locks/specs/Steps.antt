-- What each atomic step reports to the pass that makes it.
use Rattle.std.specs.Prelude.{◌≡◌, ◌≢◌, ◌⊎◌, ℕ, ◌+◌, ◌/◌, ◌%◌, ◌<◌, ◌≤◌, ◌^◌, ◌==◌, Bool, true, false, List, [], ◌∷◌, length, Option, Some, if◌then◌else◌}
use mathlib.Core.List.{IsPrefix}
use Rattle.ebl_base.specs.Faults.{Rose}
use Rattle.atomic_table.specs.Table.{Me, Step}
use Rattle.bill_locks.specs.declared.view.Mark.{Mark}
use Rattle.bill_locks.specs.declared.view.View.{View}
use Rattle.bill_locks.specs.declared.job.Told.{Told}
use Rattle.bill_locks.specs.View.{one_if, times, opened_at, mark_at, with_mark, knows_of_another, counted, whole}

-- the mark after a turn that left this list and whose answer reported this
abbrev pub after_turn : {F : Type 0} → Mark F → List F → Told → Mark F
after_turn m xs t = record {
  held = false;
  front = xs;
  absorbed = m.absorbed;
  numbers = if t.after == t.before + 1 then t.before ∷ m.numbers else m.numbers;
  failed = m.failed + one_if t.failed;
  unsigned = m.unsigned + one_if t.unsigned;
  loose = false;
  disk = 0;
  ring = 0;
}

-- what a turn made of a value, by the mark that took it over and by what its answer told
pub record Grown {T F : Type 0} (list : T → List F) (loose : T → Bool) (disk ring : T → ℕ)
    (m : Mark F) (t : Told) (y : T) : Type 0 where
  pub grows : IsPrefix m.front (list y)
  pub before : (t.before ≡ length m.front) ⊎ ((t.before ≡ length m.front + 1) × (m.loose ≡ true))
  pub after : t.after ≡ length (list y)
  pub one : (t.after ≡ t.before) ⊎ (t.after ≡ t.before + 1)
  pub loose_only : loose y ≡ true → (t.failed ≡ true) ⊎ ((m.loose ≡ true) × (t.before ≡ length m.front))
  pub disk_later : m.disk ≤ disk y
  pub ring_later : m.ring ≤ ring y
  pub failed : t.failed ≡ true → Rose m.disk (disk y)
  pub unsigned : t.unsigned ≡ true → Rose m.ring (ring y)

-- the mark with this front
abbrev pub with_front : {F : Type 0} → List F → Mark F → Mark F
with_front xs m = record m { front = xs }

module _ {T F X : Type 0} (fixed : T → X) (list : T → List F) (loose : T → Bool) (disk ring : T → ℕ) where
  -- the mark while the turn is with its pass
  abbrev pub held_mark : Mark F → T → Mark F
  held_mark m x = record m { held = true; front = list x; loose = loose x; disk = disk x; ring = ring x }

  -- the seat took the turn at k, with the value x in its hands
  pub record Takes (k : ℕ) (v w : Me (Option T) (View F X)) (x : T) : Type 0 where
    pub view : w.0 ≡ with_mark k (held_mark (mark_at k v.0) x) v.0
    pub hand : w.1 ≡ (k, Some x) ∷ v.1
    pub seen : IsPrefix (mark_at k v.0).front (list x)
    pub same : (opened_at k v.0).fixed ≡ Some (fixed x)

  -- the fetch_or: where the word was even, the turn was free; else it was out with another pass
  pub record Tried (st : Step (Option T)) (v : Me (Option T) (View F X)) (n : ℕ)
      (w : Me (Option T) (View F X)) : Type 0 where
    pub free : n % 2 ≡ 0 → (x : T) × Takes st.word v w x
    pub out : n % 2 ≢ 0 → w ≡ (knows_of_another v.0, v.1)

  -- the swap, after a turn that told this
  abbrev pub Gave : Told → Step (Option T) → Me (Option T) (View F X) → ℕ → Me (Option T) (View F X) → Type 0
  Gave t st v n w = (y : T) → v.1 ≡ (st.word, Some y) ∷ []
      → w ≡ (with_mark st.word (after_turn (mark_at st.word v.0) (list y) t) v.0, [])

-- what the rule says of two marks that became one
pub record IsJoined {F : Type 0} (m : Mark F) : Type 0 where
  pub front : IsPrefix m.absorbed m.front
  pub once : (p : ℕ) → times p m.numbers ≤ 1

module _ {S F X : Type 0} where
  -- the load of a value's word: the front is that of the value, or of the pass that has its turn
  abbrev pub Looked : Step S → Me S (View F X) → ℕ → Me S (View F X) → Type 0
  Looked st v n w = (xs : List F) × (w ≡ (with_mark st.word (with_front xs (mark_at st.word v.0)) v.0, v.1))
      × IsPrefix (mark_at st.word v.0).front xs × (n / 2 ≡ length xs)

  -- the exchange of the last word, which counts a pass where it found the number expected
  pub record Counted (st : Step S) (v : Me S (View F X)) (n : ℕ) (w : Me S (View F X)) : Type 0 where
    pub hit : n ≡ st.first → w ≡ (counted v.0, v.1)
    pub miss : n ≢ st.first → w ≡ v

  -- the load of the last word after a join
  pub record Fitted (st : Step S) (v : Me S (View F X)) (n : ℕ) (w : Me S (View F X)) : Type 0 where
    pub same : w ≡ v
    pub fits : v.0.stands < 2 ^ 64
    pub marks : (k : ℕ) → k < st.slots → IsJoined (mark_at k v.0)

  -- the load of the last word at the closing
  pub record Settled (st : Step S) (v : Me S (View F X)) (n : ℕ) (w : Me S (View F X)) : Type 0 where
    pub alone : n ≡ v.0.stands → (w ≡ (record v.0 { alone = true }, v.1)) × (v.0.known ≤ v.0.stands)
        × (v.0.share ≡ whole)
    pub others : n ≢ v.0.stands → (w ≡ (knows_of_another v.0, v.1)) × (v.0.stands < n)
