-- What a turn, a join and a closing leave.
use Rattle.std.specs.Prelude.{◌≡◌, ◌⊎◌, ℕ, zero, suc, ◌+◌, ◌<◌, ◌≤◌, ◌==◌, Bool, List, ◌++◌, length, take, Some}
use mathlib.Core.List.{IsPrefix}
use Rattle.ebl_base.specs.Faults.{RoseBy}
use Rattle.bill_locks.specs.declared.view.Mark.{Mark}
use Rattle.bill_locks.specs.declared.view.Opened.{Opened}
use Rattle.bill_locks.specs.declared.view.View.{View}
use Rattle.bill_locks.specs.declared.job.Told.{Told}
use Rattle.bill_locks.specs.View.{one_if, times, mark_at, with_mark}
use Rattle.bill_locks.specs.Steps.{after_turn}

-- a turn at k that told t: the pass has seen the list as the turn left it, of which what it had seen before is a
-- beginning, also of the frames that were there before the turn's own. It knows nothing else that is new
pub record Turned {F X : Type 0} (k : ℕ) (t : Told) (v w : View F X) : Type 0 where
  pub changes : w ≡ with_mark k (after_turn (mark_at k v) (mark_at k w).front t) v
  pub begins : IsPrefix (mark_at k v).front (take t.before (mark_at k w).front)
  pub one : (t.after ≡ t.before) ⊎ (t.after ≡ t.before + 1)
  pub count : length (mark_at k w).front ≡ t.after

-- two marks in one: the longer front, which both begin, and the numbers and answers of both
pub record JoinsMarks {F : Type 0} (m n both : Mark F) : Type 0 where
  pub longer : (both.front ≡ m.front) ⊎ (both.front ≡ n.front)
  pub first : IsPrefix m.front both.front
  pub second : IsPrefix n.front both.front
  pub numbers : both.numbers ≡ m.numbers ++ n.numbers
  pub apart : (p : ℕ) → times p m.numbers + times p n.numbers ≤ 1
  pub failed : both.failed ≡ m.failed + n.failed
  pub unsigned : both.unsigned ≡ m.unsigned + n.unsigned

-- a value handed out at the closing, by what it was at the opening and the last pass's mark
pub record HandedOut {T F X : Type 0} (fixed : T → X) (list : T → List F) (loose : T → Bool) (disk ring : T → ℕ)
    (o : Opened X) (m : Mark F) (x : T) : Type 0 where
  pub same : o.fixed ≡ Some (fixed x)
  pub begins : IsPrefix m.front (list x)
  pub grown : o.frames ≤ length (list x)
  pub once : (p : ℕ) → times p m.numbers ≤ 1
  pub within : (p : ℕ) → 0 < times p m.numbers → (o.frames ≤ p) × (p < length m.front)
  -- the frames since the opening that have no number of the pass, and a loose one, are at most its disk answers
  pub made : length (list x) + one_if (loose x) ≤ o.frames + length m.numbers + m.failed
  pub disks : RoseBy o.disk m.failed (disk x)
  pub rings : RoseBy o.ring m.unsigned (ring x)

-- how many of the n frames from `low` on have no number in the list
abbrev pub unnumbered : ℕ → ℕ → List ℕ → ℕ
unnumbered low zero numbers = 0
unnumbered low (suc n) numbers = one_if (times low numbers == 0) + unnumbered (suc low) n numbers
