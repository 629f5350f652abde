-- Numbers that differ and lie in a range leave as many places of it empty as there are more places than numbers.
use Rattle.std.proofs.Common.{◌≡◌, ℕ, zero, suc, eqb, ◌+◌, ◌-◌, ◌<◌, ◌≤◌, Bool, List, [], ◌∷◌, length, refl, arith}
use mathlib.Core.Logic.{dite}
use native.Mathlib.Decide.{ℕ_discrete}
use Rattle.bill_locks.specs.declared.view.Mark.{Mark}
use Rattle.bill_locks.specs.declared.view.Opened.{Opened}
use Rattle.bill_locks.specs.View.{one_if, times}
use Rattle.bill_locks.specs.Turn.{HandedOut, unnumbered}
use Rattle.bill_locks.proofs.Prefixes.{prefix_length}
use Rattle.bill_locks.proofs.Totals.{times_here, times_else}

-- how many of the numbers are among the n places from `low` on
tally : ℕ → ℕ → List ℕ → ℕ
tally low zero numbers = 0
tally low (suc n) numbers = times low numbers + tally (suc low) n numbers

tally_none : (low n : ℕ) → tally low n [] ≡ 0
unfolding tally
tally_none low zero = refl
tally_none low (suc n) = let r = tally_none (suc low) n in omega arith

-- a number below the places
tally_below : (low n q : ℕ) (qs : List ℕ) → q < low → tally low n (q ∷ qs) ≡ tally low n qs
unfolding tally
tally_below low zero q qs h = refl
tally_below low (suc n) q qs h =
    let r = tally_below (suc low) n q qs (omega arith) in
    let e = times_else low q qs (λ c. omega arith) in omega arith

-- a number among them
tally_one : (low n q : ℕ) (qs : List ℕ) → low ≤ q → q < low + n → tally low n (q ∷ qs) ≡ 1 + tally low n qs
unfolding tally
tally_one low zero q qs a b = absurd (omega arith)
tally_one low (suc n) q qs a b = dite (ℕ_discrete q low)
    (λ e. let h = times_here low q qs e in let r = tally_below (suc low) n q qs (omega arith) in omega arith)
    (λ ne. let h = times_else low q qs ne in let r = tally_one (suc low) n q qs (omega arith) (omega arith) in
    omega arith)

-- numbers that are all among the places
tally_all : (low n : ℕ) (numbers : List ℕ) → ((p : ℕ) → 0 < times p numbers → (low ≤ p) × (p < low + n))
    → tally low n numbers ≡ length numbers
tally_all low n [] h = tally_none low n
tally_all low n (q ∷ qs) h =
    let here = times_here q q qs refl in
    let w = h q (omega arith) in
    let one = tally_one low n q qs w.0 w.1 in
    let r = tally_all low n qs (λ p t. h p (omega arith)) in omega arith

-- each place is empty or has its one number
place_or_number : (k : ℕ) → k ≤ 1 → one_if (eqb k 0) + k ≡ 1
place_or_number zero h = refl
place_or_number (suc zero) h = refl
place_or_number (suc (suc k)) h = absurd (omega arith)

places : (low n : ℕ) (numbers : List ℕ) → ((p : ℕ) → times p numbers ≤ 1)
    → unnumbered low n numbers + tally low n numbers ≡ n
unfolding tally
places low zero numbers h = refl
places low (suc n) numbers h =
    let a = place_or_number (times low numbers) (h low) in
    let r = places (suc low) n numbers h in omega arith

module _ {T F X : Type 0} (fixed : T → X) (list : T → List F) (loose : T → Bool) (disk ring : T → ℕ) where
  pub unnumbered_cost_faults : (o : Opened X) (m : Mark F) (x : T) → HandedOut fixed list loose disk ring o m x
      → unnumbered o.frames (length (list x) - o.frames) m.numbers + one_if (loose x) ≤ m.failed
  unnumbered_cost_faults o m x h =
      let n : ℕ = length (list x) - o.frames in
      let grown = h.grown in
      let made = h.made in
      let front = prefix_length m.front (list x) h.begins in
      let all = tally_all o.frames n m.numbers
      (λ p t. let w = h.within p t in let w0 = w.0 in let w1 = w.1 in (w0, omega arith)) in
      let sum = places o.frames n m.numbers h.once in omega arith
