-- Counts of faults. A count never falls and saturates at 2^64 - 1; at saturation every increase is taken to hold.
use Rattle.std.specs.Prelude.{ℕ, ◌+◌, ◌-◌, ◌^◌, ◌≤◌, min, Result, OnErr}

-- the count after one fault more
abbrev pub risen : ℕ → ℕ
risen count = min (count + 1) (2 ^ 64 - 1)

-- the count rose
abbrev pub Rose : ℕ → ℕ → Type 0
Rose before now = risen before ≤ now

-- the count rose by n at least
abbrev pub RoseBy : ℕ → ℕ → ℕ → Type 0
RoseBy before n now = min (before + n) (2 ^ 64 - 1) ≤ now

-- the count did not fall, and the call failed only if it rose
pub record HasCause {T E : Type 0} (before now : ℕ) (result : Result T E) : Type 0 where
  pub later : before ≤ now
  pub failed : OnErr result (Rose before now)
