-- What the calls of a disk do to its bytes, and what a crash may leave of them.
use Rattle.std.specs.Prelude.{◌≡◌, ◌⊎◌, ℕ, ◌+◌, ◌≤◌, max, List, ◌++◌, length, take, drop}

-- the bytes with others written over them from a place on
abbrev pub written : List ℕ → ℕ → List ℕ → List ℕ
written old place bytes = take place old ++ bytes ++ drop (place + length bytes) old

-- after a write of n bytes that was cut short: any bytes in the range and past the old end, the same elsewhere
pub record Torn (place n : ℕ) (old new : List ℕ) : Type 0 where
  pub before : take place new ≡ take place old
  pub after : drop (place + n) new ≡ drop (place + n) old
  pub no_shorter : length old ≤ length new
  pub no_longer : length new ≤ max (length old) (place + n)

-- each new outcome of a crash is an old outcome after a step
abbrev pub Follows : (List ℕ → List ℕ → Type 0) → (List ℕ → Type 0) → (List ℕ → Type 0) → Type 0
Follows step old new = (c : List ℕ) → new c → (d : List ℕ) × old d × step d c

-- no outcome of a crash is new
abbrev pub NoneNew : (List ℕ → Type 0) → (List ℕ → Type 0) → Type 0
NoneNew old new = (c : List ℕ) → new c → old c

-- a crash leaves this and nothing else
abbrev pub Only : List ℕ → (List ℕ → Type 0) → Type 0
Only file outcomes = (c : List ℕ) → outcomes c → c ≡ file

-- time goes on: a crash since t might have left what it might have left before, or what it may leave now
pub record Elapses (before now : ℕ) (past since : ℕ → List ℕ → Type 0) (may_leave : List ℕ → Type 0) : Type 0 where
  pub later : before ≤ now
  pub nothing_else : (t : ℕ) (c : List ℕ) → t ≤ before → since t c → past t c ⊎ may_leave c
  pub keeps : (t : ℕ) (c : List ℕ) → t ≤ before → past t c → since t c

-- a crash at any moment since old leaves bytes that have P
pub record LeavesOnly {D : Type 0} (moment : D → ℕ) (left_since : D → ℕ → List ℕ → Type 0) (old new : D)
    (P : List ℕ → Type 0) : Type 0 where
  pub later : moment old ≤ moment new
  pub each : (c : List ℕ) → left_since new (moment old) c → P c
  -- for a run that began earlier
  pub before : (t : ℕ) (c : List ℕ) → t ≤ moment old → left_since new t c → left_since old t c ⊎ P c

-- the calls since old wrote nothing: a read gives the same, and a crash leaves nothing that it couldn't have left
-- before
pub record Looked {D : Type 0} (seen : D → List ℕ) (may_leave : D → List ℕ → Type 0) (moment : D → ℕ)
    (left_since : D → ℕ → List ℕ → Type 0) (old new : D) : Type 0 where
  pub same : seen new ≡ seen old
  pub crash : NoneNew (may_leave old) (may_leave new)
  pub time : LeavesOnly moment left_since old new (may_leave old)
