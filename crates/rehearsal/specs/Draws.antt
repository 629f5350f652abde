-- How the generator draws numbers: a linear congruential generator over 64 bits, whose upper 31 bits count.
use Rattle.std.specs.Prelude.{ℕ, ◌+◌, ◌*◌, ◌/◌, ◌%◌, ◌^◌}

-- the state after a state, both below 2^64
unfoldable pub next : ℕ → ℕ
next x = (x * 6364136223846793005 + 1442695040888963407) % 2 ^ 64

-- the number below n that a state gives
unfoldable pub drawn : ℕ → ℕ → ℕ
drawn n x = x / 2 ^ 33 % n

-- a number below n is drawn from a state; what follows goes by the number and the next state
abbrev pub draw : {X : Type 0} → ℕ → ℕ → (ℕ → ℕ → X) → X
draw n x follows = follows (drawn n (next x)) (next x)
