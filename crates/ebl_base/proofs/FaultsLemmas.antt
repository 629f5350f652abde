-- How counts of faults go on.
use Rattle.std.proofs.Common.{◌≡◌, ℕ, ◌≤◌, Err, arith}
use Rattle.ebl_base.specs.Faults.{risen, HasCause}

-- a fault was counted in the end
pub HasCause-counted : {T E : Type 0} (a b c : ℕ) (e : E) → a ≤ b → b ≤ c → c ≡ risen b → HasCause {T = T} {E = E} a c (Err e)
HasCause-counted a b c e p q r = record { later = omega arith; failed = omega arith }
