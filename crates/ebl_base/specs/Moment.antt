-- A moment that a clock gave.
use Rattle.std.specs.Prelude.{IsTrue, ℕ, Bool, Option, Some, None, nat_le, if◌then◌else◌}
use Rattle.ebl_base.specs.declared.limits.TheConstants.{MAX_WHOLE_NUMBER}
use Rattle.ebl_base.specs.declared.moment.Moment.{Moment}

-- 0 to 2^53 - 1
abbrev pub is_moment : ℕ → Bool
is_moment n = nat_le n MAX_WHOLE_NUMBER

-- the moment of this number
abbrev pub moment_of : ℕ → Option Moment
moment_of n = if is_moment n then Some (record { number = n }) else None

-- the number of a moment
abbrev pub moment_number : Moment → ℕ
moment_number moment = moment.number

-- the moment has its form: its number is a moment's
abbrev pub IsMoment : Moment → Type 0
IsMoment moment = IsTrue (is_moment (moment_number moment))
