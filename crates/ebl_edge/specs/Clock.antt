-- The moments that a clock gave.
use Rattle.std.specs.Prelude.{◌≡◌, ◌^◌, ◌-◌, List, ◌++◌, Option, Some, None, nat_lt, replicate, if◌then◌else◌}
use Rattle.ebl_base.specs.declared.moment.Moment.{Moment}
use Rattle.ebl_edge.specs.declared.memory_clock.MemoryClock.{MemoryClock}

-- these moments were given meanwhile; of a clock that tells nothing any more nothing is known
abbrev pub Gives : Option (List Moment) → List Moment → Option (List Moment) → Type 0
Gives before moments None = Unit {0}
Gives None moments (Some after) = ⊥
Gives (Some before) moments (Some after) = after ≡ before ++ moments

-- a clock in memory gives one moment again and again, and tells its calls as long as they can be counted
abbrev pub clock_given : MemoryClock → Option (List Moment)
clock_given clock = if nat_lt clock.calls (2 ^ 64 - 1) then Some (replicate clock.calls clock.moment) else None
