use Rattle.std.proofs.Common.{◌≡◌, ◌≤◌, ℕ, length, take}
use Rattle.std.specs.Str.Parse.{digits_value_after}
use Rattle.canonical_json.specs.Number.{lowest}
use Rattle.canonical_json.proofs.number.without_ending_zeros.Given as goal

abbrev pub invariant-loop-end : goal.invariant-loop-end
invariant-loop-end l =
    (l.end ≤ length l.digits)
    × ((n : ℕ) → lowest (digits_value_after 10 n l.digits) (length l.digits) ≡ lowest (digits_value_after 10 n (take l.end l.digits)) l.end)

abbrev pub decreases-loop-end : goal.decreases-loop-end
decreases-loop-end l = l.end
