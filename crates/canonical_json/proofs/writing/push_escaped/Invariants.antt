use Rattle.std.proofs.Common.{◌≡◌, ◌≤◌, ◌-◌, ◌++◌, [], ◌∷◌, length, drop}
use Rattle.json.specs.Print.{escape}
use Rattle.canonical_json.proofs.writing.push_escaped.Given as goal

abbrev pub invariant-loop-out : goal.invariant-loop-out
invariant-loop-out l =
    (l.at ≤ length l.text)
    × (l.out.items ++ (escape (drop l.at l.text) ++ 34 ∷ []) ≡ l.fn.out.items ++ 34 ∷ (escape l.text ++ 34 ∷ []))

abbrev pub decreases-loop-out : goal.decreases-loop-out
decreases-loop-out l = length l.text - l.at
