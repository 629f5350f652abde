-- The items are the numbers so far.
use Rattle.std.proofs.Common.{◌≡◌, ℕ, map, take}
use Rattle.canonical_json.specs.View.{view}
use Rattle.json_forms.specs.Writing.{capped_value}
use Rattle.answer_lines.proofs.lines.numbers_json.Given as goal

abbrev pub invariant-loop-number : goal.invariant-loop-number
invariant-loop-number l = map view l.items.items ≡ map capped_value (take l.number-index l.numbers)
