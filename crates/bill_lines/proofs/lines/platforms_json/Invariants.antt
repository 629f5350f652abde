-- The items are the platforms so far.
use Rattle.std.proofs.Common.{◌≡◌, map, take}
use Rattle.canonical_json.specs.View.{view}
use Rattle.json_forms.specs.Writing.{platform_value}
use Rattle.bill_lines.proofs.lines.platforms_json.Given as goal

abbrev pub invariant-loop-platform : goal.invariant-loop-platform
invariant-loop-platform l = map view l.items.items ≡ map platform_value (take l.platform-index l.platforms)
