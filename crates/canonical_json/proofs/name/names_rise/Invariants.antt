use Rattle.std.proofs.Common.{◌≡◌, ◌-◌, drop}
use Rattle.canonical_json.specs.View.{members_view}
use Rattle.canonical_json.specs.Name.{names_rise}
use Rattle.canonical_json.proofs.name.names_rise.Given as goal

abbrev pub invariant-loop-i : goal.invariant-loop-i
invariant-loop-i l = names_rise (members_view l.members) ≡ names_rise (members_view (drop (l.i - 1) l.members))
