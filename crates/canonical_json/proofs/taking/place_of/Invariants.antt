use Rattle.std.proofs.Common.{◌≡◌, ◌+◌, option_map, drop}
use Rattle.canonical_json.specs.View.{members_view}
use Rattle.canonical_json.specs.Taking.{place_of}
use Rattle.canonical_json.proofs.taking.place_of.Given as goal

abbrev pub invariant-loop-i : goal.invariant-loop-i
invariant-loop-i l =
    option_map (λ k. l.i + k) (place_of l.name (members_view (drop l.i l.members))) ≡ place_of l.name (members_view l.members)
