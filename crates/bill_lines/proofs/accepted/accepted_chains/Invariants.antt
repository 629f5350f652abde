-- The chains are the empty one and those of the platforms so far.
use Rattle.std.proofs.Common.{◌≡◌, [], ◌∷◌, map, take}
use Rattle.std.specs.List.{flat_map}
use Rattle.closed_family.specs.Longest.{accepted_on}
use Rattle.bill_lines.specs.Diaries.{histories_in, platforms_in}
use Rattle.bill_lines.proofs.accepted.accepted_chains.Given as goal

abbrev pub invariant-loop-d : goal.invariant-loop-d
invariant-loop-d l =
    map (λ c. c.now) l.chains.items
    ≡ [] ∷ flat_map (accepted_on (histories_in l.bill l.diaries)) (platforms_in (take l.d-index l.diaries))
