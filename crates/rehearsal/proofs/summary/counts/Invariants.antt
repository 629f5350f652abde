-- The members are those of the words so far.
use Rattle.std.proofs.Common.{◌≡◌, map, take}
use Rattle.std.specs.List.{flat_map}
use Rattle.canonical_json.specs.View.{member_view}
use Rattle.rehearsal.specs.Summary.{counted, times}
use Rattle.rehearsal.proofs.summary.counts.Given as goal

abbrev pub invariant-loop-word : goal.invariant-loop-word
invariant-loop-word l =
    map member_view l.members.items
    ≡ flat_map (λ w. counted w (times (map (λ a. a.now) l.answers) w)) (map (λ w. w.now) (take l.word-index l.words))
