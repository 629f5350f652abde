-- What is first among the members that are left is first among all.
use Rattle.std.proofs.Common.{◌≡◌, drop}
use Rattle.std.specs.List.{flat_map}
use Rattle.bill_diary.specs.History.{newest_first}
use Rattle.closed_family.specs.Lacking.{first_of, lacking_in}
use Rattle.closed_family.proofs.lacking.first_in_members.Given as goal

abbrev pub invariant-loop-member : goal.invariant-loop-member
invariant-loop-member l =
    first_of (flat_map (λ m. flat_map (λ d. lacking_in l.family (newest_first d)) m.diaries) l.family)
    ≡ first_of (flat_map (λ m. flat_map (λ d. lacking_in l.family (newest_first d)) m.diaries)
    (drop l.member-index l.family))
