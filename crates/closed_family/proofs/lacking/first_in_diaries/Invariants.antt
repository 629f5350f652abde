-- What is first among the diaries that are left is first among all.
use Rattle.std.proofs.Common.{◌≡◌, drop}
use Rattle.std.specs.List.{flat_map}
use Rattle.bill_diary.specs.History.{newest_first}
use Rattle.closed_family.specs.Lacking.{first_of, lacking_in}
use Rattle.closed_family.proofs.lacking.first_in_diaries.Given as goal

abbrev pub invariant-loop-diary : goal.invariant-loop-diary
invariant-loop-diary l =
    first_of (flat_map (λ d. lacking_in l.family (newest_first d)) l.diaries)
    ≡ first_of (flat_map (λ d. lacking_in l.family (newest_first d)) (drop l.diary-index l.diaries))
