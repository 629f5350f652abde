use Rattle.std.proofs.Common.{List, sym, ap, ◌∙◌}
use Rattle.std.specs.List.{flat_map}
use Rattle.bill_diary.specs.declared.frame.Frame.{Frame}
use Rattle.bill_diary.specs.History.{newest_first}
use Rattle.closed_family.specs.declared.family.Member.{Member}
use Rattle.closed_family.specs.declared.lacking.Lacking.{Lacking}
use Rattle.closed_family.specs.Lacking.{first_of, lacking_in}
use Rattle.closed_family.proofs.Lacks.{flat_first}
use Rattle.closed_family.proofs.lacking.first_in_members.Goals as goal

pub returns-in-Some : goal.returns-in-Some
returns-in-Some c =
    let family = c.args.family.now in
    let Of : List (List Frame)
    → List Lacking = λ ds. flat_map (λ (d : List Frame). lacking_in family (newest_first d)) ds in
    sym (c.loop-member.invariant
    ∙ flat_first (λ (m : Member). Of m.diaries) family c.loop-member.member-index
    c.member-item.result c.in-Some.found c.loop-member-test.true c.member-item.is
    (ap (λ (ds : List (List Frame)). first_of (Of ds)) (sym c.diaries.ensures) ∙ sym c.in_ok-found.ensures
    ∙ c.in-Some.is))
