use Rattle.std.proofs.Common.{◌≡◌, ◌∙◌, ap, length, rules}
use Rattle.bill_diary.specs.declared.frame.Frame.{Frame}
use Rattle.platform_office.proofs.OpeningLemmas.{stray_place}
use Rattle.platform_office.proofs.shard.stray.Goals as goal

pub returns-in-Ok-clause-stray : goal.returns-in-Ok-clause-stray
returns-in-Ok-clause-stray c = λ place is.
    stray_place c.args.number c.args.diary.now c.in-Some.count place c.in-Ok.place _ c.in-Some.ensures.stray
    (search rules) c.in-Ok.ensures is
