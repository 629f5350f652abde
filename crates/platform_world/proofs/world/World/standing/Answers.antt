use Rattle.std.proofs.Common.{◌≡◌, List, ap, subst, ◌∙◌}
use Rattle.std.proofs.lemmas.Result.{IfOk-weaker}
use Rattle.bill_lines.specs.Diaries.{histories_in, platforms_in}
use Rattle.bill_lines.specs.Standing.{standing_by}
use Rattle.bill_lines.specs.declared.diaries.PlatformDiary.{PlatformDiary}
use Rattle.platform_world.specs.Standing.{standing_in}
use Rattle.platform_world.specs.State.{WorldState, world_of}
use Rattle.platform_world.proofs.Diaries.{standing_of_world}
use Rattle.platform_world.proofs.world.World.standing.Goals as goal

pub returns : goal.returns
returns g c =
    let bill = c.args.bill in
    let given = c.as_slice.result.now in
    let ds = c.in_ok-diaries.diaries.items in
    IfOk-weaker c.bill_standing.result
    (λ s. s ≡ standing_by (histories_in bill given) (platforms_in given))
    (λ s. s ≡ standing_in (world_of g.M.Machine.seen c.args.self.now) bill)
    (λ s is. subst (λ (w : WorldState _ _). s ≡ standing_in (world_of g.M.Machine.seen w) bill) c.self.view_is
    (standing_of_world g.M.Machine.seen
    (record {
      platforms = c.self.inside.platforms;
      sent = c.self.inside.sent.items;
      signed = c.self.inside.signed;
      fates = c.self.inside.fates.items;
    }) bill ds s c.in_ok-diaries.ensures.platforms c.in_ok-diaries.ensures.histories
    (is
    ∙ ap (λ (xs : List PlatformDiary). standing_by (histories_in bill xs) (platforms_in xs)) c.as_slice.ensures.value)))
    c.bill_standing.ensures
