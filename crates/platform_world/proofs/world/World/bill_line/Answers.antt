use Rattle.std.proofs.Common.{◌≡◌, ap, map, subst, sym, ◌∙◌}
use Rattle.std.specs.Prelude.{List}
use Rattle.std.proofs.lemmas.Result.{IfOk-weaker}
use Rattle.ebl_base.specs.declared.platform_code.PlatformCode.{PlatformCode}
use Rattle.bill_lines.specs.Diaries.{histories_in, platforms_in}
use Rattle.bill_lines.specs.Lines.{bill_line}
use Rattle.bill_lines.specs.declared.diaries.PlatformDiary.{PlatformDiary}
use Rattle.platform_world.specs.Run.{bill_line_in}
use Rattle.platform_world.specs.State.{WorldState, world_of}
use Rattle.platform_world.proofs.Diaries.{line_of_world}
use Rattle.platform_world.proofs.world.World.bill_line.Goals as goal

pub diaries_of-requires : goal.diaries_of-requires
diaries_of-requires g c =
    c.requires ∙ ap (λ (w : WorldState _ _). map (λ m. (g.M.Machine.seen m).diary) w.platforms.shards) (sym c.self.view_is)

pub returns : goal.returns
returns g c =
    let n = c.args.number in
    let bill = c.args.bill in
    let given = c.as_slice.result.now in
    let settled = c.as_slice-2.result.now in
    let ds = c.in_ok-diaries.diaries.items in
    IfOk-weaker c.bill_line.result
    (λ line. line ≡ bill_line n (histories_in bill given) (platforms_in given) settled)
    (λ line. line ≡ bill_line_in (world_of g.M.Machine.seen c.args.self.now) n bill)
    (λ line is. subst (λ (w : WorldState _ _). line ≡ bill_line_in (world_of g.M.Machine.seen w) n bill) c.self.view_is
    (line_of_world g.M.Machine.seen
    (record {
      platforms = c.self.inside.platforms;
      sent = c.self.inside.sent.items;
      signed = c.self.inside.signed;
      fates = c.self.inside.fates.items;
    }) n bill ds c.in_ok-settled.settled.items line c.in_ok-diaries.ensures.platforms c.in_ok-diaries.ensures.histories
    c.in_ok-settled.ensures
    (is
    ∙ ap (λ (xs : List PlatformDiary). bill_line n (histories_in bill xs) (platforms_in xs) settled)
    c.as_slice.ensures.value
    ∙ ap (λ (qs : List PlatformCode). bill_line n (histories_in bill ds) (platforms_in ds) qs)
    c.as_slice-2.ensures.value))) c.bill_line.ensures
