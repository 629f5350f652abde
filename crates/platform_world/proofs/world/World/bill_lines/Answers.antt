use Rattle.std.proofs.Common.{ap, map, sym, ◌∙◌}
use Rattle.platform_world.specs.State.{WorldState}
use Rattle.platform_world.proofs.world.World.bill_lines.Goals as goal

pub lines_of-requires : goal.lines_of-requires
lines_of-requires g c =
    c.as_slice.ensures.value ∙ c.in_ok-indices.ensures
    ∙ ap (λ (w : WorldState _ _). map (λ m. (g.M.Machine.seen m).diary) w.platforms.shards) c.self.view_is
