use Rattle.std.proofs.Common.{◌*◌, length, List, ap, sym, ◌∙◌}
use Rattle.ebl_base.specs.declared.platform_code.PlatformCode.{PlatformCode}
use Rattle.platform_world.proofs.Shards.{shard_count}
use Rattle.platform_world.proofs.platforms.Platforms.settled_for.Goals as goal

pub settled_for_shard-requires : goal.settled_for_shard-requires
settled_for_shard-requires g c =
    ap length c.as_slice.ensures.value
    ∙ shard_count g.M.Machine.seen c.self.inside.roster c.self.inside.shards.items c.self.invariant.0
    ∙ ap (λ (ps : List PlatformCode). 16 * length ps) (sym c.platforms.ensures)
