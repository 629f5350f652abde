use Rattle.std.proofs.Common.{◌+◌, ◌*◌, ◌<◌, ℕ, ap, subst, sym, ◌∙◌, arith, length}
use Rattle.party_roster.specs.RosterRecord.{has_platform}
use Rattle.platform_world.specs.Platforms.{PlatformsRecord, index_of, position_of}
use Rattle.platform_world.proofs.Shards.{within}
use Rattle.platform_world.proofs.platforms.Platforms.index_of.Goals as goal

pub overflow_mul-result : goal.overflow_mul-result
overflow_mul-result g c =
    let s : PlatformsRecord _ _ = (record {
      roster = c.self.inside.roster;
      shards = c.self.inside.shards.items;
      spare = c.self.inside.spare.items;
    }) in
    let n_is = c.position_of-position.ensures ∙ ap (position_of c.args.at) c.platforms.ensures in
    let listed = ap (λ (x : PlatformsRecord _ _). has_platform x.roster c.args.at) c.self.view_is ∙ c.requires.listed in
    let inside = within g.M.Machine.seen s c.args.at c.args.shard c.self.invariant.0 listed c.requires.shard in
    grind (arith, inside, n_is, c.self.inside.shards.ok, c.self.inside.shards.small)

pub overflow_add-result : goal.overflow_add-result
overflow_add-result g c =
    let s : PlatformsRecord _ _ = (record {
      roster = c.self.inside.roster;
      shards = c.self.inside.shards.items;
      spare = c.self.inside.spare.items;
    }) in
    let n_is = c.position_of-position.ensures ∙ ap (position_of c.args.at) c.platforms.ensures in
    let listed = ap (λ (x : PlatformsRecord _ _). has_platform x.roster c.args.at) c.self.view_is ∙ c.requires.listed in
    let inside = within g.M.Machine.seen s c.args.at c.args.shard c.self.invariant.0 listed c.requires.shard in
    grind (arith, inside, n_is, c.self.inside.shards.ok, c.self.inside.shards.small)

pub returns-clause-index : goal.returns-clause-index
returns-clause-index g c =
    ap (λ (n : ℕ). 16 * n + c.args.shard) (c.position_of-position.ensures ∙ ap (position_of c.args.at) c.platforms.ensures)
    ∙ ap (λ (x : PlatformsRecord _ _). index_of c.args.at c.args.shard x.roster.platforms) c.self.view_is

pub returns-clause-within : goal.returns-clause-within
returns-clause-within g c =
    let s : PlatformsRecord _ _ = (record {
      roster = c.self.inside.roster;
      shards = c.self.inside.shards.items;
      spare = c.self.inside.spare.items;
    }) in
    let n_is = c.position_of-position.ensures ∙ ap (position_of c.args.at) c.platforms.ensures in
    let listed = ap (λ (x : PlatformsRecord _ _). has_platform x.roster c.args.at) c.self.view_is ∙ c.requires.listed in
    let inside = within g.M.Machine.seen s c.args.at c.args.shard c.self.invariant.0 listed c.requires.shard in
    let here : 16 * c.position_of-position.result + c.args.shard < length s.shards =
    subst (λ (n : ℕ). 16 * n + c.args.shard < length s.shards) (sym n_is) inside in
    subst (λ (x : PlatformsRecord _ _). 16 * c.position_of-position.result + c.args.shard < length x.shards) c.self.view_is here
