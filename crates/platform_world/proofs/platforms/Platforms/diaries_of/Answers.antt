use Rattle.std.proofs.Common.{◌≡◌, ◌*◌, length, map, sym, ap, subst, ◌∙◌}
use Rattle.std.specs.Prelude.{IfSome, List}
use Rattle.std.proofs.lemmas.List.{length-map}
use Rattle.std.proofs.lemmas.Result.{IfOk-weaker}
use Rattle.ebl_base.specs.declared.platform_code.PlatformCode.{PlatformCode}
use Rattle.bill_lines.specs.Diaries.{histories_in, platforms_in}
use Rattle.closed_family.specs.Family.{histories_of}
use Rattle.platform_world.specs.Machine.{shard_state}
use Rattle.platform_world.specs.Platforms.{PlatformsRecord, given_diary, grouped, shard_diary, states_of}
use Rattle.platform_world.specs.World.{member_of}
use Rattle.platform_world.proofs.Diaries.{same_histories, same_platforms}
use Rattle.platform_world.proofs.Shards.{count}
use Rattle.platform_world.proofs.platforms.Platforms.diaries_of.Goals as goal

pub diaries_of_shard-requires-clause-sixteen : goal.diaries_of_shard-requires-clause-sixteen
diaries_of_shard-requires-clause-sixteen g c =
    ap length c.as_slice.ensures.value ∙ sym (length-map c.self.inside.shards.items g.M.Machine.seen)
    ∙ count c.self.inside.roster (map g.M.Machine.seen c.self.inside.shards.items) c.self.invariant.0
    ∙ ap (λ (ps : List PlatformCode). 16 * length ps) (sym c.platforms.ensures)

pub diaries_of_shard-requires-clause-indexed : goal.diaries_of_shard-requires-clause-indexed
diaries_of_shard-requires-clause-indexed g c =
    subst (λ xs. IfSome c.args.indices (λ given. given.now ≡ map (λ m. (g.M.Machine.seen m).diary) xs))
    (sym (c.as_slice.ensures.value ∙ ap (λ (v : PlatformsRecord _ _). v.shards) c.self.view_is)) c.requires

pub returns-clause-platforms : goal.returns-clause-platforms
returns-clause-platforms g c =
    let i = c.shard_of_bill-shard.result in
    let ps = c.platforms.result.now in
    let states = map (λ m. shard_state (g.M.Machine.seen m)) c.as_slice.result.now in
    IfOk-weaker c.diaries_of_shard.result
    (λ ds. map given_diary ds.items ≡ map (shard_diary i) (grouped ps states))
    (λ ds. platforms_in ds.items ≡ c.args.self.now.roster.platforms)
    (λ ds same. same_platforms i ds.items ps states same ∙ c.platforms.ensures
    ∙ ap (λ (v : PlatformsRecord _ _). v.roster.platforms) c.self.view_is) c.diaries_of_shard.ensures

pub returns-clause-histories : goal.returns-clause-histories
returns-clause-histories g c =
    let bill = c.args.bill in
    let i = c.shard_of_bill-shard.result in
    let ps = c.platforms.result.now in
    let states = map (λ m. shard_state (g.M.Machine.seen m)) c.as_slice.result.now in
    IfOk-weaker c.diaries_of_shard.result
    (λ ds. map given_diary ds.items ≡ map (shard_diary i) (grouped ps states))
    (λ ds. histories_in bill ds.items
    ≡ histories_of bill (map member_of (states_of g.M.Machine.seen c.args.self.now)))
    (λ ds same. same_histories bill ds.items (grouped ps states)
    (same ∙ ap (λ k. map (shard_diary k) (grouped ps states)) c.shard_of_bill-shard.ensures.shard)
    ∙ ap (λ qs. histories_of bill (map member_of (grouped qs states))) c.platforms.ensures
    ∙ ap (λ xs. histories_of bill (map member_of (grouped c.self.inside.roster.platforms
    (map (λ m. shard_state (g.M.Machine.seen m)) xs)))) c.as_slice.ensures.value
    ∙ ap (λ (v : PlatformsRecord _ _). histories_of bill (map member_of (states_of g.M.Machine.seen v))) c.self.view_is)
    c.diaries_of_shard.ensures
