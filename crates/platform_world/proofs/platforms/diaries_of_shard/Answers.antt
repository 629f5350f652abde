use Rattle.std.proofs.Common.{◌≡◌, ◌+◌, ◌*◌, ◌<◌, ◌++◌, suc, [], length, drop, get_or, map, sym, ap, subst, ◌∙◌, arith}
use Rattle.std.specs.Prelude.{List, ◌∷◌, option_map}
use Rattle.std.proofs.Math.Seq.{drop-cons}
use Rattle.std.proofs.lemmas.Option.{slice_get-map}
use Rattle.ebl_base.specs.declared.platform_code.PlatformCode.{PlatformCode}
use Rattle.bill_lines.specs.declared.diaries.PlatformDiary.{PlatformDiary}
use Rattle.platform_world.specs.Machine.{shard_state}
use Rattle.platform_world.specs.Platforms.{given_diary, grouped, shard_diary}
use Rattle.platform_world.proofs.Diaries.{left_from, one_more_given, some_shard}
use Rattle.platform_world.proofs.platforms.diaries_of_shard.Goals as goal

pub diary_at-requires-clause-within : goal.diary_at-requires-clause-within
diary_at-requires-clause-within g c = omega (arith, c.requires.sixteen, c.requires.shard, c.loop-position-test.true)

pub loop-position-preserved : goal.loop-position-preserved
loop-position-preserved g c =
    let i = c.args.shard in
    let position = c.loop-position.position in
    let ps = c.args.platforms.now in
    let shards = c.args.shards.now in
    let states = map (λ x. shard_state (g.M.Machine.seen x)) shards in
    let inside : 16 * position + i < length shards =
    omega (arith, c.requires.sixteen, c.requires.shard, c.loop-position-test.true) in
    let (m, there) = some_shard shards (16 * position + i) inside in
    let none : PlatformCode = record { bytes = [] } in
    let p = get_or ps position none in
    let d : PlatformDiary = record { platform = p; diary = c.diary_at.result } in
    let next : suc position ≡ position + 1 = omega arith in
    subst (λ (ds : List PlatformDiary). map given_diary ds ++ left_from i (position + 1) ps states
    ≡ map (shard_diary i) (grouped ps states)) (sym c.in_ok-push.ensures.items)
    (one_more_given i position ps states c.loop-position.diaries.items d (shard_state (g.M.Machine.seen m)) c.requires.shard
    (drop-cons ps position none c.loop-position-test.true ∙ ap (λ k. p ∷ drop k ps) next)
    (slice_get-map (λ x. shard_state (g.M.Machine.seen x)) shards (16 * position + i)
    ∙ ap (option_map (λ x. shard_state (g.M.Machine.seen x))) there)
    (c.diary_at.ensures m there) c.loop-position.invariant)
