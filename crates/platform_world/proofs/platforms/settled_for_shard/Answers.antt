use Rattle.std.proofs.Common.{◌≡◌, ◌+◌, ◌*◌, ◌<◌, ◌++◌, Bool, cond, suc, [], length, drop, get_or, map, refl, sym, ap, subst, ◌∙◌, arith}
use Rattle.std.proofs.Math.Bool.{not}
use Rattle.std.specs.Prelude.{List, ◌∷◌, option_map, slice_get}
use Rattle.std.proofs.Math.Seq.{drop-cons}
use Rattle.std.proofs.lemmas.Option.{slice_get-map, slice_get_read}
use Rattle.ebl_base.specs.declared.platform_code.PlatformCode.{PlatformCode}
use Rattle.platform_requests.specs.Shard.{shard_of_bill}
use Rattle.platform_world.specs.Machine.{shard_state}
use Rattle.platform_world.specs.Platforms.{grouped}
use Rattle.platform_world.proofs.Diaries.{one_more_settled, settled_from, settled_of, settled_step}
use Rattle.platform_world.proofs.platforms.settled_for_shard.Goals as goal

pub loop-position-preserved : goal.loop-position-preserved
loop-position-preserved g c =
    let bill = c.args.bill in
    let position = c.loop-position.position in
    let ps = c.args.platforms.now in
    let shards = c.args.shards.now in
    let m = c.index-shards-position.result in
    let states = map (λ x. shard_state (g.M.Machine.seen x)) shards in
    let i = c.shard_of_bill-shard.result in
    let inside : 16 * position + i < length shards =
    omega (arith, c.requires, c.shard_of_bill-shard.ensures.range, c.loop-position-test.true) in
    let there = slice_get_read shards (length shards) (16 * position + i) m refl inside c.index-shards-position.is in
    let none : PlatformCode = record { bytes = [] } in
    let p = get_or ps position none in
    let next : suc position ≡ position + 1 = omega arith in
    let rest = settled_from bill (position + 1) ps states in
    let old = c.loop-position.settled.items in
    subst (λ (xs : List PlatformCode). xs ++ rest ≡ settled_of bill (grouped ps states))
    (sym c.in_ok-push_unless.ensures)
    (settled_step c.is_loose-loose.result old rest p
    ∙ ap (λ (b : Bool). old ++ cond (not b) (p ∷ rest) rest) c.is_loose-loose.ensures
    ∙ ap (λ (xs : List PlatformCode). old ++ xs)
    (sym (one_more_settled bill position p ps states (shard_state (g.M.Machine.seen m)) (omega (arith, c.shard_of_bill-shard.ensures.range, c.shard_of_bill-shard.ensures.shard))
    (drop-cons ps position none c.loop-position-test.true ∙ ap (λ k. p ∷ drop k ps) next)
    (slice_get-map (λ x. shard_state (g.M.Machine.seen x)) shards (16 * position + shard_of_bill bill)
    ∙ ap (λ k. option_map (λ x. shard_state (g.M.Machine.seen x)) (slice_get shards (16 * position + k))) (sym c.shard_of_bill-shard.ensures.shard)
    ∙ ap (option_map (λ x. shard_state (g.M.Machine.seen x))) there)))
    ∙ c.loop-position.invariant)
