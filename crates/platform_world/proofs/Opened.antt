-- The world of fresh shards is the opening of its roster.
use Rattle.std.proofs.Common.{◌≡◌, List, [], ◌∷◌, Option, drop, map, take, refl, ap, ◌∙◌}
use Rattle.std.specs.Prelude.{None}
use Rattle.std.proofs.lemmas.List.{drop-map, take-map}
use Rattle.std.proofs.lemmas.List.Elements.{All-head, All-tail}
use Rattle.ebl_base.specs.declared.platform_code.PlatformCode.{PlatformCode}
use Rattle.signed_envelope.specs.KeyRing.{Keys}
use Rattle.answer_lines.specs.declared.parcel.Parcel.{Parcel}
use Rattle.ebl_base.specs.declared.checksum.Checksum.{Checksum}
use Rattle.bill_diary.specs.declared.frame.Frame.{Frame}
use Rattle.platform_world.specs.Machine.{MachineRecord, shard_state}
use Rattle.platform_world.specs.Platforms.{grouped, states_of}
use Rattle.platform_world.specs.State.{AreFresh, WorldState, world_of}
use Rattle.platform_world.specs.World.{PlatformState, ShardState, opened_platforms, opened_shard, opening}

opened_shards : {M : Type 0} (seen : M → MachineRecord) (shards : List M) → AreFresh seen shards
    → map (λ (m : M). shard_state (seen m)) shards ≡ map opened_shard (map (λ (m : M). (seen m).keys) shards)
opened_shards seen [] fresh = refl
opened_shards {M = M} seen (m ∷ ms) fresh =
    let IsEmpty : M → Type 0 = λ x. ((seen x).diary ≡ []) × ((seen x).loose ≡ None) in
    let (empty, none) = All-head IsEmpty m ms fresh in
    ap (λ (d : List Frame).
    record { keys = (seen m).keys; diary = d; loose = (seen m).loose } ∷ map (λ (x : M). shard_state (seen x)) ms) empty
    ∙ ap (λ (l : Option (Option Frame)).
    record { keys = (seen m).keys; diary = []; loose = l } ∷ map (λ (x : M). shard_state (seen x)) ms) none
    ∙ ap (λ (xs : List ShardState). opened_shard (seen m).keys ∷ xs)
    (opened_shards seen ms (All-tail IsEmpty m ms fresh))

grouped_opened : (ps : List PlatformCode) (rings : List Keys)
    → grouped ps (map opened_shard rings) ≡ opened_platforms ps rings
grouped_opened [] rings = refl
grouped_opened (p ∷ ps) rings =
    ap (λ (shards : List ShardState).
    record { platform = p; shards = shards } ∷ grouped ps (drop 16 (map opened_shard rings)))
    (take-map opened_shard 16 rings)
    ∙ ap (λ (shards : List ShardState).
    record { platform = p; shards = map opened_shard (take 16 rings) } ∷ grouped ps shards)
    (drop-map opened_shard 16 rings)
    ∙ ap (λ (states : List PlatformState).
    record { platform = p; shards = map opened_shard (take 16 rings) } ∷ states)
    (grouped_opened ps (drop 16 rings))

pub fresh_opening : {M R : Type 0} (seen : M → MachineRecord) (w : WorldState M R) → AreFresh seen w.platforms.shards
    → w.sent ≡ [] → w.signed ≡ []
    → world_of seen w ≡ opening w.platforms.roster (map (λ (m : M). (seen m).keys) w.platforms.shards)
fresh_opening {M = M} seen w fresh sent signed =
    let roster = w.platforms.roster in
    ap (λ (xs : List Parcel).
    record { roster = roster; platforms = states_of seen w.platforms; sent = xs; signed = w.signed }) sent
    ∙ ap (λ (xs : List Checksum).
    record { roster = roster; platforms = states_of seen w.platforms; sent = []; signed = xs }) signed
    ∙ ap (λ (states : List PlatformState). record { roster = roster; platforms = states; sent = []; signed = [] })
    (ap (grouped roster.platforms) (opened_shards seen w.platforms.shards fresh)
    ∙ grouped_opened roster.platforms (map (λ (m : M). (seen m).keys) w.platforms.shards))
