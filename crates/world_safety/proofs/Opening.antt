-- The world before the first event is the opening of its roster.
use Rattle.std.proofs.Common.{◌≡◌, ◌≤◌, ◌*◌, ◌-◌, ℕ, zero, suc, Bool, true, false, cond, List, [], ◌∷◌, length, take, drop, Option, Some, None, refl, ap, ◌∙◌, arith}
use Rattle.std.specs.Prelude.{find, map, option_and_then, option_map, slice_get}
use Rattle.std.proofs.lemmas.List.{length-drop, length-take-le}
use Rattle.std.proofs.lemmas.Option.{slice_get-map}
use Rattle.ebl_base.specs.PlatformCode.{code_eq}
use Rattle.ebl_base.specs.declared.platform_code.PlatformCode.{PlatformCode}
use Rattle.signed_envelope.specs.KeyRing.{Keys}
use Rattle.party_roster.specs.RosterRecord.{RosterRecord}
use Rattle.bill_diary.specs.declared.frame.Frame.{Frame}
use Rattle.closed_family.specs.declared.family.Member.{Member}
use Rattle.run_safety.specs.Network as networks
use Rattle.run_safety.specs.Network.{Network, opened}
use Rattle.platform_world.specs.World.{PlatformState, ShardState, loose_frame, member_of, opened_platforms, opened_shard, opening, shard_at}
use Rattle.world_safety.specs.Worlds.{network_of}

-- so many diaries without a frame
abbrev empties : ℕ → List (List Frame)
empties zero = []
empties (suc k) = [] ∷ empties k

opened_diaries : (ks : List Keys) → map (λ (s : ShardState). s.diary) (map opened_shard ks) ≡ empties (length ks)
opened_diaries [] = refl
opened_diaries (k ∷ ks) = ap (λ (ds : List (List Frame)). [] ∷ ds) (opened_diaries ks)

opened_member : (p : PlatformCode) (rings : List Keys) → 16 ≤ length rings
    → member_of (record { platform = p; shards = map opened_shard (take 16 rings) }) ≡ opened p
opened_member p rings enough =
    ap (λ (ds : List (List Frame)). record { platform = p; diaries = ds })
    (opened_diaries (take 16 rings) ∙ ap empties (length-take-le 16 rings enough))

pub opened_family : (ps : List PlatformCode) (rings : List Keys) → 16 * length ps ≤ length rings
    → map member_of (opened_platforms ps rings) ≡ map opened ps
opened_family [] rings enough = refl
opened_family (p ∷ ps) rings enough =
    let first : 16 ≤ length rings = omega (arith, enough) in
    let dropped : length (drop 16 rings) ≡ length rings - 16 = length-drop 16 rings in
    let rest : 16 * length ps ≤ length (drop 16 rings) = omega (arith, enough, dropped) in
    ap (λ (m : Member). m ∷ map member_of (opened_platforms ps (drop 16 rings))) (opened_member p rings first)
    ∙ ap (λ (ms : List Member). opened p ∷ ms) (opened_family ps (drop 16 rings) rest)

pub opened_names : (ps : List PlatformCode) (rings : List Keys)
    → map (λ (s : PlatformState). s.platform) (opened_platforms ps rings) ≡ ps
opened_names [] rings = refl
opened_names (p ∷ ps) rings = ap (λ (qs : List PlatformCode). p ∷ qs) (opened_names ps (drop 16 rings))

none_loose : (o : Option Keys) → option_and_then loose_frame (option_map opened_shard o) ≡ None
none_loose None = refl
none_loose (Some keys) = refl

opened_loose : (ps : List PlatformCode) (rings : List Keys) (p : PlatformCode) (i : ℕ)
    → option_and_then loose_frame (shard_at p i (opened_platforms ps rings)) ≡ None
opened_loose [] rings p i = refl
opened_loose (q ∷ ps) rings p i = on_test (code_eq q p) (opened_loose ps (drop 16 rings) p i)
  where
    on_test : (b : Bool)
        → option_and_then loose_frame (shard_at p i (opened_platforms ps (drop 16 rings))) ≡ None
        → option_and_then loose_frame (option_and_then (λ (x : PlatformState). slice_get x.shards i)
        (cond b (Some (record { platform = q; shards = map opened_shard (take 16 rings) }))
        (find (λ (x : PlatformState). code_eq x.platform p) (opened_platforms ps (drop 16 rings))))) ≡ None
    on_test true further =
        ap (option_and_then loose_frame) (slice_get-map opened_shard (take 16 rings) i)
        ∙ none_loose (slice_get (take 16 rings) i)
    on_test false further = further

pub opened_network : (roster : RosterRecord) (rings : List Keys) → 16 * length roster.platforms ≤ length rings
    → network_of (opening roster rings) ≡ networks.opening roster
opened_network roster rings enough = λ k. record {
  family = opened_family roster.platforms rings enough k;
  loose = λ p i. opened_loose roster.platforms rings p i k;
  sent = [];
}
