-- A shard in one list of all shards is that of its platform.
use Rattle.std.proofs.Common.{◌≡◌, ℕ, zero, suc, ◌+◌, ◌*◌, ◌<◌, ◌≤◌, Bool, true, false, cond, List, [], ◌∷◌, Some, length, take, drop, refl, ap, sym, ◌∙◌, arith}
use Rattle.std.specs.Prelude.{find, option_and_then, slice_get, slice_set}
use Rattle.std.proofs.lemmas.List.{drop-set-lt, drop-set-add, take-set-le}
use Rattle.std.proofs.Math.Seq.{take-set-lt}
use Rattle.ebl_base.specs.PlatformCode.{code_eq}
use Rattle.ebl_base.specs.declared.platform_code.PlatformCode.{PlatformCode}
use Rattle.platform_world.specs.World.{PlatformState, ShardState, shard_at, with_shard}
use Rattle.platform_world.specs.Platforms.{grouped, index_of, position_of}

pub slice_get-take : {X : Type 0} (n : ℕ) (xs : List X) (i : ℕ) → i < n → slice_get (take n xs) i ≡ slice_get xs i
slice_get-take zero xs i h = absurd (omega (arith, h))
slice_get-take (suc n) [] i h = refl
slice_get-take (suc n) (x ∷ xs) zero h = refl
slice_get-take (suc n) (x ∷ xs) (suc i) h = slice_get-take n xs i (omega (arith, h))

pub slice_get-drop : {X : Type 0} (n : ℕ) (xs : List X) (i : ℕ) → slice_get (drop n xs) i ≡ slice_get xs (n + i)
slice_get-drop zero xs i = ap (slice_get xs) (let same : i ≡ 0 + i = omega arith in same)
slice_get-drop (suc n) [] i = refl
slice_get-drop (suc n) (x ∷ xs) i =
    let next : suc (n + i) ≡ suc n + i = omega arith in
    slice_get-drop n xs i ∙ ap (slice_get (x ∷ xs)) next

pub shard_at-grouped : (p : PlatformCode) (i : ℕ) (ps : List PlatformCode) (shards : List ShardState)
    → i < 16 → position_of p ps < length ps → shard_at p i (grouped ps shards) ≡ slice_get shards (index_of p i ps)
shard_at-grouped p i [] shards small listed = absurd (omega (arith, listed))
shard_at-grouped p i (q ∷ qs) shards small listed =
    on_test (code_eq q p) listed (λ later. shard_at-grouped p i qs (drop 16 shards) small later)
  where
    on_test : (b : Bool) → cond b 0 (suc (position_of p qs)) < suc (length qs)
        → (position_of p qs < length qs
        → shard_at p i (grouped qs (drop 16 shards)) ≡ slice_get (drop 16 shards) (index_of p i qs))
        → option_and_then (λ (state : PlatformState). slice_get state.shards i)
        (cond b (Some (record { platform = q; shards = take 16 shards }))
        (find (λ (state : PlatformState). code_eq state.platform p) (grouped qs (drop 16 shards))))
        ≡ slice_get shards (16 * cond b 0 (suc (position_of p qs)) + i)
    on_test true h rest =
        let first : i ≡ 16 * 0 + i = omega arith in
        slice_get-take 16 shards i small ∙ ap (slice_get shards) first
    on_test false h rest =
        let later : position_of p qs < length qs = omega (arith, h) in
        let next : 16 + (16 * position_of p qs + i) ≡ 16 * suc (position_of p qs) + i = omega arith in
        rest later ∙ slice_get-drop 16 shards (index_of p i qs) ∙ ap (slice_get shards) next

pub with_shard-grouped : (p : PlatformCode) (i : ℕ) (shard : ShardState) (ps : List PlatformCode)
    (shards : List ShardState) → i < 16 → position_of p ps < length ps
    → with_shard p i shard (grouped ps shards) ≡ grouped ps (slice_set shards (index_of p i ps) shard)
with_shard-grouped p i shard [] shards small listed = absurd (omega (arith, listed))
with_shard-grouped p i shard (q ∷ qs) shards small listed =
    on_test (code_eq q p) listed (λ later. with_shard-grouped p i shard qs (drop 16 shards) small later)
  where
    state_of : List ShardState → PlatformState
    state_of of_it = record { platform = q; shards = of_it }

    on_test : (b : Bool) → cond b 0 (suc (position_of p qs)) < suc (length qs)
        → (position_of p qs < length qs
        → with_shard p i shard (grouped qs (drop 16 shards))
        ≡ grouped qs (slice_set (drop 16 shards) (index_of p i qs) shard))
        → cond b (record { platform = q; shards = slice_set (take 16 shards) i shard } ∷ grouped qs (drop 16 shards))
        (record { platform = q; shards = take 16 shards } ∷ with_shard p i shard (grouped qs (drop 16 shards)))
        ≡ grouped (q ∷ qs) (slice_set shards (16 * cond b 0 (suc (position_of p qs)) + i) shard)
    on_test true h rest =
        let first : i ≡ 16 * 0 + i = omega arith in
        ap (λ (of_it : List ShardState). record { platform = q; shards = of_it } ∷ grouped qs (drop 16 shards))
        (sym (take-set-lt 16 shards i shard small))
        ∙ ap (λ (left : List ShardState).
        record { platform = q; shards = take 16 (slice_set shards i shard) } ∷ grouped qs left)
        (sym (drop-set-lt 16 shards i shard small))
        ∙ ap (λ (k : ℕ). grouped (q ∷ qs) (slice_set shards k shard)) first
    on_test false h rest =
        let later : position_of p qs < length qs = omega (arith, h) in
        let far : 16 ≤ 16 + index_of p i qs = omega arith in
        let next : 16 + index_of p i qs ≡ 16 * suc (position_of p qs) + i = omega arith in
        ap (λ (states : List PlatformState). record { platform = q; shards = take 16 shards } ∷ states) (rest later)
        ∙ ap (λ (of_it : List ShardState).
        record { platform = q; shards = of_it } ∷ grouped qs (slice_set (drop 16 shards) (index_of p i qs) shard))
        (sym (take-set-le 16 shards (16 + index_of p i qs) shard far))
        ∙ ap (λ (left : List ShardState).
        record { platform = q; shards = take 16 (slice_set shards (16 + index_of p i qs) shard) } ∷ grouped qs left)
        (sym (drop-set-add 16 shards (index_of p i qs) shard))
        ∙ ap (λ (k : ℕ). grouped (q ∷ qs) (slice_set shards k shard)) next
