-- A platform's shard, and another one in its place.
use Rattle.std.proofs.Common.{◌≡◌, ℕ, zero, suc, Bool, true, false, cond, List, [], ◌∷◌, Some, refl, sym, ap, ◌∙◌}
use Rattle.std.specs.Prelude.{find, map, option_and_then, slice_get, slice_set}
use Rattle.std.proofs.lemmas.List.{map-set}
use Rattle.ebl_base.specs.PlatformCode.{code_eq}
use Rattle.ebl_base.proofs.SameLemmas.{code_eq-Decides}
use Rattle.ebl_base.specs.declared.platform_code.PlatformCode.{PlatformCode}
use Rattle.bill_diary.specs.declared.frame.Frame.{Frame}
use Rattle.closed_family.specs.declared.family.Member.{Member}
use Rattle.platform_world.specs.World.{PlatformState, ShardState, member_of, shard_at, with_shard}

-- ---- in one list

set_same : (xs : List ShardState) (i : ℕ) (s : ShardState) → slice_get xs i ≡ Some s → slice_set xs i s ≡ xs
set_same [] i s is = cc is
set_same (x ∷ xs) zero s is = let same : s ≡ x = cc is in ap (λ (y : ShardState). y ∷ xs) same
set_same (x ∷ xs) (suc i) s is = ap (λ (ys : List ShardState). x ∷ ys) (set_same xs i s is)

set_twice : (xs : List ShardState) (i : ℕ) (a b : ShardState) → slice_set (slice_set xs i a) i b ≡ slice_set xs i b
set_twice [] i a b = refl
set_twice (x ∷ xs) zero a b = refl
set_twice (x ∷ xs) (suc i) a b = ap (λ (ys : List ShardState). x ∷ ys) (set_twice xs i a b)

set_there : (xs : List ShardState) (i : ℕ) (s put : ShardState) → slice_get xs i ≡ Some s
    → slice_get (slice_set xs i put) i ≡ Some put
set_there [] i s put is = cc is
set_there (x ∷ xs) zero s put is = refl
set_there (x ∷ xs) (suc i) s put is = set_there xs i s put is

set_elsewhere : (xs : List ShardState) (i k : ℕ) (put : ShardState) → (k ≡ i → ⊥)
    → slice_get (slice_set xs i put) k ≡ slice_get xs k
set_elsewhere [] i k put other = refl
set_elsewhere (x ∷ xs) zero zero put other = absurd (other refl)
set_elsewhere (x ∷ xs) zero (suc k) put other = refl
set_elsewhere (x ∷ xs) (suc i) zero put other = refl
set_elsewhere (x ∷ xs) (suc i) (suc k) put other =
    set_elsewhere xs i k put (λ (same : k ≡ i). other (ap suc same))

-- ---- on a platform

-- the same one changes nothing
pub put_same : (p : PlatformCode) (i : ℕ) (s : ShardState) (states : List PlatformState)
    → shard_at p i states ≡ Some s → with_shard p i s states ≡ states
put_same p i s [] is = refl
put_same p i s (state ∷ states) is = on_test (code_eq state.platform p) is (put_same p i s states)
  where
    on_test : (b : Bool)
        → option_and_then (λ (x : PlatformState). slice_get x.shards i)
        (cond b (Some state) (find (λ (x : PlatformState). code_eq x.platform p) states)) ≡ Some s
        → (shard_at p i states ≡ Some s → with_shard p i s states ≡ states)
        → cond b (record state { shards = slice_set state.shards i s } ∷ states) (state ∷ with_shard p i s states)
        ≡ state ∷ states
    on_test true there further =
        ap (λ (xs : List ShardState). record { platform = state.platform; shards = xs } ∷ states)
        (set_same state.shards i s there)
    on_test false there further = ap (λ (xs : List PlatformState). state ∷ xs) (further there)

-- the second counts
pub put_twice : (p : PlatformCode) (i : ℕ) (a b : ShardState) (states : List PlatformState)
    → with_shard p i b (with_shard p i a states) ≡ with_shard p i b states
put_twice p i a b [] = refl
put_twice p i a b (state ∷ states) = on_test (code_eq state.platform p) refl (put_twice p i a b states)
  where
    on_test : (test : Bool) → code_eq state.platform p ≡ test
        → with_shard p i b (with_shard p i a states) ≡ with_shard p i b states
        → with_shard p i b (cond test (record state { shards = slice_set state.shards i a } ∷ states) (state ∷ with_shard p i a states))
        ≡ cond test (record state { shards = slice_set state.shards i b } ∷ states) (state ∷ with_shard p i b states)
    on_test true here further =
        ap (λ (t : Bool). cond t (record { platform = state.platform; shards = slice_set (slice_set state.shards i a) i b } ∷ states)
        (record { platform = state.platform; shards = slice_set state.shards i a } ∷ with_shard p i b states)) here
        ∙ ap (λ (xs : List ShardState). record { platform = state.platform; shards = xs } ∷ states)
        (set_twice state.shards i a b)
    on_test false here further =
        ap (λ (t : Bool). cond t (record state { shards = slice_set state.shards i b } ∷ with_shard p i a states)
        (state ∷ with_shard p i b (with_shard p i a states))) here
        ∙ ap (λ (xs : List PlatformState). state ∷ xs) further

-- it is there
pub at_put : (p : PlatformCode) (i : ℕ) (s put : ShardState) (states : List PlatformState)
    → shard_at p i states ≡ Some s → shard_at p i (with_shard p i put states) ≡ Some put
at_put p i s put [] is = cc is
at_put p i s put (state ∷ states) is = on_test (code_eq state.platform p) refl is (at_put p i s put states)
  where
    on_test : (b : Bool) → code_eq state.platform p ≡ b
        → option_and_then (λ (x : PlatformState). slice_get x.shards i)
        (cond b (Some state) (find (λ (x : PlatformState). code_eq x.platform p) states)) ≡ Some s
        → (shard_at p i states ≡ Some s → shard_at p i (with_shard p i put states) ≡ Some put)
        → shard_at p i (cond b (record state { shards = slice_set state.shards i put } ∷ states)
        (state ∷ with_shard p i put states)) ≡ Some put
    on_test true here there further =
        ap (λ (t : Bool). option_and_then (λ (x : PlatformState). slice_get x.shards i)
        (cond t (Some (record state { shards = slice_set state.shards i put }))
        (find (λ (x : PlatformState). code_eq x.platform p) states))) here
        ∙ set_there state.shards i s put there
    on_test false here there further =
        ap (λ (t : Bool). option_and_then (λ (x : PlatformState). slice_get x.shards i)
        (cond t (Some state) (find (λ (x : PlatformState). code_eq x.platform p) (with_shard p i put states)))) here
        ∙ further there

-- and everything else is as before
pub elsewhere : (p : PlatformCode) (i : ℕ) (put : ShardState) (states : List PlatformState) (q : PlatformCode) (k : ℕ)
    → ((q ≡ p) × (k ≡ i) → ⊥) → shard_at q k (with_shard p i put states) ≡ shard_at q k states
elsewhere p i put [] q k other = refl
elsewhere p i put (state ∷ states) q k other =
    on_test (code_eq state.platform p) refl (elsewhere p i put states q k other)
  where
    set : PlatformState
    set = record { platform = state.platform; shards = slice_set state.shards i put }

    on_here : (at_q : Bool) → code_eq state.platform q ≡ at_q → state.platform ≡ p
        → option_and_then (λ (x : PlatformState). slice_get x.shards k)
        (cond at_q (Some set) (find (λ (x : PlatformState). code_eq x.platform q) states))
        ≡ option_and_then (λ (x : PlatformState). slice_get x.shards k)
        (cond at_q (Some state) (find (λ (x : PlatformState). code_eq x.platform q) states))
    on_here true is here =
        set_elsewhere state.shards i k put
        (λ (same : k ≡ i). other (sym ((code_eq-Decides state.platform q).0 is) ∙ here, same))
    on_here false is here = refl

    on_later : (at_q : Bool) → shard_at q k (with_shard p i put states) ≡ shard_at q k states
        → option_and_then (λ (x : PlatformState). slice_get x.shards k)
        (cond at_q (Some state) (find (λ (x : PlatformState). code_eq x.platform q) (with_shard p i put states)))
        ≡ option_and_then (λ (x : PlatformState). slice_get x.shards k)
        (cond at_q (Some state) (find (λ (x : PlatformState). code_eq x.platform q) states))
    on_later true further = refl
    on_later false further = further

    on_test : (b : Bool) → code_eq state.platform p ≡ b
        → shard_at q k (with_shard p i put states) ≡ shard_at q k states
        → shard_at q k (cond b (set ∷ states) (state ∷ with_shard p i put states)) ≡ shard_at q k (state ∷ states)
    on_test true is further = on_here (code_eq state.platform q) refl ((code_eq-Decides state.platform p).0 is)
    on_test false is further = on_later (code_eq state.platform q) further

-- ---- diaries

-- the diaries go by the diary that is put there
pub same_members : (p : PlatformCode) (i : ℕ) (a b : ShardState) → a.diary ≡ b.diary → (states : List PlatformState)
    → map member_of (with_shard p i a states) ≡ map member_of (with_shard p i b states)
same_members p i a b same [] = refl
same_members p i a b same (state ∷ states) = on_test (code_eq state.platform p) (same_members p i a b same states)
  where
    on_test : (t : Bool) → map member_of (with_shard p i a states) ≡ map member_of (with_shard p i b states)
        → map member_of (cond t (record state { shards = slice_set state.shards i a } ∷ states) (state ∷ with_shard p i a states))
        ≡ map member_of (cond t (record state { shards = slice_set state.shards i b } ∷ states) (state ∷ with_shard p i b states))
    on_test true further =
        ap (λ (ds : List (List Frame)). record { platform = state.platform; diaries = ds } ∷ map member_of states)
        (map-set (λ (s : ShardState). s.diary) state.shards i a
        ∙ ap (slice_set (map (λ (s : ShardState). s.diary) state.shards) i) same
        ∙ sym (map-set (λ (s : ShardState). s.diary) state.shards i b))
    on_test false further = ap (λ (ms : List Member). member_of state ∷ ms) further
