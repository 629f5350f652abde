-- A script's world, and the same with another shard, as a network.
use Rattle.std.proofs.Common.{◌≡◌, ℕ, zero, suc, Bool, true, false, ◌||◌, cond, List, [], ◌∷◌, ◌++◌, Option, Some, None, refl, sym, ap, subst, ◌∙◌, slice_set}
use Rattle.std.proofs.Math.Bool.{not}
use Rattle.std.specs.Prelude.{find, map, option_and_then, option_map, slice_get}
use Rattle.std.specs.List.{list_any}
use Rattle.std.proofs.lemmas.List.{append-nil}
use Rattle.std.proofs.lemmas.Option.{slice_get-map}
use Rattle.ebl_base.specs.PlatformCode.{code_eq}
use Rattle.ebl_base.proofs.SameLemmas.{code_eq-Decides}
use Rattle.ebl_base.specs.declared.platform_code.PlatformCode.{PlatformCode}
use Rattle.party_roster.specs.Distinct.{are_distinct}
use Rattle.bill_diary.specs.declared.frame.Frame.{Frame}
use Rattle.platform_machine.specs.Step.{with_frame}
use Rattle.closed_family.specs.declared.family.Member.{Member}
use Rattle.closed_family.proofs.Names.{and_both}
use Rattle.run_safety.specs.Network.{diary_of, longer_at, longer_family, longer_member, written}
use Rattle.platform_world.specs.World.{PlatformState, ShardState, member_of, shard_at, with_shard}

-- ---- diaries

-- the diary of a shard
pub diary_at : (p : PlatformCode) (i : ℕ) (states : List PlatformState)
    → diary_of (map member_of states) p i ≡ option_map (λ (s : ShardState). s.diary) (shard_at p i states)
diary_at p i [] = refl
diary_at p i (state ∷ states) = on_test (code_eq state.platform p) (diary_at p i states)
  where
    on_test : (b : Bool)
        → diary_of (map member_of states) p i ≡ option_map (λ (s : ShardState). s.diary) (shard_at p i states)
        → cond b (slice_get (map (λ (s : ShardState). s.diary) state.shards) i) (diary_of (map member_of states) p i)
        ≡ option_map (λ (s : ShardState). s.diary)
        (option_and_then (λ (x : PlatformState). slice_get x.shards i)
        (cond b (Some state) (find (λ (x : PlatformState). code_eq x.platform p) states)))
    on_test true further = slice_get-map (λ (s : ShardState). s.diary) state.shards i
    on_test false further = further

-- ---- another shard

-- a shard with a longer diary, or the same
abbrev pub with_diary : ShardState → Option Frame → ShardState
with_diary shard frame = record shard { diary = with_frame shard.diary frame }

set_none : (shards : List ShardState) (i : ℕ) (shard : ShardState) → slice_get shards i ≡ Some shard
    → map (λ (s : ShardState). s.diary) (slice_set shards i (with_diary shard None))
    ≡ map (λ (s : ShardState). s.diary) shards
set_none [] i shard is = cc is
set_none (x ∷ xs) zero shard is =
    let same : x ≡ shard = cc is in
    ap (λ (d : List Frame). d ∷ map (λ (s : ShardState). s.diary) xs)
    (append-nil shard.diary ∙ ap (λ (s : ShardState). s.diary) (sym same))
set_none (x ∷ xs) (suc i) shard is =
    ap (λ (ds : List (List Frame)). x.diary ∷ ds) (set_none xs i shard is)

set_some : (shards : List ShardState) (i : ℕ) (shard : ShardState) (frame : Frame) → slice_get shards i ≡ Some shard
    → map (λ (s : ShardState). s.diary) (slice_set shards i (with_diary shard (Some frame)))
    ≡ longer_at i frame (map (λ (s : ShardState). s.diary) shards)
set_some [] i shard frame is = cc is
set_some (x ∷ xs) zero shard frame is =
    let same : x ≡ shard = cc is in
    ap (λ (s : ShardState). (s.diary ++ frame ∷ []) ∷ map (λ (y : ShardState). y.diary) xs) (sym same)
set_some (x ∷ xs) (suc i) shard frame is =
    ap (λ (ds : List (List Frame)). x.diary ∷ ds) (set_some xs i shard frame is)

-- a family without the platform stays as it is
longer_none : (p : PlatformCode) (i : ℕ) (frame : Frame) (states : List PlatformState)
    → list_any (λ y. code_eq y p) (map (λ (s : PlatformState). s.platform) states) ≡ false
    → longer_family p i frame (map member_of states) ≡ map member_of states
longer_none p i frame [] none = refl
longer_none p i frame (state ∷ states) none =
    on_test (code_eq state.platform p) refl none (longer_none p i frame states)
  where
    on_test : (b : Bool) → code_eq state.platform p ≡ b
        → (b || list_any (λ y. code_eq y p) (map (λ (s : PlatformState). s.platform) states)) ≡ false
        → (list_any (λ y. code_eq y p) (map (λ (s : PlatformState). s.platform) states) ≡ false
        → longer_family p i frame (map member_of states) ≡ map member_of states)
        → longer_family p i frame (map member_of (state ∷ states)) ≡ map member_of (state ∷ states)
    on_test true is some further = cc some
    on_test false is some further =
        ap (λ (b : Bool). record {
          platform = state.platform;
          diaries = cond b (longer_at i frame (map (λ (s : ShardState). s.diary) state.shards))
              (map (λ (s : ShardState). s.diary) state.shards);
        } ∷ longer_family p i frame (map member_of states)) is
        ∙ ap (λ (ms : List Member). member_of state ∷ ms) (further some)

not_true : (b : Bool) → not b ≡ true → b ≡ false
not_true true is = cc is
not_true false is = refl

-- the family with the other shard
pub family_after : (p : PlatformCode) (i : ℕ) (shard : ShardState) (frame : Option Frame) (states : List PlatformState)
    → are_distinct code_eq (map (λ (s : PlatformState). s.platform) states) ≡ true
    → shard_at p i states ≡ Some shard
    → map member_of (with_shard p i (with_diary shard frame) states) ≡ written p i frame (map member_of states)
family_after p i shard None [] distinct is = refl
family_after p i shard (Some frame) [] distinct is = refl
family_after p i shard frame (state ∷ states) distinct is =
    on_test (code_eq state.platform p) refl is (family_after p i shard frame states both.1)
  where
    both : (not (list_any (λ y. code_eq y state.platform) (map (λ (s : PlatformState). s.platform) states)) ≡ true)
        × (are_distinct code_eq (map (λ (s : PlatformState). s.platform) states) ≡ true)
    both = and_both (not (list_any (λ y. code_eq y state.platform) (map (λ (s : PlatformState). s.platform) states)))
        (are_distinct code_eq (map (λ (s : PlatformState). s.platform) states)) distinct

    on_none : (o : Option Frame) → o ≡ None → slice_get state.shards i ≡ Some shard
        → record { platform = state.platform; diaries = map (λ (s : ShardState). s.diary) (slice_set state.shards i (with_diary shard None)) } ∷ map member_of states
        ≡ map member_of (state ∷ states)
    on_none o none there =
        ap (λ (ds : List (List Frame)). record { platform = state.platform; diaries = ds } ∷ map member_of states)
        (set_none state.shards i shard there)

    on_some : (f : Frame) → code_eq state.platform p ≡ true → slice_get state.shards i ≡ Some shard
        → record { platform = state.platform; diaries = map (λ (s : ShardState). s.diary) (slice_set state.shards i (with_diary shard (Some f))) } ∷ map member_of states
        ≡ longer_family p i f (map member_of (state ∷ states))
    on_some f here there =
        ap (λ (ds : List (List Frame)). record { platform = state.platform; diaries = ds } ∷ map member_of states)
        (set_some state.shards i shard f there)
        ∙ ap (λ (b : Bool). record {
          platform = state.platform;
          diaries = cond b (longer_at i f (map (λ (s : ShardState). s.diary) state.shards))
              (map (λ (s : ShardState). s.diary) state.shards);
        } ∷ map member_of states) (sym here)
        ∙ ap (λ (ms : List Member). longer_member p i f (member_of state) ∷ ms)
        (sym (longer_none p i f states
        (subst (λ (q : PlatformCode). list_any (λ y. code_eq y q) (map (λ (s : PlatformState). s.platform) states) ≡ false)
        ((code_eq-Decides state.platform p).0 here)
        (not_true (list_any (λ y. code_eq y state.platform) (map (λ (s : PlatformState). s.platform) states)) both.0))))

    here_after : (o : Option Frame) → code_eq state.platform p ≡ true → slice_get state.shards i ≡ Some shard
        → record { platform = state.platform; diaries = map (λ (s : ShardState). s.diary) (slice_set state.shards i (with_diary shard o)) } ∷ map member_of states
        ≡ written p i o (map member_of (state ∷ states))
    here_after None here there = on_none None refl there
    here_after (Some f) here there = on_some f here there

    later_after : (o : Option Frame) → code_eq state.platform p ≡ false
        → map member_of (with_shard p i (with_diary shard o) states) ≡ written p i o (map member_of states)
        → member_of state ∷ map member_of (with_shard p i (with_diary shard o) states)
        ≡ written p i o (map member_of (state ∷ states))
    later_after None other further = ap (λ (ms : List Member). member_of state ∷ ms) further
    later_after (Some f) other further =
        ap (λ (ms : List Member). member_of state ∷ ms) further
        ∙ ap (λ (b : Bool). record {
          platform = state.platform;
          diaries = cond b (longer_at i f (map (λ (s : ShardState). s.diary) state.shards))
              (map (λ (s : ShardState). s.diary) state.shards);
        } ∷ longer_family p i f (map member_of states)) (sym other)

    on_test : (b : Bool) → code_eq state.platform p ≡ b
        → option_and_then (λ (x : PlatformState). slice_get x.shards i)
        (cond b (Some state) (find (λ (x : PlatformState). code_eq x.platform p) states)) ≡ Some shard
        → (shard_at p i states ≡ Some shard
        → map member_of (with_shard p i (with_diary shard frame) states) ≡ written p i frame (map member_of states))
        → map member_of (cond b (record state { shards = slice_set state.shards i (with_diary shard frame) } ∷ states)
        (state ∷ with_shard p i (with_diary shard frame) states))
        ≡ written p i frame (map member_of (state ∷ states))
    on_test true here there further = here_after frame here there
    on_test false other there further = later_after frame other (further there)

-- ---- what stays

-- whatever of a shard the other shard has too is so of each shard
module _ {X : Type 0} (g : ShardState → X) (p : PlatformCode) (i : ℕ) (old new : ShardState) (same : g new ≡ g old) where
  set_same : (shards : List ShardState) (j : ℕ) (k : ℕ) → slice_get shards j ≡ Some old
      → option_map g (slice_get (slice_set shards j new) k) ≡ option_map g (slice_get shards k)
  set_same [] j k is = cc is
  set_same (x ∷ xs) zero zero is = let one : x ≡ old = cc is in ap Some (same ∙ ap g (sym one))
  set_same (x ∷ xs) zero (suc k) is = refl
  set_same (x ∷ xs) (suc j) zero is = refl
  set_same (x ∷ xs) (suc j) (suc k) is = set_same xs j k is

  pub shards_stay : (states : List PlatformState) (q : PlatformCode) (k : ℕ) → shard_at p i states ≡ Some old
      → option_map g (shard_at q k (with_shard p i new states)) ≡ option_map g (shard_at q k states)
  shards_stay [] q k is = refl
  shards_stay (state ∷ states) q k is =
      on_test (code_eq state.platform p) is (shards_stay states q k)
    where
      on_here : (at_q : Bool) → slice_get state.shards i ≡ Some old
          → option_map g (option_and_then (λ (x : PlatformState). slice_get x.shards k)
          (cond at_q (Some (record state { shards = slice_set state.shards i new })) (find (λ (x : PlatformState). code_eq x.platform q) states)))
          ≡ option_map g (option_and_then (λ (x : PlatformState). slice_get x.shards k)
          (cond at_q (Some state) (find (λ (x : PlatformState). code_eq x.platform q) states)))
      on_here true there = set_same state.shards i k there
      on_here false there = refl

      on_later : (at_q : Bool)
          → option_map g (shard_at q k (with_shard p i new states)) ≡ option_map g (shard_at q k states)
          → option_map g (option_and_then (λ (x : PlatformState). slice_get x.shards k)
          (cond at_q (Some state) (find (λ (x : PlatformState). code_eq x.platform q) (with_shard p i new states))))
          ≡ option_map g (option_and_then (λ (x : PlatformState). slice_get x.shards k)
          (cond at_q (Some state) (find (λ (x : PlatformState). code_eq x.platform q) states)))
      on_later true further = refl
      on_later false further = further

      on_test : (at_p : Bool)
          → option_and_then (λ (x : PlatformState). slice_get x.shards i)
          (cond at_p (Some state) (find (λ (x : PlatformState). code_eq x.platform p) states)) ≡ Some old
          → (shard_at p i states ≡ Some old
          → option_map g (shard_at q k (with_shard p i new states)) ≡ option_map g (shard_at q k states))
          → option_map g (shard_at q k (cond at_p (record state { shards = slice_set state.shards i new } ∷ states)
          (state ∷ with_shard p i new states)))
          ≡ option_map g (shard_at q k (state ∷ states))
      on_test true there further = on_here (code_eq state.platform q) there
      on_test false there further = on_later (code_eq state.platform q) (further there)

pub platforms_stay : (p : PlatformCode) (i : ℕ) (shard : ShardState) (states : List PlatformState)
    → map (λ (s : PlatformState). s.platform) (with_shard p i shard states)
    ≡ map (λ (s : PlatformState). s.platform) states
platforms_stay p i shard [] = refl
platforms_stay p i shard (state ∷ states) = on_test (code_eq state.platform p) (platforms_stay p i shard states)
  where
    on_test : (b : Bool)
        → map (λ (s : PlatformState). s.platform) (with_shard p i shard states)
        ≡ map (λ (s : PlatformState). s.platform) states
        → map (λ (s : PlatformState). s.platform)
        (cond b (record state { shards = slice_set state.shards i shard } ∷ states) (state ∷ with_shard p i shard states))
        ≡ state.platform ∷ map (λ (s : PlatformState). s.platform) states
    on_test true further = refl
    on_test false further = ap (λ (ps : List PlatformCode). state.platform ∷ ps) further
