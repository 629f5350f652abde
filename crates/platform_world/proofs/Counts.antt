-- How counts of faults add up over the shards.
use Rattle.std.proofs.Common.{◌≡◌, ℕ, zero, suc, ◌+◌, ◌-◌, ◌^◌, ◌≤◌, Bool, true, false, cond, List, [], ◌∷◌, Some, length, refl, ap, sym, subst, ◌∙◌, arith}
use Rattle.std.specs.Prelude.{min, nat_eq, slice_get, slice_set}
use Rattle.std.proofs.lemmas.Bool.{eq-eqb, eqb-true}
use Rattle.std.proofs.lemmas.List.{length-set}
use Rattle.ebl_base.specs.Faults.{Rose, RoseBy}
use Rattle.ebl_base.specs.declared.platform_code.PlatformCode.{PlatformCode}
use Rattle.platform_requests.specs.Shard.{shard_of}
use Rattle.platform_world.specs.declared.fate.FateEnd.{FateEnd}
use Rattle.platform_world.specs.declared.fate.FateEnd.TheVariants.{Whole, SignFault, Failed, Stuck, Short}
use Rattle.world_events.specs.Happening.{Asking, asks}
use Rattle.platform_world.specs.Machine.{disk_times, ring_times}
use Rattle.platform_world.specs.Platforms.{EachRose, index_of, times_at, times_if}
use Rattle.platform_world.specs.Step.{disk_failed_at, ring_failed_at}

-- ---- one count, up to a most

adds_up : (a b c s t most : ℕ) → min (a + s) most ≤ b → min (b + t) most ≤ c → min (a + (s + t)) most ≤ c
adds_up a b c s t most first then = omega (arith, first, then)

fewer_rose : (a b s t most : ℕ) → t ≤ s → min (a + s) most ≤ b → min (a + t) most ≤ b
fewer_rose a b s t most few rose = omega (arith, few, rose)

stays_so : (a b most : ℕ) → a ≤ b → min (a + 0) most ≤ b
stays_so a b most later = omega (arith, later)

pub by_rose : (a b : ℕ) → Rose a b → RoseBy a 1 b
by_rose a b rose = rose

pub by_later : (a b : ℕ) → a ≤ b → RoseBy a 0 b
by_later a b later = stays_so a b (2 ^ 64 - 1) later

-- ---- all of them

same_item : {X : Type 0} (o : X) (n : X) → Some o ≡ Some n → o ≡ n
same_item o n is = cc

is_there : {X : Type 0} (xs : List X) (k : ℕ) (ys : List X) (y : X) → length ys ≡ length xs → slice_get ys k ≡ Some y
    → (x : X) × (slice_get xs k ≡ Some x)
is_there [] k [] y same is = cc is
is_there [] k (z ∷ ys) y same is = absurd (omega (arith, same))
is_there (x ∷ xs) k [] y same is = cc is
is_there (x ∷ xs) zero (z ∷ ys) y same is = (x, refl)
is_there (x ∷ xs) (suc k) (z ∷ ys) y same is = is_there xs k ys y (omega (arith, same)) is

module _ {M : Type 0} (faults : M → ℕ) where
  pub none_rose : (xs : List M) → EachRose faults (λ (k : ℕ). 0) xs xs
  none_rose xs = record {
    length_is = refl;
    each = λ k old new was is.
        let same : old ≡ new = same_item old new (sym was ∙ is) in
        by_later (faults old) (faults new) (subst (λ (m : M). faults old ≤ faults m) same (omega arith));
  }

  pub rose_fewer : (s t : ℕ → ℕ) (xs ys : List M) → ((k : ℕ) → t k ≤ s k) → EachRose faults s xs ys
      → EachRose faults t xs ys
  rose_fewer s t xs ys few rose = record {
    length_is = rose.length_is;
    each = λ k old new was is.
        fewer_rose (faults old) (faults new) (s k) (t k) (2 ^ 64 - 1) (few k) (rose.each k old new was is);
  }

  pub rose_later : (s : ℕ → ℕ) (xs ys : List M) → EachRose faults s xs ys → EachRose faults (λ (k : ℕ). 0) xs ys
  rose_later s xs ys rose = rose_fewer s (λ (k : ℕ). 0) xs ys (λ k. omega arith) rose

  pub rose_both : (s t : ℕ → ℕ) (xs ys zs : List M) → EachRose faults s xs ys → EachRose faults t ys zs
      → EachRose faults (λ (k : ℕ). s k + t k) xs zs
  rose_both s t xs ys zs first then = record {
    length_is = then.length_is ∙ first.length_is;
    each = λ k old new was is.
        let (m, there) = is_there ys k zs new then.length_is is in
        adds_up (faults old) (faults m) (faults new) (s k) (t k) (2 ^ 64 - 1) (first.each k old m was there)
        (then.each k m new there is);
  }

  pub rose_as : (s t : ℕ → ℕ) (xs ys : List M) → ((k : ℕ) → s k ≡ t k) → EachRose faults s xs ys
      → EachRose faults t xs ys
  rose_as s t xs ys same rose = record {
    length_is = rose.length_is;
    each = λ k old new was is. subst (λ (n : ℕ). RoseBy (faults old) n (faults new)) (same k) (rose.each k old new was is);
  }

  -- first nothing more is owed
  pub later_then : (t : ℕ → ℕ) (xs ys zs : List M) → EachRose faults (λ (k : ℕ). 0) xs ys → EachRose faults t ys zs
      → EachRose faults t xs zs
  later_then t xs ys zs first then =
      rose_as (λ (k : ℕ). 0 + t k) t xs zs (λ k. let same : 0 + t k ≡ t k = omega arith in same)
      (rose_both (λ (k : ℕ). 0) t xs ys zs first then)

  pub then_later : (t : ℕ → ℕ) (xs ys zs : List M) → EachRose faults t xs ys → EachRose faults (λ (k : ℕ). 0) ys zs
      → EachRose faults t xs zs
  then_later t xs ys zs first then =
      rose_as (λ (k : ℕ). t k + 0) t xs zs (λ k. let same : t k + 0 ≡ t k = omega arith in same)
      (rose_both t (λ (k : ℕ). 0) xs ys zs first then)

  -- ---- one shard is changed

  set_here : (xs : List M) (k : ℕ) (m m1 old new : M) → slice_get xs k ≡ Some m → slice_get xs k ≡ Some old
      → slice_get (slice_set xs k m1) k ≡ Some new → (old ≡ m) × (new ≡ m1)
  set_here [] k m m1 old new there was is = cc there
  set_here (x ∷ xs) zero m m1 old new there was is =
      let a : old ≡ m = cc in
      let b : new ≡ m1 = cc is in
      (a, b)
  set_here (x ∷ xs) (suc k) m m1 old new there was is = set_here xs k m m1 old new there was is

  set_there : (xs : List M) (k j : ℕ) (m1 old new : M) → (k ≡ j → ⊥) → slice_get xs j ≡ Some old
      → slice_get (slice_set xs k m1) j ≡ Some new → new ≡ old
  set_there [] k j m1 old new other was is = cc was
  set_there (x ∷ xs) zero zero m1 old new other was is = absurd (other refl)
  set_there (x ∷ xs) zero (suc j) m1 old new other was is = same_item new old (sym is ∙ was)
  set_there (x ∷ xs) (suc k) zero m1 old new other was is = same_item new old (sym is ∙ was)
  set_there (x ∷ xs) (suc k) (suc j) m1 old new other was is =
      set_there xs k j m1 old new (λ (same : k ≡ j). other (ap suc same)) was is

  pub rose_set : (xs : List M) (k : ℕ) (m m1 : M) (t : ℕ) → slice_get xs k ≡ Some m → RoseBy (faults m) t (faults m1)
      → EachRose faults (times_if t k) xs (slice_set xs k m1)
  rose_set xs k m m1 t there rose = record {
    length_is = length-set xs k m1;
    each = λ j old new was is. on_test j old new was is (nat_eq k j) refl;
  }
    where
      on_test : (j : ℕ) (old new : M) → slice_get xs j ≡ Some old → slice_get (slice_set xs k m1) j ≡ Some new
          → (b : Bool) → nat_eq k j ≡ b → RoseBy (faults old) (cond b t 0) (faults new)
      on_test j old new was is true here =
          let at : k ≡ j = eqb-true k j here in
          let (old_is, new_is) = set_here xs k m m1 old new there (ap (slice_get xs) at ∙ was)
          (ap (slice_get (slice_set xs k m1)) at ∙ is) in
          subst (λ (x : M). RoseBy (faults x) t (faults new)) (sym old_is)
          (subst (λ (x : M). RoseBy (faults m) t (faults x)) (sym new_is) rose)
      on_test j old new was is false here =
          let same : new ≡ old = set_there xs k j m1 old new
          (λ (at : k ≡ j). let clash : true ≡ false = sym (eq-eqb k j at) ∙ here in cc clash) was is in
          by_later (faults old) (faults new) (subst (λ (x : M). faults old ≤ faults x) (sym same) (omega arith))

-- ---- where it failed

no_times : (b : Bool) → ◌≡◌ {A = ℕ} (cond b 0 0) 0
no_times true = refl
no_times false = refl

pub asked_disk : (ps : List PlatformCode) (a : Asking) (end : FateEnd) (k : ℕ)
    → times_if (disk_times end) (index_of a.at (shard_of a.request) ps) k ≡ times_at ps (disk_failed_at (asks a) end) k
asked_disk ps a Whole k = no_times (nat_eq (index_of a.at (shard_of a.request) ps) k)
asked_disk ps a SignFault k = no_times (nat_eq (index_of a.at (shard_of a.request) ps) k)
asked_disk ps a Failed k = refl
asked_disk ps a (Stuck i) k = refl
asked_disk ps a Short k = no_times (nat_eq (index_of a.at (shard_of a.request) ps) k)

pub asked_ring : (ps : List PlatformCode) (a : Asking) (end : FateEnd) (k : ℕ)
    → times_if (ring_times end) (index_of a.at (shard_of a.request) ps) k ≡ times_at ps (ring_failed_at (asks a) end) k
asked_ring ps a Whole k = no_times (nat_eq (index_of a.at (shard_of a.request) ps) k)
asked_ring ps a SignFault k = refl
asked_ring ps a Failed k = no_times (nat_eq (index_of a.at (shard_of a.request) ps) k)
asked_ring ps a (Stuck i) k = no_times (nat_eq (index_of a.at (shard_of a.request) ps) k)
asked_ring ps a Short k = no_times (nat_eq (index_of a.at (shard_of a.request) ps) k)
