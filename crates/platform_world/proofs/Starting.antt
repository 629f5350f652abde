-- How a platform's shards are read again one by one.
use Rattle.std.proofs.Common.{◌≡◌, inl, inr, ℕ, suc, ◌+◌, ◌-◌, ◌<◌, ◌≤◌, Bool, List, [], ◌++◌, refl, sym, subst, ◌∙◌, arith}
use Rattle.std.proofs.lemmas.List.{append-nil}
use Rattle.ebl_base.specs.declared.platform_code.PlatformCode.{PlatformCode}
use Rattle.platform_world.specs.declared.fate.FateEnd.{FateEnd}
use Rattle.platform_world.specs.declared.fate.FateEnd.TheVariants.{Short, Stuck, Whole}
use Rattle.platform_world.specs.declared.machine.Unread.{Unread}
use Rattle.platform_world.specs.declared.machine.Unread.TheVariants as unread
use Rattle.platform_world.specs.Platforms.{EachRose, failures_at, index_of, times_if}
use Rattle.platform_world.specs.Shard.{kept_at}
use Rattle.platform_world.specs.Start.{AreLoosened, AreReadAgain, IsLoosenedAt, IsReadAt}
use Rattle.platform_world.specs.World.{PlatformState}
use Rattle.platform_world.proofs.Counts.{later_then, then_later}

one_less : (i : ℕ) → i < 16 → suc (16 - (i + 1)) ≡ 16 - i
one_less i small = omega (arith, small)

pub behind_less : (i : ℕ) → i < 16 → suc (15 - i) ≡ 16 - i
behind_less i small = omega (arith, small)

module _ (p : PlatformCode) (i : ℕ) (small : i < 16) (now next : List PlatformState) where
  pub loosen_step : (after : List PlatformState) → IsLoosenedAt p i now next
      → AreLoosened p (i + 1) (16 - (i + 1)) next after → AreLoosened p i (16 - i) now after
  loosen_step after at rest =
      subst (λ (n : ℕ). AreLoosened p i n now after) (one_less i small) (next, at, rest)

  pub read_step : (here : Bool) (after : List PlatformState) (end : FateEnd) (behind : List ℕ)
      → IsReadAt p i now here next → AreReadAgain p (i + 1) (16 - (i + 1)) next end behind after
      → AreReadAgain p i (16 - i) now end (kept_at here i ++ behind) after
  read_step here after end behind at rest =
      subst (λ (n : ℕ). AreReadAgain p i n now end (kept_at here i ++ behind) after) (one_less i small)
      (inr (here, next, behind, at, refl, rest))

  pub cut_disk : (after : List PlatformState) → IsLoosenedAt p i now next → AreLoosened p (i + 1) (15 - i) next after
      → AreReadAgain p i (16 - i) now (Stuck i) [] after
  cut_disk after at rest =
      subst (λ (n : ℕ). AreReadAgain p i n now (Stuck i) [] after) (behind_less i small)
      (inl (record { none_kept = refl; cause = inl (refl, (next, at, rest)) }))

  pub cut_short : IsLoosenedAt p i now next → AreReadAgain p i (16 - i) now Short [] next
  cut_short at =
      subst (λ (n : ℕ). AreReadAgain p i n now Short [] next) (behind_less i small)
      (inl (record { none_kept = refl; cause = inr (refl, at) }))

-- none is left
pub all_read : (p : PlatformCode) (i : ℕ) (now : List PlatformState) → 16 ≤ i
    → AreReadAgain p i (16 - i) now Whole [] now
all_read p i now done =
    let none : 0 ≡ 16 - i = omega (arith, done) in
    subst (λ (n : ℕ). AreReadAgain p i n now Whole [] now) none (refl, refl, refl)

-- ---- where one isn't read

module _ (p : PlatformCode) (i : ℕ) (small : i < 16) (init now next last : List PlatformState) (kept given : List ℕ)
    (end : FateEnd) (so_far : (e : FateEnd) (behind : List ℕ) (after : List PlatformState)
    → AreReadAgain p i (16 - i) now e behind after → AreReadAgain p 0 16 init e (kept ++ behind) after)
    (at : IsLoosenedAt p i now next) (same : given ≡ kept) where
  kept_so : (e : FateEnd) (after : List PlatformState) → AreReadAgain p i (16 - i) now e [] after
      → AreReadAgain p 0 16 init e given after
  kept_so e after goes =
      subst (λ (xs : List ℕ). AreReadAgain p 0 16 init e xs after) (append-nil kept ∙ sym same) (so_far e [] after goes)

  pub stopped_so : (why : Unread) → (why ≡ unread.Disk → (end ≡ Stuck i) × AreLoosened p (i + 1) (15 - i) next last)
      → (why ≡ unread.NoMemory → (end ≡ Short) × (last ≡ next)) → AreReadAgain p 0 16 init end given last
  stopped_so unread.Disk disk short =
      let (stuck, rest) = disk refl in
      subst (λ (e : FateEnd). AreReadAgain p 0 16 init e given last) (sym stuck)
      (kept_so (Stuck i) last (cut_disk p i small now next last at rest))
  stopped_so unread.NoMemory disk short =
      let (is, unchanged) = short refl in
      subst (λ (e : FateEnd). AreReadAgain p 0 16 init e given last) (sym is)
      (subst (λ (states : List PlatformState). AreReadAgain p 0 16 init Short given states) (sym unchanged)
      (kept_so Short next (cut_short p i small now next at)))

-- the counts of the disks
pub stopped_disks : {M : Type 0} (faults : M → ℕ) (ps others : List PlatformCode) (p : PlatformCode) (i : ℕ)
    (init now next last : List M) (end : FateEnd) (why : Unread) → others ≡ ps
    → EachRose faults (λ (k : ℕ). 0) init now → EachRose faults (λ (k : ℕ). 0) now next
    → (why ≡ unread.Disk → EachRose faults (times_if 1 (index_of p i others)) now next)
    → EachRose faults (λ (k : ℕ). 0) next last
    → (why ≡ unread.Disk → end ≡ Stuck i) → (why ≡ unread.NoMemory → end ≡ Short)
    → EachRose faults (failures_at ps p end) init last
stopped_disks faults ps others p i init now next last end unread.Disk same first later failed rest disk short =
    subst (λ (e : FateEnd). EachRose faults (failures_at ps p e) init last) (sym (disk refl))
    (subst (λ (cs : List PlatformCode). EachRose faults (times_if 1 (index_of p i cs)) init last) same
    (then_later faults (times_if 1 (index_of p i others)) init next last
    (later_then faults (times_if 1 (index_of p i others)) init now next first (failed refl)) rest))
stopped_disks faults ps others p i init now next last end unread.NoMemory same first later failed rest disk short =
    subst (λ (e : FateEnd). EachRose faults (failures_at ps p e) init last) (sym (short refl))
    (then_later faults (λ (k : ℕ). 0) init next last (later_then faults (λ (k : ℕ). 0) init now next first later) rest)
