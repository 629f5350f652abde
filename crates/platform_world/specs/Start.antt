-- What becomes of a platform that starts again: its shards forget all that isn't on their disks.
use Rattle.std.specs.Prelude.{◌≡◌, ◌⊎◌, ℕ, zero, suc, ◌+◌, Bool, List, [], ◌++◌, Some}
use Rattle.ebl_base.specs.declared.platform_code.PlatformCode.{PlatformCode}
use Rattle.platform_world.specs.declared.fate.FateEnd.{FateEnd}
use Rattle.platform_world.specs.declared.fate.FateEnd.TheVariants.{Whole, Stuck, Short}
use Rattle.platform_world.specs.Shard.{IsResolved, kept_at, loosened}
use Rattle.platform_world.specs.World.{PlatformState, ShardState, shard_at, with_shard}

-- a platform's shard is read again, and what is loose there is found out
pub record IsReadAt (p : PlatformCode) (i : ℕ) (before : List PlatformState) (kept : Bool) (after : List PlatformState)
    : Type 0 where
  pub shard : ShardState
  pub is_there : shard_at p i before ≡ Some shard
  pub found : ShardState
  pub resolved : IsResolved shard kept found
  pub after_is : after ≡ with_shard p i found before

-- it is loose from now on
pub record IsLoosenedAt (p : PlatformCode) (i : ℕ) (before after : List PlatformState) : Type 0 where
  pub shard : ShardState
  pub is_there : shard_at p i before ≡ Some shard
  pub after_is : after ≡ with_shard p i (loosened shard) before

-- so are this one and those behind it, so many in all
abbrev pub AreLoosened : PlatformCode → ℕ → ℕ → List PlatformState → List PlatformState → Type 0
AreLoosened p i zero before after = after ≡ before
AreLoosened p i (suc n) before after =
    (between : List PlatformState) × IsLoosenedAt p i before between × AreLoosened p (i + 1) n between after

-- a shard isn't read, with so many behind it: its disk failed, and it and all behind it are loose; or memory ran out,
-- and it is loose
pub record IsCutOff (p : PlatformCode) (i n : ℕ) (before : List PlatformState) (end : FateEnd) (kept : List ℕ)
    (after : List PlatformState) : Type 0 where
  pub none_kept : kept ≡ []
  pub cause : ((end ≡ Stuck i) × AreLoosened p i (suc n) before after)
      ⊎ ((end ≡ Short) × IsLoosenedAt p i before after)

-- from this shard on, so many are read again one by one, up to the first that isn't read
abbrev pub AreReadAgain : PlatformCode → ℕ → ℕ → List PlatformState → FateEnd → List ℕ → List PlatformState → Type 0
AreReadAgain p i zero before end kept after = (end ≡ Whole) × (kept ≡ []) × (after ≡ before)
AreReadAgain p i (suc n) before end kept after =
    IsCutOff p i n before end kept after
    ⊎ ((here : Bool) × (between : List PlatformState) × (behind : List ℕ)
    × IsReadAt p i before here between × (kept ≡ kept_at here i ++ behind)
    × AreReadAgain p (i + 1) n between end behind after)
