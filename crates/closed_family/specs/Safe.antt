-- The accepted chains of a bill, the end of the longest, and what it means that the bill is safe.
use Rattle.std.specs.Prelude.{◌≡◌, ◌⊎◌, ◌≤◌, true, List, [], ◌∷◌, ◌++◌, Some, Ok, length}
use Rattle.ebl_base.specs.declared.chain.ChainLink.{ChainLink}
use Rattle.ebl_base.specs.declared.platform_code.PlatformCode.{PlatformCode}
use Rattle.ebl_base.specs.declared.transaction.Transaction.{Transaction}
use Rattle.title_fold.specs.declared.title.Title.{Title}
use Rattle.title_fold.specs.Title.{possessor}
use Rattle.title_fold.specs.Fold.{fold}
use Rattle.bill_chain.specs.Chain.{destination, transactions_of}
use Rattle.bill_diary.specs.declared.bill_place.BillPlace.{BillPlace}
use Rattle.bill_diary.specs.declared.bill_place.BillPlace.TheVariants.{Absent, Held, Parting, Gone}
use Rattle.bill_diary.specs.Place.{place_of, taken_chains, may_act_by}
use Rattle.closed_family.specs.Chains.{IsAmong, IsPrefix}
use Rattle.closed_family.specs.Histories.{is_signed}
use Rattle.closed_family.specs.Closed.{Histories}

-- a chain was accepted: the empty one where the bill was signed, and each that was taken where it ends
abbrev pub IsAccepted : Histories → List ChainLink → Type 0
IsAccepted at chain =
    ((chain ≡ []) × ((p : PlatformCode) × (is_signed (at p) ≡ true)))
    ⊎ ((p : PlatformCode) × (destination chain ≡ Some p) × IsAmong chain (taken_chains (at p)))

-- the line of a bill: an accepted chain than which none is longer
pub record IsLine (at : Histories) (line : List ChainLink) : Type 0 where
  pub accepted : IsAccepted at line
  pub longest : (chain : List ChainLink) → IsAccepted at chain → length chain ≤ length line

-- the end of a line: where it ends, and where the bill was signed while the line is empty
abbrev pub IsEnd : Histories → List ChainLink → PlatformCode → Type 0
IsEnd at line p = ((line ≡ []) × (is_signed (at p) ≡ true)) ⊎ (destination line ≡ Some p)

-- a bill is held, or parting, with this known chain
abbrev pub StandsWith : List ChainLink → BillPlace → Type 0
StandsWith chain (Held known since) = known ≡ chain
StandsWith chain (Parting known entry) = known ≡ chain
StandsWith chain place = ⊥

-- a bill is held
abbrev pub IsHeld : BillPlace → Type 0
IsHeld (Held known since) = Unit {0}
IsHeld place = ⊥

-- all but the last
abbrev pub front_of : List Transaction → List Transaction
front_of [] = []
front_of (t ∷ []) = []
front_of (t ∷ u ∷ ts) = t ∷ front_of (u ∷ ts)

-- the transactions at a place: those of the known chain, followed by those made since, which are those of an entry
-- that is parting but its last
abbrev pub transactions_at : BillPlace → List Transaction
transactions_at Absent = []
transactions_at (Held known since) = transactions_of known ++ since
transactions_at (Parting known link) = transactions_of known ++ front_of link.entry.transactions
transactions_at (Gone known) = transactions_of known

-- the transactions fold to a title, which names possessor and title holder, and the possessor is on this platform
pub record TitleIsOn (p : PlatformCode) (transactions : List Transaction) : Type 0 where
  pub title : Title
  pub folds : fold transactions ≡ Ok (Some title)
  pub on : (possessor title).platform ≡ p

-- a bill is safe
pub record IsSafe (at : Histories) : Type 0 where
  -- of two accepted chains one is a prefix of the other
  pub no_fork : (c d : List ChainLink) → IsAccepted at c → IsAccepted at d → IsPrefix c d ⊎ IsPrefix d c
  pub line : List ChainLink
  pub is_line : IsLine at line
  pub end : PlatformCode
  pub is_end : IsEnd at line end
  -- at the end of the line the bill is held or parting by the whole line, and it is held nowhere else
  pub stands_there : StandsWith line (place_of (at end))
  pub held_there_alone : (p : PlatformCode) → IsHeld (place_of (at p)) → p ≡ end
  -- nobody may act elsewhere
  pub acts_there_alone : (p : PlatformCode) → may_act_by (at p) ≡ true → p ≡ end
  -- the title there
  pub title_there : TitleIsOn end (transactions_at (place_of (at end)))
