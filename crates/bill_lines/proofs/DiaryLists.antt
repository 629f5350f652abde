-- Searches among the diaries of the platforms, and transactions but the last.
use Rattle.std.proofs.Common.{◌≡◌, Bool, true, false, cond, List, [], ◌∷◌, ◌++◌, Some, map, refl, ap}
use Rattle.std.specs.Prelude.{find, option_map}
use Rattle.ebl_base.specs.declared.checksum.Checksum.{Checksum}
use Rattle.ebl_base.specs.declared.transaction.Transaction.{Transaction}
use Rattle.closed_family.specs.Histories.{is_signed}
use Rattle.closed_family.specs.Safe.{front_of}
use Rattle.bill_lines.specs.Bills.{signed_on}
use Rattle.bill_lines.specs.Diaries.{histories_in, platforms_in}
use Rattle.bill_lines.specs.declared.diaries.PlatformDiary.{PlatformDiary}

-- a search among what is seen of some items
pub find_seen : {X Y : Type 0} (see : X → Y) (test : Y → Bool) (xs : List X)
    → find test (map see xs) ≡ option_map see (find (λ x. test (see x)) xs)
find_seen see test [] = refl
find_seen see test (x ∷ xs) = on_test (test (see x)) (find_seen see test xs)
  where
    on_test : (b : Bool) → find test (map see xs) ≡ option_map see (find (λ y. test (see y)) xs)
        → cond b (Some (see x)) (find test (map see xs))
        ≡ option_map see (cond b (Some x) (find (λ y. test (see y)) xs))
    on_test true same = refl
    on_test false same = same

-- the first platform that signed a bill is that of the first diary on whose platform it was signed
pub signed_on-first : (bill : Checksum) (diaries : List PlatformDiary)
    → signed_on (histories_in bill diaries) (platforms_in diaries)
    ≡ option_map (λ d. d.platform) (find (λ d. is_signed (histories_in bill diaries d.platform)) diaries)
signed_on-first bill diaries =
    find_seen (λ (d : PlatformDiary). d.platform) (λ p. is_signed (histories_in bill diaries p)) diaries

-- all but the last
pub front_of-push : (ts : List Transaction) (t : Transaction) → front_of (ts ++ t ∷ []) ≡ ts
front_of-push [] t = refl
front_of-push (u ∷ []) t = refl
front_of-push (u ∷ v ∷ ts) t = ap (λ rest. u ∷ rest) (front_of-push (v ∷ ts) t)

pub ruleset diary_lists = (front_of-push)

pub ruleset signed_ones = (signed_on-first)
