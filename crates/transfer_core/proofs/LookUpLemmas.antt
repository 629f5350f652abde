-- The chain that is known at a bill's place, in the words of the machine.
use Rattle.std.proofs.Common.{◌≡◌, Bool, true, false, cond, List, Option, Some, None, refl}
use Rattle.ebl_base.specs.declared.chain.ChainLink.{ChainLink}
use Rattle.bill_diary.specs.declared.record.Record.{Record}
use Rattle.bill_diary.specs.declared.bill_place.BillPlace.TheVariants.{Held, Gone}
use Rattle.bill_diary.specs.Known.{known}
use Rattle.bill_diary.specs.Place.{is_left, known_at, parting, place_of, place_with, since}

known_on : (h : List Record) (k : Option (List ChainLink)) (p : Option ChainLink) → known_at (place_with k p h) ≡ k
known_on h None p = refl
known_on h (Some chain) (Some link) = refl
known_on h (Some chain) None = on_test (is_left chain h)
  where
    on_test : (b : Bool) → known_at (cond b (Gone chain) (Held chain (since h))) ≡ Some chain
    on_test true = refl
    on_test false = refl

-- the chain that is known at a bill's place is the one that is known of it
pub known_at-place_of : (h : List Record) → known_at (place_of h) ≡ known h
known_at-place_of h = known_on h (known h) (parting h)

pub ruleset places = (known_at-place_of)
