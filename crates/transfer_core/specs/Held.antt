-- A bill that is held.
use Rattle.std.specs.Prelude.{◌≡◌, List}
use Rattle.ebl_base.specs.declared.chain.ChainLink.{ChainLink}
use Rattle.ebl_base.specs.declared.transaction.Transaction.{Transaction}
use Rattle.bill_diary.specs.declared.bill_place.BillPlace.{BillPlace}
use Rattle.bill_diary.specs.declared.bill_place.BillPlace.TheVariants.{Held}

-- the place is one where a bill is held, with some known chain
abbrev pub IsHeld : BillPlace → Type 0
IsHeld place = (known : List ChainLink) × (since : List Transaction) × (place ≡ Held known since)
