-- What each place says of a bill's records.
use Rattle.std.specs.Prelude.{◌≡◌, true, false, List, Some, None}
use Rattle.ebl_base.specs.declared.chain.ChainLink.{ChainLink}
use Rattle.ebl_base.specs.declared.transaction.Transaction.{Transaction}
use Rattle.bill_diary.specs.declared.record.Record.{Record}
use Rattle.bill_diary.specs.declared.bill_place.BillPlace.{BillPlace}
use Rattle.bill_diary.specs.declared.bill_place.BillPlace.TheVariants.{Absent, Held, Parting, Gone}
use Rattle.bill_diary.specs.Known.{known}
use Rattle.bill_diary.specs.Place.{parting, is_left, since}

-- a bill is held: a chain is known whose last entry isn't settled, nothing is parting, and these transactions were made
pub record WhereHeld (h : List Record) (chain : List ChainLink) (made : List Transaction) : Type 0 where
  pub known_is : known h ≡ Some chain
  pub not_parting : parting h ≡ None
  pub not_left : is_left chain h ≡ false
  pub since_is : since h ≡ made

-- it is parting with an entry
pub record WhereParting (h : List Record) (chain : List ChainLink) (link : ChainLink) : Type 0 where
  pub known_is : known h ≡ Some chain
  pub parting_is : parting h ≡ Some link

-- it is gone: the last entry of the known chain is settled, and nothing is parting
pub record WhereGone (h : List Record) (chain : List ChainLink) : Type 0 where
  pub known_is : known h ≡ Some chain
  pub not_parting : parting h ≡ None
  pub left : is_left chain h ≡ true

-- what a place says; where it is absent, no chain is known
abbrev pub Stands : List Record → BillPlace → Type 0
Stands h Absent = known h ≡ None
Stands h (Held chain made) = WhereHeld h chain made
Stands h (Parting chain link) = WhereParting h chain link
Stands h (Gone chain) = WhereGone h chain
