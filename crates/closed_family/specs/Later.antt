-- Families one after another, and bills that are ended.
use Rattle.std.specs.Prelude.{◌≡◌, List, ◌++◌, Some, Ok}
use Rattle.ebl_base.specs.declared.chain.ChainLink.{ChainLink}
use Rattle.ebl_base.specs.declared.checksum.Checksum.{Checksum}
use Rattle.ebl_base.specs.declared.kind.Kind.{Kind}
use Rattle.ebl_base.specs.declared.party.Party.{Party}
use Rattle.ebl_base.specs.declared.platform_code.PlatformCode.{PlatformCode}
use Rattle.ebl_base.specs.declared.transaction.Transaction.{Transaction}
use Rattle.title_fold.specs.declared.title.Title.TheVariants.{Ended}
use Rattle.title_fold.specs.Fold.{fold}
use Rattle.bill_chain.specs.Chain.{transactions_of}
use Rattle.bill_diary.specs.declared.record.Record.{Record}
use Rattle.bill_diary.specs.declared.bill_place.BillPlace.{BillPlace}
use Rattle.bill_diary.specs.declared.bill_place.BillPlace.TheVariants.{Held}
use Rattle.closed_family.specs.declared.family.Member.{Member}
use Rattle.closed_family.specs.Family.{histories_of}

-- a history of one family goes on in another one: with further records after it, or none
pub record GoesOnTo (before after : List Member) (bill : Checksum) (p : PlatformCode) : Type 0 where
  pub more : List Record
  pub history_is : histories_of bill after p ≡ more ++ histories_of bill before p

-- each history goes on
abbrev pub IsLaterThan : List Member → List Member → Type 0
IsLaterThan before after = (bill : Checksum) (p : PlatformCode) → GoesOnTo before after bill p

-- a bill is ended at a platform: it is held there, and its title, which names this carrier, is ended
pub record IsEndedAt (place : BillPlace) (carrier : Party) : Type 0 where
  pub known : List ChainLink
  pub since : List Transaction
  pub held : place ≡ Held known since
  pub kind : Kind
  pub title : fold (transactions_of known ++ since) ≡ Ok (Some (Ended kind carrier))
