-- What decides whether a chain that was shown may be received.
use Rattle.std.specs.Prelude.{Bool, true, false, List, [], ◌∷◌, ◌++◌, Option, Some, None, if◌then◌else◌}
use Rattle.std.specs.List.{list_any}
use Rattle.ebl_base.specs.Checksum.{checksum_eq}
use Rattle.ebl_base.specs.declared.checksum.Checksum.{Checksum}
use Rattle.ebl_base.specs.declared.chain.ChainLink.{ChainLink}
use Rattle.ebl_base.specs.declared.code.Code.{Code}
use Rattle.ebl_base.specs.declared.evidence.Evidence.{Evidence}
use Rattle.ebl_base.specs.declared.reason.Reason.{Reason}
use Rattle.bill_chain.specs.Chain.{goes_beyond}
use Rattle.bill_diary.specs.declared.record.Record.{Record}
use Rattle.bill_diary.specs.declared.record.Record.TheVariants.{Taken, Declined}
use Rattle.bill_diary.specs.declared.bill_place.BillPlace.{BillPlace}
use Rattle.bill_diary.specs.declared.bill_place.BillPlace.TheVariants.{Absent, Held, Parting, Gone}

-- whether a record is the Taken of an entry, or the Declined of it
abbrev pub takes : Checksum → Record → Bool
takes entry (Taken bill other) = checksum_eq other entry
takes entry r = false

abbrev pub declines : Checksum → Record → Bool
declines entry (Declined bill other code reason evidence) = checksum_eq other entry
declines entry r = false

abbrev pub is_taken : Checksum → List Record → Bool
is_taken entry records = list_any (takes entry) records

abbrev pub is_declined : Checksum → List Record → Bool
is_declined entry records = list_any (declines entry) records

-- why an entry was declined for good
pub record Declination : Type 0 where
  pub code : Code
  pub reason : Reason
  pub evidence : Evidence

-- the last Declined of an entry
abbrev pub last_declined : Checksum → List Record → Option Declination
last_declined entry [] = None
last_declined entry (Declined bill other code reason evidence ∷ records) =
    if checksum_eq other entry then Some (record { code = code; reason = reason; evidence = evidence })
    else last_declined entry records
last_declined entry (r ∷ records) = last_declined entry records

-- whether a chain continues a place: the bill is absent; or it is gone, and the chain goes on beyond the known one;
-- or it is parting, and the chain goes on beyond the known one followed by the entry that is parting
abbrev pub continues : BillPlace → List ChainLink → Bool
continues Absent chain = true
continues (Held known since) chain = false
continues (Parting known entry) chain = goes_beyond (known ++ entry ∷ []) chain
continues (Gone known) chain = goes_beyond known chain
