-- Which transactions and entries are well-formed.
use Rattle.std.specs.Prelude.{◌≤◌, All, IfSome, length}
use Rattle.ebl_base.specs.PlatformCode.{IsCode}
use Rattle.ebl_base.specs.Party.{IsParty}
use Rattle.ebl_base.specs.Moment.{IsMoment}
use Rattle.ebl_base.specs.declared.limits.TheConstants.{MAX_ENTRY_TRANSACTIONS}
use Rattle.ebl_base.specs.declared.transaction.Transaction.{Transaction}
use Rattle.ebl_base.specs.declared.entry.Entry.{Entry}
use Rattle.document_checksum.specs.Digest.{IsChecksum}

-- parties, and a moment of at most 2^53 - 1
pub record IsTransaction (t : Transaction) : Type 0 where
  pub actor : IsParty t.actor
  pub recipient : IfSome t.recipient IsParty
  pub time : IsMoment t.time

-- a platform code, names, an attempt from 1 to 4,294,967,295, and 1 to 32 transactions
pub record IsEntry (entry : Entry) : Type 0 where
  pub platform : IsCode entry.platform
  pub bill : IsChecksum entry.bill
  pub previous : IfSome entry.previous IsChecksum
  pub first_attempt : 1 ≤ entry.attempt
  pub last_attempt : entry.attempt ≤ 4294967295
  pub some : 1 ≤ length entry.transactions
  pub most : length entry.transactions ≤ MAX_ENTRY_TRANSACTIONS
  pub transactions : All IsTransaction entry.transactions
