use Rattle.chain_entry.proofs.LengthLemmas.{entry_length, transaction_length}
use Rattle.chain_entry.proofs.laws.written_entries_are_short.Goals as goal

pub returns-clause-entry : goal.returns-clause-entry
returns-clause-entry c = entry_length

pub returns-clause-transaction : goal.returns-clause-transaction
returns-clause-transaction c = transaction_length
