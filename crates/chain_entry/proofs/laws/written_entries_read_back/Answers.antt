use Rattle.chain_entry.proofs.RoundTrips.{entry-reads_back, transaction-reads_back}
use Rattle.chain_entry.proofs.laws.written_entries_read_back.Goals as goal

pub returns-clause-entry : goal.returns-clause-entry
returns-clause-entry c entry form = entry-reads_back entry form

pub returns-clause-transaction : goal.returns-clause-transaction
returns-clause-transaction c t form = transaction-reads_back t form
