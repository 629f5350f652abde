use Rattle.chain_entry.proofs.RoundTrips.{entry_form, transaction_form}
use Rattle.chain_entry.proofs.laws.decoded_entries_have_the_form.Goals as goal

pub returns-clause-entry : goal.returns-clause-entry
returns-clause-entry c v entry h = entry_form v entry h

pub returns-clause-transaction : goal.returns-clause-transaction
returns-clause-transaction c v t h = transaction_form v t h
