use Rattle.chain_entry.specs.Writing.{entry_value, transaction_value}
use Rattle.chain_entry.proofs.RoundTrips.{one_entry, one_transaction}
use Rattle.chain_entry.proofs.CanonicalForms.{entry-lawful, transaction-lawful}
use Rattle.chain_entry.proofs.laws.entries_with_one_text_are_one.Goals as goal

pub returns-clause-entry : goal.returns-clause-entry
returns-clause-entry c a b first second same =
    one_entry a b first second
    (c.equal_texts_have_equal_values.ensures (entry_value a) (entry_value b) (entry-lawful a) (entry-lawful b) same)

pub returns-clause-transaction : goal.returns-clause-transaction
returns-clause-transaction c a b first second same =
    one_transaction a b first second
    (c.equal_texts_have_equal_values.ensures (transaction_value a) (transaction_value b) (transaction-lawful a) (transaction-lawful b) same)
