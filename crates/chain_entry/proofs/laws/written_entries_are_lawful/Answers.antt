use Rattle.std.proofs.Common.{arith}
use Rattle.chain_entry.proofs.CanonicalForms.{entry-lawful, entry-texts, entry-depth, transaction-lawful, transaction-texts, transaction-depth}
use Rattle.chain_entry.proofs.laws.written_entries_are_lawful.Goals as goal

pub returns-clause-entry : goal.returns-clause-entry
returns-clause-entry c entry = entry-lawful entry

pub returns-clause-entry_texts : goal.returns-clause-entry_texts
returns-clause-entry_texts c entry = entry-texts entry

pub returns-clause-entry_depth : goal.returns-clause-entry_depth
returns-clause-entry_depth c entry = entry-depth entry

pub returns-clause-transaction : goal.returns-clause-transaction
returns-clause-transaction c t = transaction-lawful t

pub returns-clause-transaction_texts : goal.returns-clause-transaction_texts
returns-clause-transaction_texts c t = transaction-texts t

pub returns-clause-transaction_depth : goal.returns-clause-transaction_depth
returns-clause-transaction_depth c t = omega (arith, transaction-depth t)
