-- The items are the transactions so far.
use Rattle.std.proofs.Common.{◌≡◌, map, take}
use Rattle.canonical_json.specs.View.{view}
use Rattle.chain_entry.specs.Writing.{transaction_value}
use Rattle.chain_entry.proofs.writing.transactions_member.Given as goal

abbrev pub invariant-loop-transaction : goal.invariant-loop-transaction
invariant-loop-transaction l =
    map view l.items.items ≡ map transaction_value (take l.transaction-index l.transactions)
