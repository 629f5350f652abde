-- What was read, and what the values behind it give, is what all of them give.
use Rattle.std.proofs.Common.{◌≡◌, drop}
use Rattle.canonical_json.specs.View.{items_view}
use Rattle.json_forms.specs.Reading.{all_of}
use Rattle.json_forms.proofs.ListLemmas.{gathered}
use Rattle.chain_entry.specs.Reading.{transaction_of}
use Rattle.chain_entry.proofs.reading.transactions_in.Given as goal

abbrev pub invariant-loop-item : goal.invariant-loop-item
invariant-loop-item l =
    gathered l.transactions.items (all_of transaction_of (items_view (drop l.item-index l.items)))
    ≡ all_of transaction_of (items_view l.items)
