use Rattle.std.proofs.Common.{◌+◌, ap, ◌∙◌, drop}
use Rattle.canonical_json.specs.View.{items_view}
use Rattle.json_forms.specs.Reading.{all_of}
use Rattle.json_forms.proofs.ListLemmas.{gathered, gathered-item}
use Rattle.chain_entry.specs.Reading.{transaction_of}
use Rattle.chain_entry.proofs.reading.transactions_in.Goals as goal

pub loop-item-preserved : goal.loop-item-preserved
loop-item-preserved c =
    ap (λ read. gathered read (all_of transaction_of (items_view (drop (c.loop-item.item-index + 1) c.args.items.now))))
    c.in_ok-push.ensures.items
    ∙ gathered-item transaction_of c.args.items.now c.loop-item.item-index c.item-item.result
    c.loop-item.transactions.items c.in-Some.transaction c.loop-item-test.true c.item-item.is c.in-Some.ensures
    ∙ c.loop-item.invariant
