use Rattle.std.proofs.Common.{sym, ◌∙◌}
use Rattle.canonical_json.specs.View.{view}
use Rattle.record_bytes.proofs.FindLemmas.{isnt}
use Rattle.record_bytes.proofs.TextLemmas.{no_transaction_said, transaction_differs, transaction_found}
use Rattle.record_bytes.proofs.texts.transaction_in.Goals as goal

pub returns-in_default : goal.returns-in_default
returns-in_default c =
    no_transaction_said c.args.text.now (view c.args.json.now) c.transaction_said.result c.requires
    c.transaction_said.ensures c.in_default.not-Some

pub returns-then-are_same : goal.returns-then-are_same
returns-then-are_same c =
    transaction_found c.args.text.now (view c.args.json.now) c.in-Some.transaction
    (sym c.in-Some.is ∙ c.transaction_said.ensures)
    (sym c.in_ok-written.ensures ∙ sym c.as_slice.ensures ∙ c.are_same.ensures.0 c.if-are_same.true)

pub returns : goal.returns
returns c =
    transaction_differs c.args.text.now (view c.args.json.now) c.in-Some.transaction c.requires
    (sym c.in-Some.is ∙ c.transaction_said.ensures)
    (λ same. isnt c.are_same.result _ c.if-are_same.false c.are_same.ensures.1
    (c.as_slice.ensures ∙ c.in_ok-written.ensures ∙ same))
