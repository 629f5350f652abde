use Rattle.std.proofs.Common.{◌∙◌}
use Rattle.canonical_json.specs.View.{view}
use Rattle.record_bytes.proofs.FindLemmas.{found_is, isnt, not_found}
use Rattle.record_bytes.proofs.DocumentLemmas.{no_bill_said, bill_differs}
use Rattle.record_bytes.proofs.texts.bill_of_flat.Goals as goal

pub returns-in_default : goal.returns-in_default
returns-in_default c =
    no_bill_said c.args.text.now (view c.args.json.now) c.requires.reads
    (not_found _ c.in_ok-document.field-0 c.in_default.not-Some c.in_ok-document.ensures)

pub returns : goal.returns
returns c =
    bill_differs c.args.text.now (view c.args.json.now) c.in-Some.document c.requires.reads
    (found_is _ c.in_ok-document.field-0 c.in-Some.document c.in-Some.is c.in_ok-document.ensures)
    (λ same. isnt c.are_same.result _ c.if-are_same.false c.are_same.ensures.1 (c.as_slice.ensures ∙ c.text.ensures ∙ same))
