use Rattle.record_bytes.proofs.FindLemmas.{if_none}
use Rattle.record_bytes.proofs.FieldLemmas.{no_text, text_missing}
use Rattle.record_bytes.proofs.fields.text_at.Goals as goal

pub returns-in_err-length-clause-none : goal.returns-in_err-length-clause-none
returns-in_err-length-clause-none c =
    if_none c.from_residual.result _ (no_text c.args.bytes.now c.in_err-length.ensures.cases)

pub returns-then-rest-length-clause-none : goal.returns-then-rest-length-clause-none
returns-then-rest-length-clause-none c =
    text_missing c.args.bytes.now c.in_ok-length.length.now c.in_ok-length.rest.now c.number_of-length.result
    c.in_ok-length.ensures.cases.0 c.in_ok-length.ensures.cases.1 c.number_of-length.ensures.bytes
    c.number_of-length.ensures.short c.if-rest-length.true
