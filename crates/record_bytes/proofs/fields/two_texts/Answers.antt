use Rattle.record_bytes.proofs.FindLemmas.{if_none}
use Rattle.record_bytes.proofs.FieldLemmas.{second_of}
use Rattle.record_bytes.proofs.fields.two_texts.Goals as goal

pub returns-in_err-second-clause-none : goal.returns-in_err-second-clause-none
returns-in_err-second-clause-none c =
    if_none c.from_residual-in_err-second.result _
    (λ first second are. c.in_err-second.ensures.none second
    (second_of c.args.bytes.now c.in_ok-first.first.now c.in_ok-first.rest.now first second c.in_ok-first.ensures.found are))
