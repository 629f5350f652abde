use Rattle.record_bytes.proofs.FindLemmas.{if_none}
use Rattle.record_bytes.proofs.FieldLemmas.{entry_of_names}
use Rattle.record_bytes.proofs.fields.names_at.Goals as goal

pub returns-in_err-entry-clause-none : goal.returns-in_err-entry-clause-none
returns-in_err-entry-clause-none c =
    if_none c.from_residual-in_err-entry.result _
    (λ bill entry rest begins. c.in_err-entry.ensures.none entry rest
    (entry_of_names c.args.bytes.now c.in_ok-bill.bill c.in_ok-bill.rest.now bill entry rest c.in_ok-bill.ensures.found begins))
