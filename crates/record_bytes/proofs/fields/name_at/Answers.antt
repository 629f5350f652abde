use Rattle.std.proofs.Common.{arith}
use Rattle.record_bytes.proofs.FieldLemmas.{name_found}
use Rattle.record_bytes.proofs.fields.name_at.Goals as goal

pub returns-clause-found : goal.returns-clause-found
returns-clause-found c =
    name_found c.args.bytes.now c.in_ok-name.name.now c.in_ok-name.rest.now (λ i. omega (arith, c.type_inv.bytes i))
    c.in_ok-name.ensures.cases.0 c.in_ok-name.ensures.cases.1 c.in_ok-name.ensures.cases.2
