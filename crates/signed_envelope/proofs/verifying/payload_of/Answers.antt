use Rattle.std.proofs.Common.{rules}
use Rattle.signed_envelope.proofs.verifying.payload_of.Goals as goal

pub returns-in-None-clause-err : goal.returns-in-None-clause-err
returns-in-None-clause-err g c = (search rules, rw (c.in-None.is, c.as_slice.ensures) at c.in_ok-json.ensures.value)
