use Rattle.std.proofs.Common.{refl, subst, sym}
use Rattle.signed_envelope.specs.Header.{header_value}
use Rattle.signed_envelope.specs.Steps.{HasSigner}
use Rattle.signed_envelope.proofs.Composed.{header_reads}
use Rattle.signed_envelope.proofs.header.signer.Goals as goal

pub returns-in-Some-clause-ok : goal.returns-in-Some-clause-ok
returns-in-Some-clause-ok c =
    let who = c.in-Some.who in
    let written = c.in-Some.ensures in
    subst (λ text. HasSigner c.args.alg text who) (sym written.0) (header_value c.args.alg who, header_reads c.args.alg who written.1, refl)

pub returns-in_default-2-clause-err : goal.returns-in_default-2-clause-err
returns-in_default-2-clause-err c head who header = (rw c.in_default-2.is at c.in_ok-head.ensures.value) head header.reads
