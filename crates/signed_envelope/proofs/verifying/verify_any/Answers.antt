use Rattle.std.proofs.Common.{None, refl}
use Rattle.std.proofs.lemmas.Result.{err_from_is_err_and}
use Rattle.signed_envelope.proofs.Refusals.{refused_by_header, refused_by_payload}
use Rattle.signed_envelope.proofs.verifying.verify_any.Goals as goal

pub returns-in_err-platform-clause-err : goal.returns-in_err-platform-clause-err
returns-in_err-platform-clause-err g c =
    let p = err_from_is_err_and c.from_residual-in_err-platform.result c.from_residual-in_err-platform.ensures.1 in
    let cause = rw (c.as_slice.ensures, c.alg.ensures) at c.in_err-platform.ensures.err in
    rw (p.1, p.2)
    (refused_by_header (g.G.KeyRing.keys c.args.ring.now) _ None _ c.in_ok-parts.parts _ c.in_ok-parts.ensures.ok cause)

pub returns-in_err-payload-clause-err : goal.returns-in_err-payload-clause-err
returns-in_err-payload-clause-err g c =
    let p = err_from_is_err_and c.from_residual-in_err-payload.result c.from_residual-in_err-payload.ensures.1 in
    let signer = rw (c.as_slice.ensures, c.alg.ensures) at c.in_ok-platform.ensures.ok in
    rw (p.1, p.2)
    (refused_by_payload (g.G.KeyRing.keys c.args.ring.now) _ None _ c.in_ok-parts.parts c.in_ok-platform.platform _
    c.in_ok-parts.ensures.ok signer refl c.in_err-payload.ensures.err)
