use Rattle.std.proofs.Common.{Some, rules}
use Rattle.std.proofs.lemmas.Result.{IfErr-weaker, IfOk-weaker, err_from_is_err_and}
use Rattle.signed_envelope.proofs.Refusals.{refused_by_header, refused_by_payload, refused_by_platform, same_code, asked_is_asked, signed_by_payload}
use Rattle.signed_envelope.proofs.verifying.verify_text.Goals as goal

pub returns-in_err-platform-clause-err : goal.returns-in_err-platform-clause-err
returns-in_err-platform-clause-err g c =
    let p = err_from_is_err_and c.from_residual-in_err-platform.result c.from_residual-in_err-platform.ensures.1 in
    let cause = rw (c.as_slice.ensures, c.alg.ensures) at c.in_err-platform.ensures.err in
    rw (p.1, p.2)
    (refused_by_header (g.G.KeyRing.keys c.args.ring.now) _ (Some c.args.who) _ c.in_ok-parts.parts _ c.in_ok-parts.ensures.ok cause)

pub returns-then-ne-clause-err : goal.returns-then-ne-clause-err
returns-then-ne-clause-err g c =
    let signer = rw (c.as_slice.ensures, c.alg.ensures) at c.in_ok-platform.ensures.ok in
    refused_by_platform (g.G.KeyRing.keys c.args.ring.now) _ (Some c.args.who) _ c.in_ok-parts.parts c.in_ok-platform.platform
    c.in_ok-parts.ensures.ok signer (search rules)

pub returns-clause-ok : goal.returns-clause-ok
returns-clause-ok g c =
    let same = same_code c.in_ok-platform.platform c.args.who c.if-ne.ensures in
    let signer = rw (c.as_slice.ensures, c.alg.ensures, same) at c.in_ok-platform.ensures.ok in
    IfOk-weaker c.payload_of.result _ _
    (λ json. signed_by_payload (g.G.KeyRing.keys c.args.ring.now) _ _ c.in_ok-parts.parts c.args.who _ c.in_ok-parts.ensures.ok signer)
    c.payload_of.ensures.ok

pub returns-clause-err : goal.returns-clause-err
returns-clause-err g c =
    let same = same_code c.in_ok-platform.platform c.args.who c.if-ne.ensures in
    let signer = rw (c.as_slice.ensures, c.alg.ensures, same) at c.in_ok-platform.ensures.ok in
    IfErr-weaker c.payload_of.result _ _
    (λ e. refused_by_payload (g.G.KeyRing.keys c.args.ring.now) _ (Some c.args.who) _ c.in_ok-parts.parts c.args.who e
    c.in_ok-parts.ensures.ok signer (asked_is_asked c.args.who))
    c.payload_of.ensures.err
