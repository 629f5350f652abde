use Rattle.std.proofs.Common.{arith}
use Rattle.std.proofs.KnownBytes.{Appends-kept}
use Rattle.ebl_edge.proofs.SinkLemmas.{AppendsFirst-take, Appends-on, OnErr-fact}
use Rattle.ebl_edge.proofs.std_calls.put_all.Goals as goal

pub returns-in_err-done-clause-failed : goal.returns-in_err-done-clause-failed
returns-in_err-done-clause-failed g c =
    OnErr-fact c.from_residual.result (AppendsFirst-take _ _ c.loop.done c.args.piece.now (Appends-kept _ _ _ _ c.loop.invariant.1 c.in_err-done.ensures.bytes))

pub loop-preserved : goal.loop-preserved
loop-preserved g c =
    let on = Appends-on _ _ _ c.args.piece.now c.loop.done c.in_ok-done.field-0 c.loop.invariant.0 c.in_ok-done.ensures.within c.loop.invariant.1 c.in_ok-done.ensures.bytes in
    (on.0, on.1, omega (arith, c.in_ok-done.ensures.cause.later))

pub returns-clause-failed : goal.returns-clause-failed
returns-clause-failed g c = AppendsFirst-take _ _ c.loop.done c.args.piece.now c.loop.invariant.1
