use Rattle.std.proofs.Common.{arith}
use Rattle.std.proofs.KnownBytes.{Keeps-trans}
use Rattle.ebl_base.proofs.FaultsLemmas.{HasCause-counted}
use Rattle.ebl_edge.proofs.std_calls.read_some.Goals as goal

pub returns-then-ne-clause-cause : goal.returns-then-ne-clause-cause
returns-then-ne-clause-cause g c = HasCause-counted _ _ _ _ c.loop.invariant.1 c.count_fault-failed.ensures.later c.count_fault-failed.ensures.counted

pub loop-preserved : goal.loop-preserved
loop-preserved g c = (Keeps-trans _ _ _ c.loop.invariant.0 c.in-Err.ensures.bytes, omega arith)

pub returns-clause-cause : goal.returns-clause-cause
returns-clause-cause g c = HasCause-counted _ _ _ _ c.loop.invariant.1 c.count_fault.ensures.later c.count_fault.ensures.counted
