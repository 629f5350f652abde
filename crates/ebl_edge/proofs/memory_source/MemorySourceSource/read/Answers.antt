use Rattle.ebl_base.proofs.CallsLemmas.{HasCause-failed}
use Rattle.ebl_edge.proofs.memory_source.MemorySourceSource.read.Goals as goal

pub returns-then-next_fails-clause-cause : goal.returns-then-next_fails-clause-cause
returns-then-next_fails-clause-cause c =
    rw (← c.self.view_is) (HasCause-failed _ _ _ _ c.next_fails.ensures.counted c.fail.ensures.counted c.fail.ensures.later)
