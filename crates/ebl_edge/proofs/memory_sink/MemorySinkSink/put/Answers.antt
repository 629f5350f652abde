use Rattle.std.proofs.Common.{ap, ◌∙◌}
use Rattle.ebl_edge.specs.MemorySink.{SinkRecord}
use Rattle.ebl_base.proofs.CallsLemmas.{HasCause-failed}
use Rattle.ebl_edge.proofs.memory_sink.MemorySinkSink.put.Goals as goal

pub returns-then-next_fails-clause-cause : goal.returns-then-next_fails-clause-cause
returns-then-next_fails-clause-cause c =
    let same = ap (λ (s : SinkRecord). s.calls) c.self-then-next_fails.view_is ∙ c.tear.ensures.calls in
    rw (← c.self.view_is) (HasCause-failed _ _ _ _ (same ∙ c.next_fails.ensures.counted) c.fail.ensures.counted c.fail.ensures.later)

pub returns-in-Err-clause-cause : goal.returns-in-Err-clause-cause
returns-in-Err-clause-cause c =
    rw (← c.self.view_is) (HasCause-failed _ _ _ _ c.next_fails.ensures.counted c.fail-in-Err.ensures.counted c.fail-in-Err.ensures.later)
