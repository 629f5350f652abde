use Rattle.ebl_edge.proofs.ClockLemmas.{clock-tells}
use Rattle.ebl_edge.proofs.memory_clock.MemoryClockClock.now.Goals as goal

pub returns-clause-gives : goal.returns-clause-gives
returns-clause-gives c = clock-tells c.args.self.now.calls c.saturating_add-self.result c.args.self.now.moment c.saturating_add-self.ensures
