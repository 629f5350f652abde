use Rattle.std.proofs.Common.{arith}
use Rattle.disk_model.specs.Log.{events_of}
use Rattle.disk_model.proofs.LogLemmas.{bytes_written-events_of}
use Rattle.disk_model.proofs.EventLemmas.{length-seen_after}
use Rattle.disk_model.proofs.log.DiskLog.bytes_written.Goals as goal

pub returns-clause-count : goal.returns-clause-count
returns-clause-count c = rw (← c.self.view_is)
    (omega (
      arith,
      bytes_written-events_of c.self.inside.marks.items c.self.inside.written.items c.self.invariant.0.whole,
    ))

pub returns-clause-within : goal.returns-clause-within
returns-clause-within c = rw (← c.self.view_is, c.self.invariant.0.replayed)
    (length-seen_after c.self.inside.start
    (events_of c.self.inside.marks.items c.self.inside.written.items) c.self.invariant.0.inside)
