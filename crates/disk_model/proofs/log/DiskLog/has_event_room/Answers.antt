use Rattle.std.proofs.Common.{rules}
use Rattle.disk_model.proofs.LogLemmas.{length-events_of}
use Rattle.disk_model.proofs.log.DiskLog.has_event_room.Goals as goal

pub returns : goal.returns
returns c = rw (← c.self.view_is, length-events_of c.self.inside.marks.items c.self.inside.written.items) (search rules)
