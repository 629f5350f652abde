use Rattle.disk_model.proofs.EventLemmas.{Torn-by_answer, Follows-written, Elapses-written}
use Rattle.disk_model.proofs.log.DiskLog.write.Goals as goal

pub returns-clause-torn : goal.returns-clause-torn
returns-clause-torn c =
    Torn-by_answer c.note_write.result _ _ c.args.place c.args.piece.now c.requires.inside
    c.note_write.ensures.seen c.note_write.ensures.same_seen

pub returns-clause-crash : goal.returns-clause-crash
returns-clause-crash c =
    rw c.note_write.ensures.start
    (Follows-written _ _ _ c.args.place c.args.piece.now c.note_write.result
    c.note_write.ensures.events c.note_write.ensures.same_events)

pub returns-clause-time : goal.returns-clause-time
returns-clause-time c =
    rw c.note_write.ensures.start
    (Elapses-written _ _ _ c.args.place c.args.piece.now c.note_write.result
    c.note_write.ensures.events c.note_write.ensures.same_events)
