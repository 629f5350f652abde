use Rattle.std.proofs.Common.{arith}
use Rattle.disk_model.proofs.LogLemmas.{length-events_of, bytes_written-events_of, events_of-write, IsKept-write}
use Rattle.disk_model.proofs.log.DiskLog.note_write.Goals as goal

pub returns-in_err-reserve-clause-fits : goal.returns-in_err-reserve-clause-fits
returns-in_err-reserve-clause-fits c =
    rw (← c.self.view_is)
    (λ over room marks. absurd
    (omega (
      arith,
      room,
      bytes_written-events_of c.self.inside.marks.items c.self.inside.written.items c.self.invariant.0.whole,
      c.in_err-reserve.ensures.full,
    )))

pub returns-in_err-push-clause-fits : goal.returns-in_err-push-clause-fits
returns-in_err-push-clause-fits c =
    rw (← c.self.view_is)
    (λ over room marks. absurd
    (omega (
      arith,
      marks,
      length-events_of c.self.inside.marks.items c.self.inside.written.items,
      c.in_err-push.ensures.full,
    )))

pub invariant_of-self-2 : goal.invariant_of-self-2
invariant_of-self-2 c =
    let inside = rw (← c.self.view_is) at c.requires in (
      rw (
        c.write_over.ensures.items,
        c.in_ok-push.ensures.items,
        c.append.ensures.items,
        c.reserve_over.ensures.same,
        c.reserve.ensures.items,
      )
          (IsKept-write _ _ _ _ _ _ c.self.invariant.0 inside.inside),
      omega arith,
      omega arith,
      omega arith,
    )

pub returns-clause-events : goal.returns-clause-events
returns-clause-events c =
    rw (c.in_ok-push.ensures.items, c.append.ensures.items, c.reserve.ensures.items, ← c.self.view_is)
    (events_of-write _ _ c.args.piece.now c.args.place c.self.invariant.0.whole)
