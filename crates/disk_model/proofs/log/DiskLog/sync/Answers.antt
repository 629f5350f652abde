use Rattle.std.proofs.Common.{arith, refl}
use Rattle.disk_model.proofs.LogLemmas.{length-events_of, events_of-sync, IsKept-sync}
use Rattle.disk_model.proofs.EventLemmas.{NoneNew-synced, Only-synced, Elapses-same, Elapses-push}
use Rattle.disk_model.specs.Event.{synced}
use Rattle.disk_model.proofs.log.DiskLog.sync.Goals as goal

pub returns-in_err-push-clause-fits : goal.returns-in_err-push-clause-fits
returns-in_err-push-clause-fits c =
    rw (← c.self.view_is)
    (λ room. absurd
    (omega (
      arith,
      room,
      length-events_of c.self.inside.marks.items c.self.inside.written.items,
      c.in_err-push.ensures.full,
    )))

pub returns-in_err-push-clause-crash : goal.returns-in_err-push-clause-crash
returns-in_err-push-clause-crash c = rw (c.in_err-push.ensures.items, ← c.self.view_is) (λ d left. left)

pub returns-in_err-push-clause-time : goal.returns-in_err-push-clause-time
returns-in_err-push-clause-time c = rw (c.in_err-push.ensures.items, ← c.self.view_is) (Elapses-same _ _ _ refl)

pub invariant_of-self-2 : goal.invariant_of-self-2
invariant_of-self-2 c = (
  rw c.in_ok-push.ensures.items (IsKept-sync _ _ _ _ c.self.invariant.0),
  c.self.invariant.1,
  c.self.invariant.2,
  omega arith,
)

pub returns-clause-events : goal.returns-clause-events
returns-clause-events c = rw (c.in_ok-push.ensures.items, ← c.self.view_is)
    (events_of-sync c.self.inside.marks.items c.self.inside.written.items)

pub returns-clause-durable : goal.returns-clause-durable
returns-clause-durable c =
    rw (c.in_ok-push.ensures.items, ← c.self.view_is, c.self.invariant.0.replayed)
    (Only-synced _ _ _ (events_of-sync c.self.inside.marks.items c.self.inside.written.items))

pub returns-clause-crash : goal.returns-clause-crash
returns-clause-crash c =
    rw (c.in_ok-push.ensures.items, ← c.self.view_is)
    (NoneNew-synced _ _ _ c.self.invariant.0.inside
    (events_of-sync c.self.inside.marks.items c.self.inside.written.items))

pub returns-clause-time : goal.returns-clause-time
returns-clause-time c =
    rw (c.in_ok-push.ensures.items, ← c.self.view_is)
    (Elapses-push _ _ _ synced (events_of-sync c.self.inside.marks.items c.self.inside.written.items))
