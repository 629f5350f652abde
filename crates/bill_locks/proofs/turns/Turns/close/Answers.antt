use Rattle.std.proofs.Common.{◌<◌, get_or, ap, sym, subst, arith}
use Rattle.std.specs.Prelude.{Option}
use Rattle.std.specs.Mem.Slots.{slots_counts}
use Rattle.atomic_table.specs.Table.{Me}
use Rattle.atomic_table.specs.Seated.{TableId}
use Rattle.bill_locks.specs.declared.view.View.{View}
use Rattle.bill_locks.specs.View.{mark_at, unopened}
use Rattle.bill_locks.specs.Pass.{PassRecord}
use Rattle.bill_locks.specs.Turn.{HandedOut}
use Rattle.bill_locks.proofs.CloseLemmas.{closes, slice_get_at}
use Rattle.bill_locks.proofs.IdleLemmas.{idle_closing}
use Rattle.bill_locks.proofs.turns.Turns.close.Goals as goal

pub take_from_slots-requires-clause-home : goal.take_from_slots-requires-clause-home
take_from_slots-requires-clause-home g c k lt =
    let me = c.is_alone.ensures.alone c.if-not-is_alone.false in
    let counts = (slots_counts c.close_with.result.slots).0 in
    let h = closes g.T.Grows.fixed g.T.Grows.list g.T.Grows.loose g.T.Grows.disk g.T.Grows.ring _ _ _ _ c.is_alone.new.seat.me.0
    c.close_with.ensures.values.2
    (ap (λ (m : Me (Option g.row.T.Denot) (View g.row.T-Frame.Denot g.row.T-Fixed.Denot)). m.0.alone) me)
    (idle_closing c.last.inside.seat.me.0 c.is_alone.new.seat.me.0
    (ap (λ (m : Me (Option g.row.T.Denot) (View g.row.T-Frame.Denot g.row.T-Fixed.Denot)). m.0) me) c.last.invariant.2)
    k (omega arith) in
    (h.0, h.1)

pub returns-clause-values : goal.returns-clause-values
returns-clause-values g c k lt =
    let me = c.is_alone.ensures.alone c.if-not-is_alone.false in
    let counts = (slots_counts c.close_with.result.slots).0 in
    let slots = c.close_with.ensures.counts.1 in
    let within = subst (λ (t : TableId). k < t.slots) (sym c.self.view_is) lt in
    let view = ap (λ (m : Me (Option g.row.T.Denot) (View g.row.T-Frame.Denot g.row.T-Fixed.Denot)). m.0) me in
    let h = closes g.T.Grows.fixed g.T.Grows.list g.T.Grows.loose g.T.Grows.disk g.T.Grows.ring _ _ _ _ c.is_alone.new.seat.me.0
    c.close_with.ensures.values.2
    (ap (λ (m : Me (Option g.row.T.Denot) (View g.row.T-Frame.Denot g.row.T-Fixed.Denot)). m.0.alone) me)
    (idle_closing c.last.inside.seat.me.0 c.is_alone.new.seat.me.0 view c.last.invariant.2)
    k (omega arith) in (
      h.0,
      slice_get_at c.take_from_slots.result.items k h.0 (c.take_from_slots.ensures.values k h.0 h.1),
      subst (λ (p : PassRecord g.row.T-Frame.Denot g.row.T-Fixed.Denot). HandedOut g.T.Grows.fixed g.T.Grows.list g.T.Grows.loose g.T.Grows.disk
          g.T.Grows.ring (get_or p.knows.opened k unopened) (mark_at k p.knows) h.0) c.last.view_is
          (subst (λ (z : View g.row.T-Frame.Denot g.row.T-Fixed.Denot). HandedOut g.T.Grows.fixed g.T.Grows.list g.T.Grows.loose g.T.Grows.disk
          g.T.Grows.ring (get_or z.opened k unopened) (mark_at k z) h.0) view h.2),
    )
