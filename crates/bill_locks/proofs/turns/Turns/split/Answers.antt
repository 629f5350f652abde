use Rattle.std.proofs.Common.{ap}
use Rattle.std.specs.Prelude.{Option}
use Rattle.atomic_table.specs.Table.{Me}
use Rattle.bill_locks.specs.declared.view.View.{View}
use Rattle.bill_locks.specs.View.{right_of}
use Rattle.bill_locks.proofs.IdleLemmas.{idle_of, idle_right}
use Rattle.bill_locks.proofs.turns.Turns.split.Goals as goal

pub invariant_of-result : goal.invariant_of-result
invariant_of-result g c = let e = c.cut-seat.ensures.right in (
  ap (λ (m : Me (Option g.row.T.Denot) (View g.row.T-Frame.Denot g.row.T-Fixed.Denot)). m.1) e,
  ap (λ (m : Me (Option g.row.T.Denot) (View g.row.T-Frame.Denot g.row.T-Fixed.Denot)). m.0.stands) e,
  idle_of (right_of c.count.new.seat.me.0) c.cut-seat.result.me.0
      (ap (λ (m : Me (Option g.row.T.Denot) (View g.row.T-Frame.Denot g.row.T-Fixed.Denot)). m.0) e) (idle_right c.count.new.seat.me.0),
)
