use Rattle.std.proofs.Common.{length, ap, sym, ◌∙◌, arith}
use Rattle.std.specs.Prelude.{Option}
use Rattle.atomic_table.specs.Table.{Me}
use Rattle.bill_locks.specs.declared.view.View.{View}
use Rattle.bill_locks.proofs.TurnSteps.{looks}
use Rattle.bill_locks.proofs.IdleLemmas.{looked_front, looked_changes, looked_seen, looked_idle}
use Rattle.bill_locks.proofs.steps.look.Goals as goal

pub load-requires : goal.load-requires
load-requires g c =
    let p = c.requires.place in
    let n = c.requires.sized in
    let idle = c.requires.rests.idle in (
      c.requires.of,
      omega arith,
      looks g.T.Grows.fixed g.T.Grows.list g.T.Grows.loose g.T.Grows.disk g.T.Grows.ring _ _ _ _ _ c.requires.place idle.is_out
          (idle.no_turn c.args.at) idle.not_alone,
    )

pub returns-clause-rests : goal.returns-clause-rests
returns-clause-rests g c = let e = c.load.ensures.2 in record {
  hand = ap (λ (m : Me (Option g.row.T.Denot) (View g.row.T-Frame.Denot g.row.T-Fixed.Denot)). m.1) e.1 ∙ c.requires.rests.hand;
  idle = looked_idle c.args.at c.args.seat.now.me.0 c.load.new.seat.me.0 e.0
      (ap (λ (m : Me (Option g.row.T.Denot) (View g.row.T-Frame.Denot g.row.T-Fixed.Denot)). m.0) e.1) c.requires.rests.idle;
}

pub returns-clause-changes : goal.returns-clause-changes
returns-clause-changes g c = let e = c.load.ensures.2 in
    looked_changes c.args.at c.args.seat.now.me.0 c.load.new.seat.me.0 e.0
    (ap (λ (m : Me (Option g.row.T.Denot) (View g.row.T-Frame.Denot g.row.T-Fixed.Denot)). m.0) e.1)

pub returns-clause-seen : goal.returns-clause-seen
returns-clause-seen g c = let e = c.load.ensures.2 in
    looked_seen c.args.at c.args.seat.now.me.0 c.load.new.seat.me.0 e.0
    (ap (λ (m : Me (Option g.row.T.Denot) (View g.row.T-Frame.Denot g.row.T-Fixed.Denot)). m.0) e.1) e.2

pub returns-clause-count : goal.returns-clause-count
returns-clause-count g c = let e = c.load.ensures.2 in
    e.3 ∙ ap length (sym
    (looked_front c.args.at c.args.seat.now.me.0 c.load.new.seat.me.0 e.0
    (ap (λ (m : Me (Option g.row.T.Denot) (View g.row.T-Frame.Denot g.row.T-Fixed.Denot)). m.0) e.1)))
