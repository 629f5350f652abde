use Rattle.std.proofs.Common.{◌≡◌, ◌<◌, ◌+◌, ap, sym, subst, arith}
use Rattle.std.specs.Prelude.{Option}
use Rattle.atomic_table.specs.Table.{Me}
use Rattle.atomic_table.specs.Seated.{TableId}
use Rattle.bill_locks.specs.declared.view.View.{View}
use Rattle.bill_locks.specs.View.{mark_at, both_views}
use Rattle.bill_locks.specs.Pass.{PassRecord}
use Rattle.bill_locks.specs.Turn.{JoinsMarks}
use Rattle.bill_locks.proofs.IdleLemmas.{idle_of, idle_both, joins_marks}
use Rattle.bill_locks.proofs.turns.Turns.join.Goals as goal

pub invariant_of-into : goal.invariant_of-into
invariant_of-into g c =
    let e = c.merge.ensures.both in
    let i = c.into.invariant in
    let f = c.from.invariant in
    let stands : c.merge.new.seat.me.0.stands ≡ c.into.inside.seat.me.0.stands + c.from.inside.seat.me.0.stands =
    ap (λ (m : Me (Option g.row.T.Denot) (View g.row.T-Frame.Denot g.row.T-Fixed.Denot)). m.0.stands) e in
    let mine : c.into.inside.seat.me.0.stands ≡ c.into.inside.stands = i.1 in
    let theirs : c.from.inside.seat.me.0.stands ≡ c.from.inside.stands = f.1 in (
      ap (λ (m : Me (Option g.row.T.Denot) (View g.row.T-Frame.Denot g.row.T-Fixed.Denot)). m.1) e,
      omega arith,
      idle_of (both_views c.into.inside.seat.me.0 c.from.inside.seat.me.0) c.merge.new.seat.me.0
          (ap (λ (m : Me (Option g.row.T.Denot) (View g.row.T-Frame.Denot g.row.T-Fixed.Denot)). m.0) e)
          (idle_both c.into.inside.seat.me.0 c.from.inside.seat.me.0 i.2),
    )

pub returns-clause-marks : goal.returns-clause-marks
returns-clause-marks g c k lt =
    let within = subst (λ (t : TableId). k < t.slots) (sym c.self.view_is) lt in
    subst (λ (p : PassRecord g.row.T-Frame.Denot g.row.T-Fixed.Denot). JoinsMarks (mark_at k p.knows) (mark_at k c.args.from.knows)
    (mark_at k c.merge.new.seat.me.0)) c.into.view_is
    (subst (λ (p : PassRecord g.row.T-Frame.Denot g.row.T-Fixed.Denot). JoinsMarks (mark_at k c.into.inside.seat.me.0) (mark_at k p.knows)
    (mark_at k c.merge.new.seat.me.0)) c.from.view_is
    (joins_marks k c.into.inside.seat.me.0 c.from.inside.seat.me.0 c.merge.new.seat.me.0
    (ap (λ (m : Me (Option g.row.T.Denot) (View g.row.T-Frame.Denot g.row.T-Fixed.Denot)). m.0) c.merge.ensures.both)
    (c.merge.ensures.marks k within)))
