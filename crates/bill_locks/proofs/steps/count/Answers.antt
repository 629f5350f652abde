use Rattle.std.proofs.Common.{arith, ◌∙◌, ◌<◌, sym, ap, subst}
use Rattle.std.specs.Prelude.{Option}
use Rattle.atomic_table.specs.Table.{Me}
use Rattle.bill_locks.specs.declared.view.View.{View}
use Rattle.bill_locks.proofs.PassSteps.{counts_at}
use Rattle.bill_locks.proofs.steps.count.Goals as goal

pub compare_exchange-found-requires : goal.compare_exchange-found-requires
compare_exchange-found-requires g c =
    let i = c.loop.invariant in
    let p = c.requires.place in
    let n = c.requires.sized in
    let idle = c.requires.rests.idle in (
      i.1 ∙ c.requires.of,
      omega arith,
      counts_at g.T.Grows.fixed g.T.Grows.list g.T.Grows.loose g.T.Grows.disk g.T.Grows.ring _ _ _ _ _ _ c.requires.place
          (subst (λ (m : Me (Option g.row.T.Denot) (View g.row.T-Frame.Denot g.row.T-Fixed.Denot)). 0 < m.0.stands) (sym i.0) idle.is_out)
          (ap (λ (m : Me (Option g.row.T.Denot) (View g.row.T-Frame.Denot g.row.T-Fixed.Denot)). m.0.alone) i.0 ∙ idle.not_alone),
    )
