use Rattle.std.proofs.Common.{arith, ◌∙◌, sym, subst}
use Rattle.std.specs.Prelude.{Option}
use Rattle.atomic_table.specs.Table.{Me}
use Rattle.bill_locks.specs.declared.view.View.{View}
use Rattle.bill_locks.specs.View.{mark_at}
use Rattle.bill_locks.specs.Steps.{IsJoined}
use Rattle.bill_locks.proofs.PassSteps.{both, fits_at}
use Rattle.bill_locks.proofs.steps.merge.Goals as goal

pub join_seat-requires : goal.join_seat-requires
join_seat-requires g c =
    let n = c.requires.sized in
    let mine = c.requires.rests.idle in
    let theirs = c.requires.other.idle in (
      c.requires.of.0,
      c.requires.of.1,
      c.requires.other.hand,
      omega arith,
      both g.T.Grows.fixed g.T.Grows.list g.T.Grows.loose g.T.Grows.disk g.T.Grows.ring _ _ _ _ _ mine.no_turn theirs.no_turn
          mine.is_out,
    )

pub load-requires : goal.load-requires
load-requires g c =
    let p = c.requires.place in
    let n = c.requires.sized in (
      c.join_seat.ensures.0 ∙ c.requires.of.0,
      omega arith,
      fits_at g.T.Grows.fixed g.T.Grows.list g.T.Grows.loose g.T.Grows.disk g.T.Grows.ring _ _ _ _ _ c.requires.place,
    )

pub returns-clause-marks : goal.returns-clause-marks
returns-clause-marks g c k lt = let f = c.load.ensures.2 in
    subst (λ (m : Me (Option g.row.T.Denot) (View g.row.T-Frame.Denot g.row.T-Fixed.Denot)). IsJoined (mark_at k m.0)) (sym f.same)
    (f.marks k lt)
