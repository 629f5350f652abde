use Rattle.std.proofs.Common.{arith}
use Rattle.bill_locks.proofs.PassSteps.{halves}
use Rattle.bill_locks.proofs.steps.cut.Goals as goal

pub split_seat-requires : goal.split_seat-requires
split_seat-requires g c =
    let n = c.requires.sized in (
      c.requires.of,
      omega arith,
      halves g.T.Grows.fixed g.T.Grows.list g.T.Grows.loose g.T.Grows.disk g.T.Grows.ring _ _ _ c.requires.two
          c.requires.rests.idle.not_alone,
    )
