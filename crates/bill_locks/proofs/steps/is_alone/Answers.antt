use Rattle.std.proofs.Common.{arith}
use Rattle.bill_locks.proofs.PassSteps.{settles_at}
use Rattle.bill_locks.proofs.steps.is_alone.Goals as goal

pub load-requires : goal.load-requires
load-requires g c =
    let p = c.requires.place in
    let n = c.requires.sized in
    let idle = c.requires.rests.idle in (
      c.requires.of,
      omega arith,
      settles_at g.T.Grows.fixed g.T.Grows.list g.T.Grows.loose g.T.Grows.disk g.T.Grows.ring _ _ _ _ _ c.requires.place idle.is_out
          idle.not_alone,
    )
