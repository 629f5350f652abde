use Rattle.bill_locks.proofs.Numbered.{unnumbered_cost_faults}
use Rattle.bill_locks.proofs.laws.frames_without_a_number_cost_disk_faults.Goals as goal

pub returns : goal.returns
returns g c = unnumbered_cost_faults g.T.Grows.fixed g.T.Grows.list g.T.Grows.loose g.T.Grows.disk g.T.Grows.ring
