-- So many racks there are.
use Rattle.std.proofs.Common.{◌≡◌, vec_len}
use Rattle.office_bench.proofs.disks.racks_in.Given as goal

abbrev pub invariant-loop-number : goal.invariant-loop-number
invariant-loop-number l = vec_len l.racks ≡ l.number
