-- There are as many disks so far as the number says.
use Rattle.std.proofs.Common.{◌≡◌, vec_len}
use Rattle.shard_tests.proofs.tests.offices.asking.racks.Given as goal

abbrev pub invariant-loop-number : goal.invariant-loop-number
invariant-loop-number l = vec_len l.racks ≡ l.number
