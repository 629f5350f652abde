-- The number so far; one past 2^64 - 1 stays that.
use Rattle.std.proofs.Common.{◌≡◌, min, take}
use Rattle.ebl_run.specs.Command.{value_of}
use Rattle.ebl_run.proofs.command.value_of.Given as goal

abbrev pub invariant-loop-digit : goal.invariant-loop-digit
invariant-loop-digit l = l.number ≡ min (value_of (take l.digit-index l.digits)) 18446744073709551615
