use Rattle.std.proofs.Common.{rules}
use Rattle.bill_journal.specs.Frames.{length_bytes}
use Rattle.bill_journal.proofs.framed.bytes_of_length.Goals as goal

pub returns : goal.returns
unfolding length_bytes
returns c = search rules
