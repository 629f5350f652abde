use Rattle.std.proofs.lemmas.Nat.{be_bytes_4}
use Rattle.bill_journal.specs.Frames.{length_bytes}
use Rattle.bill_journal.proofs.reading.length_of.Goals as goal

pub returns-clause-bytes : goal.returns-clause-bytes
unfolding length_bytes
returns-clause-bytes c =
    be_bytes_4 c.args.four.now c.from_be_bytes.result c.told-four c.fits-four c.from_be_bytes.ensures
