use Rattle.std.proofs.lemmas.Nat.{be_bytes_4}
use Rattle.record_bytes.specs.Fields.{four_bytes}
use Rattle.record_bytes.proofs.fields.number_of.Goals as goal

pub returns-clause-bytes : goal.returns-clause-bytes
unfolding four_bytes
returns-clause-bytes c =
    be_bytes_4 c.args.four.now c.from_be_bytes.result c.told-four c.fits-four c.from_be_bytes.ensures
