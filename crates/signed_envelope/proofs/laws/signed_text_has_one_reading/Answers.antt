use Rattle.signed_envelope.proofs.Readings.{same_parts, same_signed}
use Rattle.signed_envelope.proofs.laws.signed_text_has_one_reading.Goals as goal

pub returns-clause-parts : goal.returns-clause-parts
returns-clause-parts c = same_parts

pub returns-clause-signed : goal.returns-clause-signed
returns-clause-signed c = same_signed
