use Rattle.signed_envelope.proofs.Readings.{refused_or_signed}
use Rattle.signed_envelope.proofs.laws.refused_text_is_not_signed.Goals as goal

pub returns : goal.returns
returns c = refused_or_signed
