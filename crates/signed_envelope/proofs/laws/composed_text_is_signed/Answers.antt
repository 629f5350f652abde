use Rattle.signed_envelope.proofs.Composed.{composed_is_signed, header_is_canonical}
use Rattle.signed_envelope.proofs.laws.composed_text_is_signed.Goals as goal

pub returns-clause-header : goal.returns-clause-header
returns-clause-header c = header_is_canonical

pub returns-clause-signed : goal.returns-clause-signed
returns-clause-signed c = composed_is_signed
