use Rattle.std.proofs.Common.{arith}
use Rattle.signed_envelope.proofs.LengthLemmas.{length-code_text, length-composed}
use Rattle.signed_envelope.proofs.laws.composed_texts_are_short.Goals as goal

pub returns-clause-length : goal.returns-clause-length
returns-clause-length c keys text who value signature is code =
    length-composed keys text who value signature is (length-code_text who code)

pub returns-clause-within : goal.returns-clause-within
returns-clause-within c keys text who value signature is code short =
    let long = length-composed keys text who value signature is (length-code_text who code) in
    omega (arith, long, short)
