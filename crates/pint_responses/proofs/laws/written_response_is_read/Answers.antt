use Rattle.std.proofs.Common.{◌≡◌, Ok, subst}
use Rattle.pint_responses.specs.Reading.{response_of}
use Rattle.pint_responses.specs.Writing.{response_value}
use Rattle.pint_responses.proofs.LawfulLemmas.{response_is_lawful}
use Rattle.pint_responses.proofs.ReadLemmas.{read_is_allowed}
use Rattle.pint_responses.proofs.SealedLemmas.{one_response}
use Rattle.pint_responses.proofs.WrittenLemmas.{written_is_read}
use Rattle.pint_responses.proofs.laws.written_response_is_read.Goals as goal

pub returns-clause-read : goal.returns-clause-read
returns-clause-read c = written_is_read

pub returns-clause-allowed : goal.returns-clause-allowed
returns-clause-allowed c = read_is_allowed

pub returns-clause-one : goal.returns-clause-one
returns-clause-one c r t first second same =
    let values = c.equal_texts_have_equal_values.ensures (response_value r) (response_value t) (response_is_lawful r)
    (response_is_lawful t) same in
    one_response (response_value t) r t (subst (λ v. response_of v ≡ Ok r) values (written_is_read r first))
    (written_is_read t second)
