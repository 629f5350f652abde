use Rattle.pint_responses.specs.Writing.{response_value}
use Rattle.pint_responses.proofs.LawfulLemmas.{response_is_lawful}
use Rattle.pint_responses.proofs.TextLemmas.{response_has_texts, response_is_flat}
use Rattle.pint_responses.proofs.WrittenLemmas.{written_is_read}
use Rattle.pint_responses.proofs.laws.sealed_response_is_unsealed.Goals as goal

pub returns : goal.returns
returns c keys sealed who r s is fits code allowed = record {
  payload = response_value r;
  signed =
      c.composed_text_is_signed.ensures.signed keys 65536 sealed who (response_value r) s is fits code
      (response_is_lawful r) (response_has_texts r allowed.own allowed.theirs) (response_is_flat r);
  response = written_is_read r allowed;
}
