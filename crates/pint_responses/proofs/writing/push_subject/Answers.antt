use Rattle.std.proofs.Common.{◌∙◌}
use Rattle.std.proofs.lemmas.Result.{on_ok_weaker}
use Rattle.pint_responses.proofs.writing.push_subject.Goals as goal

pub returns-clause-digits : goal.returns-clause-digits
returns-clause-digits c =
    let missing = rw (c.as_slice.ensures) at c.push_checksums.ensures.digits in
    on_ok_weaker c.push_checksums.result (λ digits. record {
      bill = c.in_ok-push_optional_checksum.ensures.digits;
      last = c.in_ok-push_optional_checksum-2.ensures.digits;
      missing = digits;
    }) missing

pub returns-clause-members : goal.returns-clause-members
returns-clause-members c =
    let missing = rw (c.as_slice.ensures) at c.push_checksums.ensures.members in
    on_ok_weaker c.push_checksums.result (λ pushed rest. pushed rest
    ∙ c.in_ok-push_optional_checksum-2.ensures.members _
    ∙ c.in_ok-push_optional_place.ensures _
    ∙ c.in_ok-push_optional_checksum.ensures.members _) missing
