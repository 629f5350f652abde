use Rattle.std.proofs.Common.{◌∙◌}
use Rattle.std.proofs.lemmas.Result.{on_ok_weaker}
use Rattle.pint_responses.proofs.writing.push_verdict.Goals as goal

pub returns : goal.returns
returns c =
    let code = rw (c.as_str.ensures) at c.in_ok-push_text.ensures in
    let standing = rw (c.flag_json.ensures) at c.in_ok-push.ensures in
    on_ok_weaker c.push_optional_evidence-2.result (λ pushed rest. pushed rest
    ∙ standing _
    ∙ code _
    ∙ c.in_ok-push_optional_reason.ensures _
    ∙ c.in_ok-push_optional_evidence.ensures _) c.push_optional_evidence-2.ensures
