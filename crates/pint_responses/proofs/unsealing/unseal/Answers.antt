use Rattle.std.proofs.lemmas.Result.{IfOk-weaker}
use Rattle.canonical_json.specs.View.{view}
use Rattle.pint_responses.proofs.ReadLemmas.{read_is_allowed}
use Rattle.pint_responses.proofs.unsealing.unseal.Goals as goal

pub returns-clause-form : goal.returns-clause-form
returns-clause-form g c =
    IfOk-weaker c.response_of.result _ _ (λ r. read_is_allowed (view c.in-Ok.payload) r c.in-Ok.ensures.texts)
    c.response_of.ensures.ok
