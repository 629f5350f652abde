use Rattle.std.proofs.Common.{arith}
use Rattle.std.proofs.lemmas.Result.{IfOk-weaker}
use Rattle.canonical_json.specs.View.{view}
use Rattle.envelope_manifest.specs.Body.{body_view}
use Rattle.envelope_manifest.proofs.DepthLemmas.{document_nests}
use Rattle.envelope_manifest.proofs.ReadBodies.{IsBody-read}
use Rattle.envelope_manifest.proofs.body.Body.read.Goals as goal

pub returns-in-Ok-clause-form : goal.returns-in-Ok-clause-form
returns-in-Ok-clause-form c =
    IsBody-read (view c.in-Ok.json) c.body_of.result c.in-Ok.ensures.lawful c.in-Ok.ensures.texts c.body_of.ensures.ok

pub returns-in-Ok-clause-nests : goal.returns-in-Ok-clause-nests
returns-in-Ok-clause-nests c =
    let whole = c.in-Ok.ensures.nests in
    IfOk-weaker c.body_of.result _ _ (λ body is.
    let below = document_nests (view c.in-Ok.json) (body_view body) is in omega (arith, below, whole)) c.body_of.ensures.ok
