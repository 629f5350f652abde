use Rattle.canonical_json.specs.View.{view}
use Rattle.transfer_core.proofs.StepLemmas.{start_body_is}
use Rattle.transfer_core.proofs.transfer.written.Goals as goal

pub returns : goal.returns
returns c =
    λ h links text document manifest texts.
    start_body_is h links text
    (record { document = view c.args.document; manifest = c.args.manifest; chain = c.args.chain }) c.write.result
    document manifest texts c.write.ensures
