use Rattle.std.proofs.Common.{◌∙◌}
use Rattle.envelope_manifest.specs.Body.{body_view}
use Rattle.transport_document.proofs.DocumentLemmas.{text-document_of}
use Rattle.transfer_core.proofs.starting.body_text.Goals as goal

pub write_around-requires : goal.write_around-requires
write_around-requires c =
    c.as_slice.ensures ∙ c.text.ensures
    ∙ text-document_of (body_view c.args.shown.now.body).document c.args.shown.now.document c.requires
