use Rattle.envelope_manifest.specs.Body.{body_view}
use Rattle.record_bytes.proofs.FindLemmas.{isnt, not_found}
use Rattle.record_bytes.proofs.BegunLemmas.{no_begun_document, no_begun_written}
use Rattle.record_bytes.proofs.begun.begun_in.Goals as goal

pub returns-in_default : goal.returns-in_default
returns-in_default c =
    no_begun_document c.args.text.now (body_view c.args.body) c.requires.short c.requires.reads c.requires.form
    c.requires.nests (not_found _ c.in_ok-document.field-0 c.in_default.not-Some c.in_ok-document.ensures)

pub returns-then-not-branch : goal.returns-then-not-branch
returns-then-not-branch c =
    no_begun_written c.args.text.now (body_view c.args.body) c.requires.short c.requires.reads
    (isnt c.in_ok-is_written_form.field-0 _ c.if-not-branch.true c.in_ok-is_written_form.ensures.1)
