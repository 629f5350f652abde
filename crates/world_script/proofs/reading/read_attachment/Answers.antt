use Rattle.std.proofs.Common.{IsUtf8, codes, sym, ap, ◌∙◌, subst}
use Rattle.std.specs.Prelude.{IfSome}
use Rattle.base64.specs.GeneralPurpose.{IsBytes}
use Rattle.canonical_json.specs.View.{view}
use Rattle.canonical_json.specs.Field.{text_of}
use Rattle.envelope_manifest.specs.Piece.{is_plain_text}
use Rattle.envelope_manifest.proofs.FormLemmas.{is_plain_text-read}
use Rattle.world_script.proofs.reading.read_attachment.Goals as goal

pub returns-clause-form : goal.returns-clause-form
returns-clause-form c = (
  c.in-Some.ensures.form,
  (
    ap (is_plain_text 128) c.in_ok-name.ensures
        ∙ is_plain_text-read 128 (text_of (codes "name") (view c.args.json.now)) _
        (sym c.in-Some-required_plain_text.ensures.text),
    subst IsUtf8 (sym c.in_ok-name.ensures) c.in-Some-required_plain_text.ensures.utf8,
  ),
  (
    ap (is_plain_text 64) c.in_ok-media.ensures
        ∙ is_plain_text-read 64 (text_of (codes "media") (view c.args.json.now)) _
        (sym c.in-Some-required_plain_text-2.ensures.text),
    subst IsUtf8 (sym c.in_ok-media.ensures) c.in-Some-required_plain_text-2.ensures.utf8,
  ),
  subst (λ o. IfSome o IsBytes) c.in-Some-2.is c.in_ok-bytes.ensures.form,
)
