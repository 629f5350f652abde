use Rattle.std.proofs.Common.{IsUtf8, codes, sym, ap, ◌∙◌, subst}
use Rattle.canonical_json.specs.View.{view}
use Rattle.canonical_json.specs.Field.{text_of, int_of}
use Rattle.envelope_manifest.specs.Piece.{is_plain_text}
use Rattle.json_forms.proofs.ReadForms.{IsChecksum-read, most-read}
use Rattle.envelope_manifest.proofs.FormLemmas.{is_plain_text-read}
use Rattle.envelope_manifest.proofs.reading.decode_piece.Goals as goal

pub returns-clause-form : goal.returns-clause-form
returns-clause-form c = record {
  name = ap (is_plain_text 128) c.in_ok-name.ensures
      ∙ is_plain_text-read 128 (text_of (codes "name") (view c.args.json.now)) _ (sym c.in-Some.ensures.text);
  name_utf8 = subst IsUtf8 (sym c.in_ok-name.ensures) c.in-Some.ensures.utf8;
  media = ap (is_plain_text 64) c.in_ok-media.ensures
      ∙ is_plain_text-read 64 (text_of (codes "media") (view c.args.json.now)) _
      (sym c.in-Some-required_plain_text.ensures.text);
  media_utf8 = subst IsUtf8 (sym c.in_ok-media.ensures) c.in-Some-required_plain_text.ensures.utf8;
  size = most-read 0 2097152 (int_of (codes "size") (view c.args.json.now)) _ (sym c.in-Some-required_number.ensures);
  checksum = IsChecksum-read (text_of (codes "checksum") (view c.args.json.now)) _
      (sym c.in-Some-required_checksum.ensures);
}
