use Rattle.std.proofs.Common.{codes, sym}
use Rattle.canonical_json.specs.View.{view}
use Rattle.canonical_json.specs.Field.{text_of}
use Rattle.json_forms.proofs.ReadForms.{IsChecksum-read}
use Rattle.envelope_manifest.proofs.reading.decode.Goals as goal

pub returns-clause-form : goal.returns-clause-form
returns-clause-form c = record {
  bill = IsChecksum-read (text_of (codes "bill") (view c.args.json.now)) _ (sym c.in-Some.ensures);
  last = IsChecksum-read (text_of (codes "last") (view c.args.json.now)) _ (sym c.in-Some-required_checksum.ensures);
  documents = c.in_ok-documents.ensures.form;
}
