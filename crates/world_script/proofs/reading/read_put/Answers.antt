use Rattle.std.proofs.Common.{codes, sym, subst}
use Rattle.std.specs.Prelude.{IfSome}
use Rattle.base64.specs.GeneralPurpose.{IsBytes}
use Rattle.canonical_json.specs.View.{view}
use Rattle.canonical_json.specs.Field.{text_of}
use Rattle.json_forms.proofs.ReadForms.{IsChecksum-read}
use Rattle.world_script.proofs.reading.read_put.Goals as goal

pub returns-clause-form : goal.returns-clause-form
returns-clause-form c = (
  c.in-Some.ensures.form,
  IsChecksum-read (text_of (codes "checksum") (view c.args.json.now)) _ (sym c.in-Some-required_checksum.ensures),
  subst (λ o. IfSome o IsBytes) c.in-Some-2.is c.in_ok-bytes.ensures.form,
)
