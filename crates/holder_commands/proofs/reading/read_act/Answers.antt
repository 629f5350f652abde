use Rattle.std.proofs.Common.{codes, sym}
use Rattle.canonical_json.specs.View.{view}
use Rattle.canonical_json.specs.Field.{member_of, text_of}
use Rattle.json_forms.proofs.ReadForms.{IsChecksum-read}
use Rattle.holder_commands.proofs.FormLemmas.{IsParty-read}
use Rattle.holder_commands.proofs.reading.read_act.Goals as goal

pub returns-clause-form : goal.returns-clause-form
returns-clause-form c other = (
  IsChecksum-read (text_of (codes "bill") (view c.args.json.now)) _ (sym c.in-Some.ensures),
  other,
  IsParty-read (member_of (codes "recipient") (view c.args.json.now)) _ (sym c.in-Ok.ensures),
)
