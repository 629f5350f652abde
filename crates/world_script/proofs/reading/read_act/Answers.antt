use Rattle.std.proofs.Common.{codes, sym}
use Rattle.canonical_json.specs.View.{view}
use Rattle.canonical_json.specs.Field.{member_of}
use Rattle.world_script.proofs.FormLemmas.{IsRecipient-read}
use Rattle.world_script.proofs.reading.read_act.Goals as goal

pub returns-clause-form : goal.returns-clause-form
returns-clause-form c other = (
  c.in-Some.ensures.form,
  other,
  IsRecipient-read (member_of (codes "recipient") (view c.args.json.now)) _ (sym c.in-Ok.ensures),
)
