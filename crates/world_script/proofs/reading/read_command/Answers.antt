use Rattle.std.proofs.Common.{codes, sym}
use Rattle.canonical_json.specs.View.{view}
use Rattle.canonical_json.specs.Field.{text_of}
use Rattle.world_script.proofs.FormLemmas.{IsCode-read, IsParty-read}
use Rattle.world_script.proofs.reading.read_command.Goals as goal

pub returns-clause-form : goal.returns-clause-form
returns-clause-form c lawful texts = (
  IsCode-read (text_of (codes "at") (view c.args.json.now)) _ (sym c.in-Some.ensures),
  IsParty-read (text_of (codes "party") (view c.args.json.now)) _ (sym c.in-Some-required_party.ensures),
  c.in-Some-moment_at.ensures.form,
  c.in_ok-deed.ensures.form lawful texts,
)
