use Rattle.std.proofs.Common.{codes, sym}
use Rattle.canonical_json.specs.View.{view}
use Rattle.canonical_json.specs.Field.{text_of}
use Rattle.world_script.proofs.FormLemmas.{IsCode-read}
use Rattle.world_script.proofs.reading.read_foreign.Goals as goal

pub returns-clause-form : goal.returns-clause-form
returns-clause-form c texts = (
  IsCode-read (text_of (codes "at") (view c.args.json.now)) _ (sym c.in-Some.ensures),
  c.in_ok-bytes.ensures.form texts,
)
