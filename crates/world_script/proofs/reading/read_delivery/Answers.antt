use Rattle.std.proofs.Common.{codes, sym}
use Rattle.canonical_json.specs.View.{view}
use Rattle.world_script.proofs.FormLemmas.{IsCode-read, IsNumber-read}
use Rattle.canonical_json.specs.Field.{as_text}
use Rattle.world_script.proofs.reading.read_delivery.Goals as goal

pub returns-in-Some-platform_in-clause-form : goal.returns-in-Some-platform_in-clause-form
returns-in-Some-platform_in-clause-form c = (
  IsNumber-read (codes "deliver") (view c.args.json.now) _ (sym c.in-Some.ensures),
  IsCode-read (as_text (view c.in-Some-member_of.at.now)) _ (sym c.in-Some-platform_in.ensures),
)
