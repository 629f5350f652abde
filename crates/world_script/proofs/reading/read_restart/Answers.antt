use Rattle.std.proofs.Common.{codes, sym}
use Rattle.canonical_json.specs.View.{view}
use Rattle.canonical_json.specs.Field.{text_of}
use Rattle.world_script.proofs.FormLemmas.{IsCode-read}
use Rattle.world_script.proofs.reading.read_restart.Goals as goal

pub returns-in-Some-clause-form : goal.returns-in-Some-clause-form
returns-in-Some-clause-form c =
    IsCode-read (text_of (codes "restart") (view c.args.json.now)) _ (sym c.in-Some.ensures)
