use Rattle.std.proofs.Common.{IsUtf8, codes, sym, subst}
use Rattle.canonical_json.specs.View.{view}
use Rattle.world_script.proofs.FormLemmas.{IsUtf8-text_of}
use Rattle.world_script.proofs.reading.read_start_reply.Goals as goal

pub returns-clause-form : goal.returns-clause-form
returns-clause-form c texts = (
  c.in-Some.ensures.form,
  subst IsUtf8 (sym c.in_ok-text.ensures)
      (IsUtf8-text_of (codes "text") (view c.args.json.now) _ texts (sym c.in-Some-text_of.ensures)),
)
