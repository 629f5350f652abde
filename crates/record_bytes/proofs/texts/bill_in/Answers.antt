use Rattle.std.proofs.Common.{sym, ◌∙◌}
use Rattle.canonical_json.specs.View.{view}
use Rattle.record_bytes.proofs.DocumentLemmas.{no_bill_deep}
use Rattle.record_bytes.proofs.texts.bill_in.Goals as goal

pub returns-else-nests_within : goal.returns-else-nests_within
returns-else-nests_within c =
    no_bill_deep c.args.text.now (view c.args.json.now) c.requires.reads
    (sym c.nests_within.ensures ∙ c.if-nests_within.false)
