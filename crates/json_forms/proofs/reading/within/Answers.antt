use Rattle.std.proofs.Common.{true, false}
use Rattle.json_forms.proofs.ReadingLemmas.{within-test}
use Rattle.json_forms.proofs.reading.within.Goals as goal

pub returns-then-is_within : goal.returns-then-is_within
returns-then-is_within c =
    within-test c.as_slice-items.result.now _ c.args.least c.args.most true c.as_slice-items.ensures.view
    c.if-is_within.ensures

pub returns-else-is_within : goal.returns-else-is_within
returns-else-is_within c =
    within-test c.as_slice-items.result.now _ c.args.least c.args.most false c.as_slice-items.ensures.view
    c.if-is_within.ensures
