use Rattle.std.proofs.Common.{sym}
use Rattle.canonical_json.proofs.Numbers.{too_deep}
use Rattle.canonical_json.proofs.number.is_decimal.Goals as goal

pub returns-then-scale-gt20-clause-value : goal.returns-then-scale-gt20-clause-value
returns-then-scale-gt20-clause-value c = sym (too_deep c.args.size c.args.scale c.if-scale-gt20.true)
