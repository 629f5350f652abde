use Rattle.json.proofs.Printed.Plain.{escape_on_plain}
use Rattle.canonical_json.proofs.plain.is_plain.Goals as goal

pub returns-then-text-lt32 : goal.returns-then-text-lt32
returns-then-text-lt32 c = escape_on_plain c.short_is_plain.result c.args.text.now c.short_is_plain.ensures

pub returns-else-text-lt32 : goal.returns-else-text-lt32
returns-else-text-lt32 c = escape_on_plain c.long_is_plain.result c.args.text.now c.long_is_plain.ensures
