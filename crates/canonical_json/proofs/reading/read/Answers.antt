use Rattle.canonical_json.proofs.Trees.{value_in-no_utf8}
use Rattle.canonical_json.proofs.reading.read.Goals as goal

pub returns-in-Err-clause-err : goal.returns-in-Err-clause-err
returns-in-Err-clause-err c = value_in-no_utf8 c.args.bytes.now c.in-Err.ensures.cases.0
