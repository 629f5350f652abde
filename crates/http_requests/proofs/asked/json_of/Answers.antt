use Rattle.http_requests.proofs.AskedLemmas.{any_read, IfOk-to}
use Rattle.http_requests.proofs.asked.json_of.Goals as goal

pub returns-clause-value : goal.returns-clause-value
returns-clause-value c = IfOk-to c.read_if_any.result (λ any read. any_read any c.args.body.now read) c.read_if_any.ensures.value
