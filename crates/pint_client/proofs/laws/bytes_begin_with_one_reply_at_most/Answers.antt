use Rattle.pint_client.proofs.LawLemmas.{one_reply}
use Rattle.pint_client.proofs.laws.bytes_begin_with_one_reply_at_most.Goals as goal

pub returns : goal.returns
returns c = one_reply
