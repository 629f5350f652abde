use Rattle.pint_client.proofs.ExchangeLemmas.{reply-more}
use Rattle.pint_client.proofs.laws.reply_stays_when_more_bytes_come.Goals as goal

pub returns : goal.returns
returns c = reply-more
