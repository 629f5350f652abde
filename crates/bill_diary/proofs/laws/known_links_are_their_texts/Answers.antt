use Rattle.bill_diary.proofs.TextLemmas.{chain_at_texts}
use Rattle.bill_diary.proofs.laws.known_links_are_their_texts.Goals as goal

pub returns : goal.returns
returns c = chain_at_texts
