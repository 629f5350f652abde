use Rattle.bill_diary.proofs.DiaryLaws.{known_grows}
use Rattle.bill_diary.proofs.laws.known_chain_only_grows.Goals as goal

pub returns : goal.returns
returns c = known_grows
