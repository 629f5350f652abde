use Rattle.bill_diary.proofs.DiaryLaws.{place_is_what_stands}
use Rattle.bill_diary.proofs.laws.place_is_what_stands.Goals as goal

pub returns : goal.returns
returns c = place_is_what_stands
