use Rattle.bill_diary.proofs.DiaryLaws.{others_change_nothing}
use Rattle.bill_diary.proofs.laws.frames_of_other_bills_change_nothing.Goals as goal

pub returns : goal.returns
returns c = others_change_nothing
