use Rattle.bill_diary.proofs.DiaryLaws.{acts_where_held}
use Rattle.bill_diary.proofs.laws.possessor_acts_where_held_and_not_ended.Goals as goal

pub returns : goal.returns
returns c = acts_where_held
