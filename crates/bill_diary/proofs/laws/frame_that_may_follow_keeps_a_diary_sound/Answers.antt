use Rattle.bill_diary.proofs.HistoryLemmas.{one_more_is_sound}
use Rattle.bill_diary.proofs.laws.frame_that_may_follow_keeps_a_diary_sound.Goals as goal

pub returns : goal.returns
returns c = one_more_is_sound
