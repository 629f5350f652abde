use Rattle.bill_diary.proofs.HistoryLemmas.{each_may_follow}
use Rattle.bill_diary.proofs.laws.each_frame_of_a_sound_diary_may_follow.Goals as goal

pub returns : goal.returns
returns c = each_may_follow
