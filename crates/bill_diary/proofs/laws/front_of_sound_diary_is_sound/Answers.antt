use Rattle.bill_diary.proofs.HistoryLemmas.{front_is_sound}
use Rattle.bill_diary.proofs.laws.front_of_sound_diary_is_sound.Goals as goal

pub returns : goal.returns
returns c = front_is_sound
