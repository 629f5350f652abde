use Rattle.bill_diary.proofs.HistoryLemmas.{history_of_sound}
use Rattle.bill_diary.proofs.laws.history_of_sound_diary_is_sound.Goals as goal

pub returns : goal.returns
returns c = history_of_sound
