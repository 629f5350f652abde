use Rattle.std.proofs.Common.{◌∷◌}
use Rattle.record_bytes.proofs.SoundLemmas.{frame_has_spelling}
use Rattle.record_bytes.proofs.laws.frame_of_a_sound_diary_has_a_spelling.Goals as goal

pub returns : goal.returns
returns c me diary more frame sound names =
    frame_has_spelling me diary frame (c.front_of_sound_diary_is_sound.ensures me diary (frame ∷ more) sound)
    (c.each_frame_of_a_sound_diary_may_follow.ensures me diary more frame sound) names
