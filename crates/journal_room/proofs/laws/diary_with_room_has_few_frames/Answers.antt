use Rattle.journal_room.proofs.RoomLemmas.{few_frames}
use Rattle.journal_room.proofs.laws.diary_with_room_has_few_frames.Goals as goal

pub returns : goal.returns
returns c = few_frames
