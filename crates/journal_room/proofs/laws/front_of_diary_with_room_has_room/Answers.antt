use Rattle.journal_room.proofs.RoomLemmas.{front_has_room}
use Rattle.journal_room.proofs.laws.front_of_diary_with_room_has_room.Goals as goal

pub returns : goal.returns
returns c = front_has_room
