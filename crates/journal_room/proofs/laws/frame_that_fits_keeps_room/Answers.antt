use Rattle.journal_room.proofs.RoomLemmas.{nothing_has_room, one_more_has_room}
use Rattle.journal_room.proofs.laws.frame_that_fits_keeps_room.Goals as goal

pub returns-clause-none : goal.returns-clause-none
returns-clause-none c = nothing_has_room

pub returns-clause-more : goal.returns-clause-more
returns-clause-more c = one_more_has_room
