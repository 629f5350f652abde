use Rattle.journal_room.proofs.RoomLemmas.{settlement_fits}
use Rattle.journal_room.proofs.laws.settlement_always_fits.Goals as goal

pub returns : goal.returns
returns c = settlement_fits
