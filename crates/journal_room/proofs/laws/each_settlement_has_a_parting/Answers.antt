use Rattle.bill_diary.specs.History.{newest_first}
use Rattle.journal_room.proofs.SettlementLemmas.{settled_at_most, settled_fewer}
use Rattle.journal_room.proofs.laws.each_settlement_has_a_parting.Goals as goal

pub returns-clause-sound : goal.returns-clause-sound
returns-clause-sound c = λ me diary sound. settled_at_most me (newest_first diary) sound.records

pub returns-clause-parting : goal.returns-clause-parting
returns-clause-parting c = λ me diary bill entry sound is.
    settled_fewer me (newest_first diary) bill entry sound.records is
