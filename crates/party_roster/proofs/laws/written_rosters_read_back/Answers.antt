use Rattle.party_roster.proofs.WritingLemmas.{roster-reads_back}
use Rattle.party_roster.proofs.laws.written_rosters_read_back.Goals as goal

pub returns : goal.returns
returns c = roster-reads_back
