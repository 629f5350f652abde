use Rattle.party_roster.proofs.FormLemmas.{roster_form}
use Rattle.party_roster.proofs.laws.read_rosters_are_well_formed.Goals as goal

pub returns : goal.returns
returns c = roster_form
