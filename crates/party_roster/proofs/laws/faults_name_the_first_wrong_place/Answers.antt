use Rattle.party_roster.proofs.PlaceLemmas.{carrier_place, party_place, platform_place}
use Rattle.party_roster.proofs.laws.faults_name_the_first_wrong_place.Goals as goal

pub returns-clause-platforms : goal.returns-clause-platforms
returns-clause-platforms c = platform_place

pub returns-clause-parties : goal.returns-clause-parties
returns-clause-parties c = party_place

pub returns-clause-carriers : goal.returns-clause-carriers
returns-clause-carriers c = carrier_place
