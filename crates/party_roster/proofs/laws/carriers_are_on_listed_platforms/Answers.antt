use Rattle.party_roster.proofs.CarrierLemmas.{carrier_listed, party_on_listed}
use Rattle.party_roster.proofs.laws.carriers_are_on_listed_platforms.Goals as goal

pub returns-clause-carrier : goal.returns-clause-carrier
returns-clause-carrier c = carrier_listed

pub returns-clause-party : goal.returns-clause-party
returns-clause-party c = party_on_listed
