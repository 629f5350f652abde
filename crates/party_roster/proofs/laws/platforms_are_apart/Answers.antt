use Rattle.party_roster.proofs.laws.platforms_are_apart.Goals as goal

pub returns : goal.returns
returns c roster is = is.platforms.apart
