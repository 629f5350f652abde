use Rattle.closed_family.proofs.Complete.{complete_is_closed, closed_is_complete}
use Rattle.closed_family.proofs.laws.closed_family_lacks_nothing.Goals as goal

pub returns : goal.returns
returns c = record { closed = complete_is_closed; complete = closed_is_complete }
