use Rattle.closed_family.proofs.lacking.first_needed_by.Goals as goal

pub returns-in-Settled : goal.returns-in-Settled
returns-in-Settled c = rw c.in-Settled.is c.first_unanswered.ensures

pub returns-in-Regained : goal.returns-in-Regained
returns-in-Regained c = rw c.in-Regained.is c.first_unanswered-in-Regained.ensures
