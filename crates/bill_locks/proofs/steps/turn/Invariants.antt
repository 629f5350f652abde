use Rattle.bill_locks.proofs.steps.turn.Given as goal

abbrev pub ghosts-give : goal.ghosts-give
ghosts-give g a = record { told = a.told }
