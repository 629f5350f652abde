use Rattle.std.proofs.Common.{Err, ap}
use Rattle.bill_journal.proofs.FrameLemmas.{never_both, breaks_once}
use Rattle.bill_journal.proofs.journal.Journal.open.Goals as goal

pub returns-in-Ok-clause-nowhere_else : goal.returns-in-Ok-clause-nowhere_else
returns-in-Ok-clause-nowhere_else g c place other told some damaged = never_both _ _ place
    (c.in-Ok.ensures.stands told some) damaged

pub returns-in-Err-clause-damaged : goal.returns-in-Err-clause-damaged
returns-in-Err-clause-damaged g c place told is = c.in-Err.ensures.damaged place told (ap (λ e. Err e) is)

pub returns-in-Err-clause-nowhere_else : goal.returns-in-Err-clause-nowhere_else
returns-in-Err-clause-nowhere_else g c place other told some damaged is =
    let found = c.in-Err.ensures.damaged other told (ap (λ e. Err e) is) in
    breaks_once _ other place found.1 damaged
