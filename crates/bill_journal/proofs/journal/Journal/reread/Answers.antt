use Rattle.std.proofs.Common.{Err, ap}
use Rattle.bill_journal.proofs.FrameLemmas.{stands_once, never_both, breaks_once}
use Rattle.bill_journal.proofs.StageLemmas.{reads_either}
use Rattle.bill_journal.proofs.journal.Journal.reread.Goals as goal

pub returns-in-Ok-clause-kept : goal.returns-in-Ok-clause-kept
returns-in-Ok-clause-kept g c = rw (← c.self.view_is)
    (λ h told stands. stands_once _ _ h (c.in-Ok.ensures.stands told) stands)

pub returns-in-Ok-clause-either : goal.returns-in-Ok-clause-either
returns-in-Ok-clause-either g c = rw (← c.self.view_is)
    (λ h x told may. reads_either _ h _ x may.now (c.in-Ok.ensures.stands told))

pub returns-in-Ok-clause-nowhere_else : goal.returns-in-Ok-clause-nowhere_else
returns-in-Ok-clause-nowhere_else g c = rw (← c.self.view_is)
    (λ place other told damaged. never_both _ _ place (c.in-Ok.ensures.stands told) damaged)

pub returns-in-Err-clause-nowhere_else : goal.returns-in-Err-clause-nowhere_else
returns-in-Err-clause-nowhere_else g c = rw (← c.self.view_is)
    (λ place other told damaged is. breaks_once _ other place
    (c.in-Err.ensures.damaged other told (ap (λ e. Err e) is)) damaged)
