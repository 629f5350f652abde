use Rattle.bill_journal.proofs.FrameLemmas.{never_both}
use Rattle.bill_journal.proofs.laws.no_journal_is_damaged.Goals as goal

pub returns : goal.returns
returns c = never_both
