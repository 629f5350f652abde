use Rattle.std.proofs.Common.{sym}
use Rattle.bill_diary.specs.History.{newest_first}
use Rattle.transfer_judge.proofs.LegalLemmas.{not_declined}
use Rattle.legal_frames.proofs.ReceivingLemmas.{declined_there}
use Rattle.legal_frames.proofs.receiving.is_declined.Goals as goal

pub returns-in-Some : goal.returns-in-Some
returns-in-Some c = sym (declined_there c.args.entry (newest_first c.args.register.now.diary) _ c.in-Some.ensures)

pub returns-in-None : goal.returns-in-None
returns-in-None c = sym (not_declined c.args.entry (newest_first c.args.register.now.diary) c.in-None.ensures)
