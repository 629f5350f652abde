use Rattle.std.proofs.Common.{sym}
use Rattle.bill_diary.specs.History.{history}
use Rattle.legal_frames.proofs.ReceivingLemmas.{none_lists}
use Rattle.legal_frames.proofs.receiving.is_listed.Goals as goal

pub returns-in-None : goal.returns-in-None
returns-in-None c =
    sym (none_lists c.args.entry c.args.name c.args.size (history c.args.bill c.args.register.now.diary)
    c.in-None.ensures)
