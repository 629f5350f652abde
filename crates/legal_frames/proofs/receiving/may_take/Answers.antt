use Rattle.std.proofs.Common.{refl}
use Rattle.bill_diary.specs.History.{history, newest_first}
use Rattle.legal_frames.proofs.ReceivingLemmas.{takes}
use Rattle.legal_frames.proofs.receiving.may_take.Goals as goal

pub returns : goal.returns
returns c =
    takes c.args.roster.now c.args.me (newest_first c.args.register.now.diary)
    (history c.args.bill c.args.register.now.diary) c.args.bill c.args.entry _
    c.in_ok-judgement.judgement c.is_accepted.result c.requires.records
    refl c.in-Some.ensures c.in_ok-judgement.ensures
    c.is_accepted.ensures
