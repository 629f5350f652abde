use Rattle.bill_diary.specs.History.{newest_first}
use Rattle.legal_frames.proofs.TestLemmas.{never}
use Rattle.legal_frames.proofs.FrameLemmas.{new_of, receivable}
use Rattle.legal_frames.proofs.frames.may_begin.Goals as goal

pub returns-in-Some : goal.returns-in-Some
returns-in-Some g c =
    let here = rw c.in-Some.is at c.in_ok-judged.ensures in
    receivable c.args.roster.now (g.G.KeyRing.keys c.args.ring.now) c.args.me (newest_first c.args.register.now.diary)
    c.args.begun.bill c.args.begun.chain.now c.args.begun.manifest.now c.args.begun.body.now c.in-Some.judgement
    c.is_receivable.result here.0 here.1
    c.is_receivable.ensures

pub returns-in-None : goal.returns-in-None
returns-in-None g c =
    let none = rw c.in-None.is at c.in_ok-judged.ensures in
    never (λ x. none (new_of c.args.roster.now (g.G.KeyRing.keys c.args.ring.now) c.args.me (newest_first c.args.register.now.diary)
    c.args.begun.bill c.args.begun.chain.now c.args.begun.manifest.now c.args.begun.body.now x))
