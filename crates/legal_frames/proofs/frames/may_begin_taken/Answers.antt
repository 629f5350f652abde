use Rattle.std.proofs.Common.{sym, ◌∙◌}
use Rattle.legal_frames.proofs.TestLemmas.{never}
use Rattle.legal_frames.proofs.FrameLemmas.{taken_accepted, taken_new, taken_so}
use Rattle.legal_frames.proofs.frames.may_begin_taken.Goals as goal

pub returns-in-Some : goal.returns-in-Some
returns-in-Some g c =
    let here = rw c.in-Some.is at c.in_ok-judged.ensures in (
      λ t. taken_so c.args.roster.now (g.G.KeyRing.keys c.args.ring.now) c.args.me c.args.register.now.diary c.args.begun.bill
          c.args.begun.chain.now c.args.begun.manifest.now c.args.begun.body.now here.0 (sym here.1 ∙
          c.is_accepted.ensures.0 t),
      λ x. c.is_accepted.ensures.1 (here.1 ∙ taken_accepted c.args.roster.now (g.G.KeyRing.keys c.args.ring.now)
          c.args.me c.args.register.now.diary c.args.begun.bill c.args.begun.chain.now c.args.begun.manifest.now c.args.begun.body.now
          x),
    )

pub returns-in-None : goal.returns-in-None
returns-in-None g c =
    let none = rw c.in-None.is at c.in_ok-judged.ensures in
    never (λ x. none (taken_new c.args.roster.now (g.G.KeyRing.keys c.args.ring.now) c.args.me c.args.register.now.diary
    c.args.begun.bill c.args.begun.chain.now c.args.begun.manifest.now c.args.begun.body.now x))
