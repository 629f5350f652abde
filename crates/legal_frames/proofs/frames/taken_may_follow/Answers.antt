use Rattle.std.proofs.Common.{sym, subst, IfOk, IsTrue, ◌↔◌}
use Rattle.bill_diary.specs.declared.record.Record.{Record}
use Rattle.bill_diary.specs.declared.frame.Frame.TheVariants.{BegunTaken}
use Rattle.transfer_judge.specs.Legal.{FollowsDiaryLegally}
use Rattle.legal_frames.proofs.frames.taken_may_follow.Goals as goal

pub returns-in-Begun : goal.returns-in-Begun
returns-in-Begun g c =
    subst (λ (r : Record). IfOk c.may_begin_taken.result (λ b. IsTrue b ↔ FollowsDiaryLegally c.args.roster.now
    (g.G.KeyRing.keys c.args.ring.now) c.args.me c.args.register.now.diary (BegunTaken r)))
    (sym c.in-Begun.is) c.may_begin_taken.ensures
