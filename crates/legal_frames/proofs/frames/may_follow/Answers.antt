use Rattle.legal_frames.proofs.FrameLemmas.{frame_of_one, frame_of_taken}
use Rattle.legal_frames.proofs.frames.may_follow.Goals as goal

pub returns-in-One : goal.returns-in-One
returns-in-One g c =
    frame_of_one c.args.roster.now (g.G.KeyRing.keys c.args.ring.now) c.args.me c.args.register.now.diary c.args.frame.now
    c.in-One.kept c.record_may_follow.result c.in-One.is c.record_may_follow.ensures

pub returns-in-BegunTaken : goal.returns-in-BegunTaken
returns-in-BegunTaken g c =
    frame_of_taken c.args.roster.now (g.G.KeyRing.keys c.args.ring.now) c.args.me c.args.register.now.diary c.args.frame.now
    c.in-BegunTaken.kept c.taken_may_follow.result c.in-BegunTaken.is c.taken_may_follow.ensures
