use Rattle.journaled_diary.proofs.reading.next_frame.Goals as goal

pub may_follow-requires-clause-sound : goal.may_follow-requires-clause-sound
may_follow-requires-clause-sound g c =
    c.legal_diary_is_sound.ensures c.args.roster.now (g.G.KeyRing.keys c.args.ring.now) c.args.me c.args.register.now.diary
    c.requires
