use Rattle.std.proofs.Common.{◌∙◌}
use Rattle.platform_requests.specs.Request.{request_view}
use Rattle.platform_world.proofs.Machines.{ends_so, legal_same, listed_so, may_of, writable_so}
use Rattle.platform_world.proofs.journaled.JournaledShardMachine.take.Goals as goal

pub take-requires : goal.take-requires
take-requires g c =
    may_of c.args.self.now.written c.args.now (request_view c.args.request)
    (λ read. c.is_unread.ensures.nothing_loose (c.is_unread.ensures.unread ∙ read)) c.requires.read c.requires.asked

pub returns-clause-ends : goal.returns-clause-ends
returns-clause-ends g c =
    ends_so c.args.self.now.roster c.args.self.now.me (g.G.KeyRing.keys c.args.self.now.ring)
    (g.G.KeyRing.keys c.take.new.self.ring) c.args.self.now.written c.take.new.self.written c.args.now
    (request_view c.args.request) c.take.result c.take.ensures.keys (λ read. c.is_unread.ensures.nothing_loose (c.is_unread.ensures.unread ∙ read)) c.requires.read
    c.take.ensures.step c.take.ensures.refused c.take.ensures.read c.take.ensures.full c.take.ensures.disk
    c.take.ensures.short (λ place damaged. c.take.ensures.undamaged place c.requires.told damaged)

pub returns-clause-listed : goal.returns-clause-listed
returns-clause-listed g c =
    listed_so c.args.self.now.roster c.args.self.now.me (g.G.KeyRing.keys c.args.self.now.ring)
    (g.G.KeyRing.keys c.take.new.self.ring) c.args.self.now.written c.take.new.self.written c.args.now
    (request_view c.args.request) c.take.result c.take.ensures.keys (λ read. c.is_unread.ensures.nothing_loose (c.is_unread.ensures.unread ∙ read)) c.requires.read
    c.take.ensures.step c.take.ensures.refused
    (legal_same c.args.self.now.me c.take.new.self.me c.args.self.now.roster c.take.new.self.roster
    (g.G.KeyRing.keys c.args.self.now.ring) (g.G.KeyRing.keys c.take.new.self.ring) c.take.new.self.written.diary
    c.take.ensures.me c.take.ensures.roster c.take.ensures.keys c.take.ensures.legal.dropped)

pub returns-clause-writable : goal.returns-clause-writable
returns-clause-writable g c =
    writable_so c.args.self.now.roster c.args.self.now.me (g.G.KeyRing.keys c.args.self.now.ring)
    (g.G.KeyRing.keys c.take.new.self.ring) c.args.self.now.written c.take.new.self.written c.args.now
    (request_view c.args.request) c.take.result c.take.ensures.keys (λ read. c.is_unread.ensures.nothing_loose (c.is_unread.ensures.unread ∙ read)) c.requires.read
    c.take.ensures.step
    (c.legal_diary_is_sound.ensures c.args.self.now.roster (g.G.KeyRing.keys c.args.self.now.ring) c.args.self.now.me
    c.args.self.now.written.diary c.diary.ensures.legal)
