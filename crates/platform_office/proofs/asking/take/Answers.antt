use Rattle.std.proofs.Common.{sym, ◌∙◌}
use Rattle.platform_requests.specs.Request.{request_view}
use Rattle.platform_office.proofs.AskingLemmas.{TakeSays, grows_by_one, taken_order, taken_served}
use Rattle.platform_office.proofs.asking.take.Goals as goal

-- what the shard's take says
says : (g : _) (c : goal.After-take g)
    → TakeSays g.D.Disk.tells g.G.KeyRing.keys c.args.now (request_view c.args.request) c.take.result c.args.shard.now
    c.take.new.self
says g c = let e = c.take.ensures in record {
  step = e.step;
  refused = e.refused;
  full = e.full;
  disk = e.disk;
  damaged = e.damaged;
  short = e.short;
  read = e.read;
  undamaged = e.undamaged;
  legal = e.legal;
  me = e.me;
  roster = e.roster;
  keys_are = e.keys;
}

pub returns-clause-order : goal.returns-clause-order
returns-clause-order g c = λ i goes at.
    taken_order g.D.Disk.tells g.G.KeyRing.keys c.args.now (request_view c.args.request) c.take.result
    c.args.shard.now c.take.new.self c.requires.read.nothing_loose (says g c)
    c.steps_write_in_the_shard_of_their_request.ensures i goes g.D.Disk.seen g.D.Disk.may_leave at
    (λ told. c.take.ensures.on_disk (sym c.take.ensures.told ∙ told)) c.requires.few

pub returns-clause-served : goal.returns-clause-served
returns-clause-served g c = λ i goes at.
    taken_served g.D.Disk.tells g.G.KeyRing.keys c.args.now (request_view c.args.request) c.take.result
    c.args.shard.now c.take.new.self c.requires.read.nothing_loose (says g c)
    c.steps_write_in_the_shard_of_their_request.ensures i goes g.D.Disk.seen g.D.Disk.may_leave at

pub returns-clause-grows : goal.returns-clause-grows
returns-clause-grows g c =
    grows_by_one g.D.Disk.tells g.G.KeyRing.keys c.args.now (request_view c.args.request) c.take.result
    c.args.shard.now c.take.new.self c.requires.read.nothing_loose (says g c)
