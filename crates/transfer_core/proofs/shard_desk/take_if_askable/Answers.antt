use Rattle.platform_requests.specs.Request.{request_view}
use Rattle.transfer_core.proofs.DeskLemmas.{gives, names, not_taken, taken_more}
use Rattle.transfer_core.proofs.shard_desk.take_if_askable.Goals as goal

pub returns-then-is_askable-clause-messages : goal.returns-then-is_askable-clause-messages
returns-then-is_askable-clause-messages g c =
    let shard = c.args.shard.now in
    let keys = g.G.KeyRing.keys shard.ring in
    gives shard.roster keys shard.me shard.diary c.args.now (request_view c.args.request) c.take.result
    c.take.new.self.diary
    (c.legal_diary_is_sound.ensures shard.roster keys shard.me shard.diary c.is_askable.ensures.legal)
    c.take.ensures.step c.take.ensures.refused

pub returns-then-is_askable-clause-missing : goal.returns-then-is_askable-clause-missing
returns-then-is_askable-clause-missing g c =
    let shard = c.args.shard.now in
    let keys = g.G.KeyRing.keys shard.ring in
    names shard.roster keys shard.me shard.diary c.args.now (request_view c.args.request) c.take.result
    c.take.new.self.diary
    (c.legal_diary_is_sound.ensures shard.roster keys shard.me shard.diary c.is_askable.ensures.legal)
    c.take.ensures.step

pub returns-then-is_askable-clause-runs : goal.returns-then-is_askable-clause-runs
returns-then-is_askable-clause-runs g c = λ start calls are.
    taken_more g.G.KeyRing.keys g.G.KeyRing.faults start calls c.args.shard.now
    (record { now = c.args.now; request = request_view c.args.request; outcome = c.take.result }) c.take.new.self are
    (record {
      step = c.take.ensures.step;
      refused = c.take.ensures.refused;
      sign = c.take.ensures.sign;
      no_disk = c.take.ensures.no_disk;
      me = c.take.ensures.me;
      roster = c.take.ensures.roster;
      same = c.take.ensures.keys;
      later = c.take.ensures.later;
    })

pub returns-else-is_askable-clause-runs : goal.returns-else-is_askable-clause-runs
returns-else-is_askable-clause-runs g c = λ start calls are.
    taken_more g.G.KeyRing.keys g.G.KeyRing.faults start calls c.args.shard.now
    (record { now = c.args.now; request = request_view c.args.request; outcome = c.out_of_memory.result })
    c.args.shard.now are
    (not_taken g.G.KeyRing.keys g.G.KeyRing.faults c.args.shard.now c.args.now (request_view c.args.request)
    c.out_of_memory.result c.out_of_memory.ensures)
