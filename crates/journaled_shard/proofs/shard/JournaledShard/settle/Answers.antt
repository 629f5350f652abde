use Rattle.std.proofs.Common.{◌∙◌, sym}
use Rattle.journaled_shard.specs.View.{written_view}
use Rattle.journaled_shard.proofs.SettlingLemmas.{settled_legal, settled_read, settled_room}
use Rattle.journaled_shard.proofs.shard.JournaledShard.settle.Goals as goal

pub invariant_of-self : goal.invariant_of-self
invariant_of-self g c =
    let s = c.self.inside in
    let before = written_view s.written in
    let after = written_view c.settle.new.self in
    let order = c.self.invariant.1 in (
      c.self.invariant.0,
      record {
        legal = settled_legal s.roster (g.G.KeyRing.keys s.ring) s.me before after c.settle.result
            c.settle.ensures.found c.settle.ensures.read c.settle.ensures.still order.legal;
        room = settled_room before after c.settle.result c.settle.ensures.found c.settle.ensures.read
            c.settle.ensures.still order.room;
        named = c.settle.ensures.named order.named;
        read = settled_read before after c.settle.result c.settle.ensures.read c.settle.ensures.still;
        on_disk = λ tells.
            let tells_first = sym c.settle.ensures.told ∙ tells in
            c.settle.ensures.on_disk tells_first (order.on_disk tells_first);
      },
      c.settle.ensures.room,
    )
