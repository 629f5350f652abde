use Rattle.std.proofs.Common.{◌∙◌, arith}
use Rattle.platform_office.proofs.OpeningLemmas.{rack_more}
use Rattle.platform_office.proofs.opening.racks_of.Goals as goal

pub loop-shard-preserved : goal.loop-shard-preserved
loop-shard-preserved g c =
    let old = c.loop-shard.invariant in
    record {
      racks = rack_more c.loop-shard.shards.items c.pop.new.self.items c.in-Some.shard c.loop-shard.racks.items
          c.push_reserved.new.self.items c.into_rack.result c.in-Some.ensures.items c.push_reserved.ensures.items
          c.into_rack.ensures ∙ old.racks;
      room = omega (
        arith,
        c.push_reserved.ensures.len,
        c.push_reserved.ensures.capacity,
        c.in-Some.ensures.len,
        old.room,
      );
    }
