use Rattle.std.proofs.Common.{◌≡◌, ◌+◌, [], Err, List, length, reverse, ap, refl, rules, subst, sym, ◌∙◌, arith}
use Rattle.std.specs.Prelude.{IfErr, Some, slice_get}
use Rattle.std.proofs.lemmas.List.{length_push}
use Rattle.ebl_base.specs.declared.platform_code.PlatformCode.{PlatformCode}
use Rattle.journaled_shard.specs.Shard.{JournaledShardRecord}
use Rattle.party_roster.specs.RosterRecord.{RosterRecord}
use Rattle.platform_world.specs.declared.opening.WorldFault.TheVariants as world
use Rattle.platform_world.specs.Opening.{IsOpening, IsStopped, OpensLast}
use Rattle.platform_world.specs.Platforms.{codes_of}
use Rattle.platform_world.proofs.Racks.{blank_at_last, none_opened, one_opened, stopped_at, stopped_before}
use Rattle.platform_world.proofs.opening.open_shards.Goals as goal

pub returns-in_err-make_room-clause-err : goal.returns-in_err-make_room-clause-err
returns-in_err-make_room-clause-err g c =
    let roster = c.args.roster.now in
    let racks = c.args.racks.now.items in
    let is : c.from_residual.result ≡ Err world.NoMemory = search rules in
    subst (λ (r : _). IfErr r (λ fault. IsStopped g.D.Disk.tells g.D.Disk.faults roster c.args.needed (reverse racks)
    c.make_room.new.items.items (reverse racks) fault)) (sym is)
    (subst (λ (ss : List (JournaledShardRecord _ _)). IsStopped g.D.Disk.tells g.D.Disk.faults roster c.args.needed
    (reverse racks) ss (reverse racks) world.NoMemory) (sym (c.make_room.ensures.items ∙ c.requires.none))
    (stopped_before g.D.Disk.tells g.D.Disk.faults roster (codes_of roster.platforms) (reverse racks) c.args.needed []
    racks (none_opened g.D.Disk.tells g.D.Disk.faults roster (codes_of roster.platforms) (reverse racks) racks refl)
    (omega arith)))

pub loop-position-init : goal.loop-position-init
loop-position-init g c =
    let roster = c.args.roster.now in
    let racks = c.args.racks.now.items in
    record {
      opening = subst (λ (ss : List (JournaledShardRecord _ _)). IsOpening g.D.Disk.tells g.D.Disk.faults roster
          (codes_of roster.platforms) (reverse racks) ss (reverse racks))
          (sym (c.make_room.ensures.items ∙ c.requires.none))
          (none_opened g.D.Disk.tells g.D.Disk.faults roster (codes_of roster.platforms) (reverse racks) racks refl);
      count = ap length (c.make_room.ensures.items ∙ c.requires.none);
      len = omega arith;
      capacity = refl;
      room = omega (arith, c.in_ok-make_room.ensures.room);
    }

pub returns-in_err-by-clause-err : goal.returns-in_err-by-clause-err
returns-in_err-by-clause-err g c =
    let is : c.from_residual-in_err-by.result ≡ Err world.NoMemory = search rules in
    subst (λ (r : _). IfErr r (λ fault. IsStopped g.D.Disk.tells g.D.Disk.faults c.args.roster.now
    c.args.needed (reverse c.args.racks.now.items) c.loop-position.shards.items (reverse c.loop-position.racks.items) fault)) (sym is)
    (stopped_before g.D.Disk.tells g.D.Disk.faults c.args.roster.now (codes_of c.args.roster.now.platforms)
    (reverse c.args.racks.now.items) c.args.needed c.loop-position.shards.items c.loop-position.racks.items
    c.loop-position.invariant.opening (omega (arith, c.loop-position.invariant.count, c.loop-position-test.true)))

pub open_next-requires-clause-blank : goal.open_next-requires-clause-blank
open_next-requires-clause-blank g c =
    blank_at_last g.D.Disk.tells g.D.Disk.faults c.args.roster.now (codes_of c.args.roster.now.platforms)
    (reverse c.args.racks.now.items) g.D.Disk.seen c.args.needed c.loop-position.shards.items c.loop-position.racks.items
    c.loop-position.invariant.opening (omega (arith, c.loop-position.invariant.count, c.loop-position-test.true))
    c.requires.blank

pub returns-in-Err-clause-err : goal.returns-in-Err-clause-err
returns-in-Err-clause-err g c =
    stopped_at g.D.Disk.tells g.D.Disk.faults c.args.roster.now (codes_of c.args.roster.now.platforms)
    (reverse c.args.racks.now.items) c.args.needed c.loop-position.shards.items c.loop-position.racks.items
    c.open_next.new.racks.items c.in-Err.fault c.loop-position.position c.fault_at.result c.loop-position.invariant.opening
    c.in-Err.ensures.err c.loop-position.invariant.count c.loop-position-test.true c.fault_at.ensures

pub loop-position-preserved : goal.loop-position-preserved
loop-position-preserved g c =
    let roster = c.args.roster.now in
    let old = c.loop-position.invariant in
    let shards = c.loop-position.shards.items in
    let there : slice_get (codes_of roster.platforms) (length shards) ≡ Some c.platform_at-me.result =
    ap (slice_get (codes_of roster.platforms)) old.count
    ∙ ap (λ (ps : List PlatformCode). slice_get (codes_of ps) c.loop-position.position) (sym c.platforms.ensures)
    ∙ c.platform_at-me.ensures in
    record {
      opening = one_opened g.D.Disk.tells g.D.Disk.faults roster (codes_of roster.platforms)
          (reverse c.args.racks.now.items) shards c.push_reserved.new.self.items c.loop-position.racks.items
          c.open_next.new.racks.items c.platform_at-me.result c.in-Ok.shard old.opening there
          (subst (λ (r : RosterRecord). OpensLast g.D.Disk.tells g.D.Disk.faults r c.platform_at-me.result
          c.loop-position.racks.items c.in-Ok.shard c.open_next.new.racks.items) c.in_ok-by.ensures c.in-Ok.ensures.ok)
          c.push_reserved.ensures.items;
      count = ap length c.push_reserved.ensures.items ∙ length_push shards c.in-Ok.shard
          ∙ ap (λ (n : _). n + 1) old.count;
      len = omega (arith, c.in-Ok.ensures.ok_len, old.len);
      capacity = c.open_next.ensures.capacity ∙ old.capacity;
      room = omega (arith, c.push_reserved.ensures.capacity, old.room);
    }
