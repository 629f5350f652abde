use Rattle.std.proofs.Common.{◌≡◌, ◌∙◌, [], subst, arith}
use Rattle.std.proofs.lemmas.List.{nil_from_length}
use Rattle.party_roster.specs.RosterRecord.{RosterRecord}
use Rattle.platform_office.specs.Opening.{IsDamagedShard, IsOpened}
use Rattle.platform_office.proofs.OpeningLemmas.{all_opened, none_loose, none_opened, one_opened, rack_refused, racks_back}
use Rattle.platform_office.proofs.opening.open_all.Goals as goal

pub loop-rack-init : goal.loop-rack-init
loop-rack-init g c = record {
  opened = none_opened g.D.Disk.tells g.D.Disk.seen g.D.Disk.faults c.args.me c.args.roster.now c.args.racks.items
      c.reverse.new.self.items c.in-Ok.opened.items c.reverse.ensures.items c.in-Ok.ensures.items;
  len = omega (arith, c.reverse.ensures.len, c.in-Ok.ensures.len);
  room = omega (arith, c.in-Ok.ensures.capacity, c.len-count.ensures);
  rest = omega (arith, c.reverse.ensures.capacity, c.args.racks.ok.1);
}

pub loop-rack-preserved : goal.loop-rack-preserved
loop-rack-preserved g c =
    let old = c.loop-rack.invariant in
    record {
      opened = one_opened g.D.Disk.tells g.D.Disk.seen g.D.Disk.faults c.args.me c.args.roster.now c.args.racks.items
          c.loop-rack.rest.items c.pop.new.self.items c.loop-rack.opened.items c.push_reserved.new.self.items
          c.in-Some.rack c.in-Ok-open.shard c.len-number.result old.opened c.in-Some.ensures.items
          c.push_reserved.ensures.items (c.len-number.ensures ∙ c.loop-rack.opened.ok.0)
          (subst (λ (r : RosterRecord). IsOpened g.D.Disk.tells g.D.Disk.seen g.D.Disk.faults c.args.me r
          c.len-number.result c.in-Some.rack c.in-Ok-open.shard) c.in-Ok-copy.ensures c.in-Ok-open.ensures.opened);
      len = omega (arith, c.push_reserved.ensures.len, c.in-Some.ensures.len, old.len);
      room = omega (arith, c.push_reserved.ensures.capacity, old.room);
      rest = omega (arith, c.pop.ensures.capacity, old.rest);
    }

pub returns-in-Err-clause-back : goal.returns-in-Err-clause-back
returns-in-Err-clause-back g c = λ other.
    racks_back g.D.Disk.tells g.D.Disk.seen g.D.Disk.faults c.args.me c.args.roster.now c.args.racks.items
    c.loop-rack.rest.items c.pop.new.self.items c.back-in-Err.result.items c.loop-rack.opened.items c.in-Some.rack
    c.in-Err.rack c.loop-rack.invariant.opened c.in-Some.ensures.items c.back-in-Err.ensures c.in-Err.ensures.back

pub returns-in-Err-clause-refused : goal.returns-in-Err-clause-refused
returns-in-Err-clause-refused g c =
    rack_refused g.D.Disk.tells g.D.Disk.seen g.D.Disk.faults c.args.me c.args.roster.now g.G.KeyRing.keys
    c.args.racks.items c.loop-rack.rest.items c.pop.new.self.items c.back-in-Err.result.items c.loop-rack.opened.items
    c.in-Some.rack c.in-Err.rack c.len-number.result c.in-Err.fault c.refusal.result c.loop-rack.invariant.opened
    c.in-Some.ensures.items c.back-in-Err.ensures (c.len-number.ensures ∙ c.loop-rack.opened.ok.0) c.refusal.ensures
    c.in-Err.ensures.failed
    (λ place is told. subst (λ (r : RosterRecord). IsDamagedShard r (g.G.KeyRing.keys c.in-Some.rack.ring) c.args.me
    c.len-number.result (g.D.Disk.seen c.in-Some.rack.disk) place) c.in-Ok-copy.ensures
    (c.in-Err.ensures.damaged place is told))

pub returns-clause-opened : goal.returns-clause-opened
returns-clause-opened g c =
    let none : c.loop-rack.rest.items ≡ [] =
    nil_from_length c.loop-rack.rest.items (grind (arith, c.in_default-pop.ensures.cases, c.loop-rack.rest.ok)) in
    all_opened g.D.Disk.tells g.D.Disk.seen g.D.Disk.faults c.args.me c.args.roster.now c.args.racks.items
    c.loop-rack.rest.items c.loop-rack.opened.items c.loop-rack.invariant.opened none

pub returns-clause-firm : goal.returns-clause-firm
returns-clause-firm g c =
    none_loose g.D.Disk.tells g.D.Disk.seen g.D.Disk.faults c.args.me c.args.roster.now
    c.loop-rack.invariant.opened.front c.loop-rack.opened.items c.loop-rack.invariant.opened.beside

pub returns-clause-count : goal.returns-clause-count
returns-clause-count g c =
    omega (arith, c.in_default-pop.ensures.cases, c.loop-rack.invariant.len)
