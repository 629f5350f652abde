use Rattle.std.proofs.Common.{◌≡◌, [], map, length, ap, subst, ◌∙◌, arith, All}
use Rattle.std.proofs.lemmas.List.{nil_from_length}
use Rattle.platform_office.specs.Opening.{rack_of}
use Rattle.platform_office.specs.Post.{IsAtPost}
use Rattle.platform_office.proofs.ClosingLemmas.{all_front, none_taken, one_taken}
use Rattle.platform_office.proofs.closing.close_all.Goals as goal

pub loop-shard-init : goal.loop-shard-init
loop-shard-init g c = record {
  taken = none_taken g.D.Disk.tells g.G.KeyRing.keys g.D.Disk.seen g.D.Disk.may_leave c.args.shards.items
      c.reverse.new.self.items c.args.racks.items c.args.diaries.items c.reverse.ensures.items c.requires.empty.0
      c.requires.empty.1;
  racks = omega (arith, c.reverse.ensures.len, ap length c.requires.empty.0, c.args.racks.ok.0);
  diaries = omega (arith, c.reverse.ensures.len, ap length c.requires.empty.1, c.args.diaries.ok.0);
  racks_room = c.requires.room.0;
  diaries_room = c.requires.room.1;
}

pub loop-shard-preserved : goal.loop-shard-preserved
loop-shard-preserved g c =
    let old = c.loop-shard.invariant in
    record {
      taken = one_taken g.D.Disk.tells g.G.KeyRing.keys g.D.Disk.seen g.D.Disk.may_leave c.args.shards.items
          c.loop-shard.shards.items c.pop.new.self.items c.loop-shard.racks.items c.push_reserved.new.self.items
          c.loop-shard.diaries.items c.push_reserved-in-Some.new.self.items c.in-Some.shard c.close-rack.result.0
          c.close-rack.result.1 old.taken c.in-Some.ensures.items c.push_reserved.ensures.items
          c.push_reserved-in-Some.ensures.items c.close-rack.ensures.rack c.close-rack.ensures.diary
          c.close-rack.ensures.post;
      racks = omega (arith, c.push_reserved.ensures.len, c.in-Some.ensures.len, old.racks);
      diaries = omega (arith, c.push_reserved-in-Some.ensures.len, c.in-Some.ensures.len, old.diaries);
      racks_room = omega (arith, c.push_reserved.ensures.capacity, old.racks_room);
      diaries_room = omega (arith, c.push_reserved-in-Some.ensures.capacity, old.diaries_room);
    }

pub returns-clause-racks : goal.returns-clause-racks
returns-clause-racks g c =
    let taken = c.loop-shard.invariant.taken in
    let none : c.loop-shard.shards.items ≡ [] =
    nil_from_length c.loop-shard.shards.items (grind (arith, c.in_default.ensures.cases, c.loop-shard.shards.ok)) in
    taken.racks_are ∙ ap (map rack_of) (all_front g.D.Disk.tells g.G.KeyRing.keys g.D.Disk.seen g.D.Disk.may_leave _ _ _ _
    taken none)

pub returns-clause-diaries : goal.returns-clause-diaries
returns-clause-diaries g c =
    let taken = c.loop-shard.invariant.taken in
    let none : c.loop-shard.shards.items ≡ [] =
    nil_from_length c.loop-shard.shards.items (grind (arith, c.in_default.ensures.cases, c.loop-shard.shards.ok)) in
    c.from_vec.ensures ∙ taken.diaries_are
    ∙ ap (map (λ s. s.shard.written.diary)) (all_front g.D.Disk.tells g.G.KeyRing.keys g.D.Disk.seen
    g.D.Disk.may_leave _ _ _ _ taken none)

pub returns-clause-posts : goal.returns-clause-posts
returns-clause-posts g c =
    let taken = c.loop-shard.invariant.taken in
    let none : c.loop-shard.shards.items ≡ [] =
    nil_from_length c.loop-shard.shards.items (grind (arith, c.in_default.ensures.cases, c.loop-shard.shards.ok)) in
    subst (All (IsAtPost g.D.Disk.tells g.G.KeyRing.keys g.D.Disk.seen g.D.Disk.may_leave)) (all_front g.D.Disk.tells
    g.G.KeyRing.keys g.D.Disk.seen g.D.Disk.may_leave _ _ _ _ taken none) taken.posts

pub returns-clause-counts : goal.returns-clause-counts
returns-clause-counts g c =
    let old = c.loop-shard.invariant in
    let none = c.in_default.ensures.cases in (
      omega (arith, none, old.racks),
      omega (arith, none, old.diaries, ap length c.from_vec.ensures, c.loop-shard.diaries.ok.0),
    )
