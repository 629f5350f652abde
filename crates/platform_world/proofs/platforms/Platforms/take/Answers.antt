use Rattle.std.proofs.Common.{◌≡◌, ◌<◌, refl, subst, sym, arith, length}
use Rattle.std.specs.Prelude.{Some, slice_get}
use Rattle.std.proofs.lemmas.Option.{slice_get_read}
use Rattle.party_roster.specs.RosterRecord.{RosterRecord}
use Rattle.platform_requests.specs.Request.{request_view}
use Rattle.platform_world.specs.Machine.{AreForListed, disk_times, ring_times, shard_state}
use Rattle.platform_world.specs.Platforms.{PlatformsRecord}
use Rattle.platform_world.proofs.Shards.{asked_in, kept_in, rose_in, roster_in, taken_in, told_set, told_there}
use Rattle.platform_world.proofs.platforms.Platforms.take.Goals as goal

pub index_mut-machine-requires : goal.index_mut-machine-requires
index_mut-machine-requires g c =
    let k = c.index_of-index.result in
    let inside : k < length c.self.inside.shards.items =
    subst (λ (x : PlatformsRecord _ _). k < length x.shards) (sym c.self.view_is) c.index_of-index.ensures.within in
    grind (arith, inside, c.self.inside.shards.ok)

pub take_at-requires-clause-told : goal.take_at-requires-clause-told
take_at-requires-clause-told g c =
    let v = c.args.self.now in
    let s : PlatformsRecord _ _ = (record {
      roster = c.self.inside.roster;
      shards = c.self.inside.shards.items;
      spare = c.self.inside.spare.items;
    }) in
    let k = c.index_of-index.result in
    let inside : k < length s.shards =
    subst (λ (x : PlatformsRecord _ _). k < length x.shards) (sym c.self.view_is) c.index_of-index.ensures.within in
    let m = c.index_mut-machine.result.now in
    let there : slice_get s.shards k ≡ Some m =
    slice_get_read s.shards (length s.shards) k m refl inside c.index_mut-machine.ensures.value in
    told_there g.M.Machine.tells s.shards k m c.self.invariant.1 there

pub take_at-requires-clause-asked : goal.take_at-requires-clause-asked
take_at-requires-clause-asked g c =
    let v = c.args.self.now in
    let s : PlatformsRecord _ _ = (record {
      roster = c.self.inside.roster;
      shards = c.self.inside.shards.items;
      spare = c.self.inside.spare.items;
    }) in
    let k = c.index_of-index.result in
    let inside : k < length s.shards =
    subst (λ (x : PlatformsRecord _ _). k < length x.shards) (sym c.self.view_is) c.index_of-index.ensures.within in
    let m = c.index_mut-machine.result.now in
    let there : slice_get s.shards k ≡ Some m =
    slice_get_read s.shards (length s.shards) k m refl inside c.index_mut-machine.ensures.value in
    λ kept found resolved. c.requires.asked (shard_state (g.M.Machine.seen m)) found kept
    (asked_in g.M.Machine.seen s v c.self.view_is c.args.at c.args.shard k m c.self.invariant.0 c.requires.listed
    c.requires.shard c.index_of-index.ensures.index there) resolved

pub invariant_of-self : goal.invariant_of-self
invariant_of-self g c =
    let v = c.args.self.now in
    let s : PlatformsRecord _ _ = (record {
      roster = c.self.inside.roster;
      shards = c.self.inside.shards.items;
      spare = c.self.inside.spare.items;
    }) in
    let k = c.index_of-index.result in
    let inside : k < length s.shards =
    subst (λ (x : PlatformsRecord _ _). k < length x.shards) (sym c.self.view_is) c.index_of-index.ensures.within in
    let m = c.index_mut-machine.result.now in
    let there : slice_get s.shards k ≡ Some m =
    slice_get_read s.shards (length s.shards) k m refl inside c.index_mut-machine.ensures.value in (
      kept_in g.M.Machine.seen s v c.self.view_is c.args.at c.args.shard k m c.self.invariant.0 c.requires.listed
          c.requires.shard c.index_of-index.ensures.index there c.take_at.new.machine c.take_at.ensures.same,
      told_set g.M.Machine.tells s.shards k c.take_at.new.machine c.self.invariant.1 c.take_at.ensures.told,
      c.self.invariant.2,
    )

pub returns-clause-taken : goal.returns-clause-taken
returns-clause-taken g c =
    let v = c.args.self.now in
    let s : PlatformsRecord _ _ = (record {
      roster = c.self.inside.roster;
      shards = c.self.inside.shards.items;
      spare = c.self.inside.spare.items;
    }) in
    let k = c.index_of-index.result in
    let inside : k < length s.shards =
    subst (λ (x : PlatformsRecord _ _). k < length x.shards) (sym c.self.view_is) c.index_of-index.ensures.within in
    let m = c.index_mut-machine.result.now in
    let there : slice_get s.shards k ≡ Some m =
    slice_get_read s.shards (length s.shards) k m refl inside c.index_mut-machine.ensures.value in
    taken_in g.M.Machine.seen s v c.self.view_is c.args.at c.args.shard k m c.self.invariant.0 c.requires.listed
    c.requires.shard c.index_of-index.ensures.index there c.take_at.new.machine c.self.inside.spare.items c.args.now
    (request_view c.args.request) c.take_at.result.fate c.take_at.result.outcome c.take_at.ensures.taken

pub returns-clause-listed : goal.returns-clause-listed
returns-clause-listed g c =
    let v = c.args.self.now in
    let s : PlatformsRecord _ _ = (record {
      roster = c.self.inside.roster;
      shards = c.self.inside.shards.items;
      spare = c.self.inside.spare.items;
    }) in
    let k = c.index_of-index.result in
    let inside : k < length s.shards =
    subst (λ (x : PlatformsRecord _ _). k < length x.shards) (sym c.self.view_is) c.index_of-index.ensures.within in
    let m = c.index_mut-machine.result.now in
    let there : slice_get s.shards k ≡ Some m =
    slice_get_read s.shards (length s.shards) k m refl inside c.index_mut-machine.ensures.value in
    subst (λ (r : RosterRecord). AreForListed r c.take_at.result.outcome.messages)
    (roster_in g.M.Machine.seen s v c.self.view_is c.args.at c.args.shard k m c.self.invariant.0 c.requires.listed
    c.requires.shard c.index_of-index.ensures.index there) c.take_at.ensures.listed

pub returns-clause-disks : goal.returns-clause-disks
returns-clause-disks g c =
    let v = c.args.self.now in
    let s : PlatformsRecord _ _ = (record {
      roster = c.self.inside.roster;
      shards = c.self.inside.shards.items;
      spare = c.self.inside.spare.items;
    }) in
    let k = c.index_of-index.result in
    let inside : k < length s.shards =
    subst (λ (x : PlatformsRecord _ _). k < length x.shards) (sym c.self.view_is) c.index_of-index.ensures.within in
    let m = c.index_mut-machine.result.now in
    let there : slice_get s.shards k ≡ Some m =
    slice_get_read s.shards (length s.shards) k m refl inside c.index_mut-machine.ensures.value in
    rose_in g.M.Machine.seen s v c.self.view_is c.args.at c.args.shard k m c.self.invariant.0 c.requires.listed
    c.requires.shard c.index_of-index.ensures.index there g.M.Machine.faults.disk c.take_at.new.machine
    (disk_times c.take_at.result.fate.end) c.take_at.ensures.disk

pub returns-clause-rings : goal.returns-clause-rings
returns-clause-rings g c =
    let v = c.args.self.now in
    let s : PlatformsRecord _ _ = (record {
      roster = c.self.inside.roster;
      shards = c.self.inside.shards.items;
      spare = c.self.inside.spare.items;
    }) in
    let k = c.index_of-index.result in
    let inside : k < length s.shards =
    subst (λ (x : PlatformsRecord _ _). k < length x.shards) (sym c.self.view_is) c.index_of-index.ensures.within in
    let m = c.index_mut-machine.result.now in
    let there : slice_get s.shards k ≡ Some m =
    slice_get_read s.shards (length s.shards) k m refl inside c.index_mut-machine.ensures.value in
    rose_in g.M.Machine.seen s v c.self.view_is c.args.at c.args.shard k m c.self.invariant.0 c.requires.listed
    c.requires.shard c.index_of-index.ensures.index there g.M.Machine.faults.ring c.take_at.new.machine
    (ring_times c.take_at.result.fate.end) c.take_at.ensures.ring
