use Rattle.std.proofs.Common.{◌≡◌, ◌<◌, ◌∙◌, refl, subst, sym, arith, length}
use Rattle.std.specs.Prelude.{Some, slice_get}
use Rattle.std.proofs.lemmas.Option.{slice_get_read}
use Rattle.platform_world.specs.Platforms.{PlatformsRecord}
use Rattle.platform_world.proofs.Shards.{kept_in, later_in, loose_in, told_set, told_there}
use Rattle.platform_world.proofs.platforms.Platforms.loosen.Goals as goal

pub index_mut-machine-requires : goal.index_mut-machine-requires
index_mut-machine-requires g c =
    let k = c.index_of-index.result in
    let inside : k < length c.self.inside.shards.items =
    subst (λ (x : PlatformsRecord _ _). k < length x.shards) (sym c.self.view_is) c.index_of-index.ensures.within in
    grind (arith, inside, c.self.inside.shards.ok)

pub invariant_of-self : goal.invariant_of-self
invariant_of-self g c =
    let v = c.args.self.now in
    let s : PlatformsRecord _ _ = (record {
      roster = c.self.inside.roster;
      shards = c.self.inside.shards.items;
      spare = c.self.inside.spare.items;
    }) in
    let k = c.index_of-index.result in
    let inside : k < length s.shards =
    subst (λ (x : PlatformsRecord _ _). k < length x.shards) (sym c.self.view_is) c.index_of-index.ensures.within in
    let m = c.index_mut-machine.result.now in
    let there : slice_get s.shards k ≡ Some m =
    slice_get_read s.shards (length s.shards) k m refl inside c.index_mut-machine.ensures.value in (
      kept_in g.M.Machine.seen s v c.self.view_is c.args.at c.args.shard k m c.self.invariant.0 c.requires.listed
          c.requires.shard c.index_of-index.ensures.index there c.loosen.new.self c.loosen.ensures.same,
      told_set g.M.Machine.tells s.shards k c.loosen.new.self c.self.invariant.1
          (c.loosen.ensures.told ∙ told_there g.M.Machine.tells s.shards k m c.self.invariant.1 there),
      c.self.invariant.2,
    )

pub returns-clause-loose : goal.returns-clause-loose
returns-clause-loose g c =
    let v = c.args.self.now in
    let s : PlatformsRecord _ _ = (record {
      roster = c.self.inside.roster;
      shards = c.self.inside.shards.items;
      spare = c.self.inside.spare.items;
    }) in
    let k = c.index_of-index.result in
    let inside : k < length s.shards =
    subst (λ (x : PlatformsRecord _ _). k < length x.shards) (sym c.self.view_is) c.index_of-index.ensures.within in
    let m = c.index_mut-machine.result.now in
    let there : slice_get s.shards k ≡ Some m =
    slice_get_read s.shards (length s.shards) k m refl inside c.index_mut-machine.ensures.value in
    loose_in g.M.Machine.seen s v c.self.view_is c.args.at c.args.shard k m c.self.invariant.0 c.requires.listed
    c.requires.shard c.index_of-index.ensures.index there c.loosen.new.self s.spare c.loosen.ensures.loose

pub returns-clause-disks : goal.returns-clause-disks
returns-clause-disks g c =
    let v = c.args.self.now in
    let s : PlatformsRecord _ _ = (record {
      roster = c.self.inside.roster;
      shards = c.self.inside.shards.items;
      spare = c.self.inside.spare.items;
    }) in
    let k = c.index_of-index.result in
    let inside : k < length s.shards =
    subst (λ (x : PlatformsRecord _ _). k < length x.shards) (sym c.self.view_is) c.index_of-index.ensures.within in
    let m = c.index_mut-machine.result.now in
    let there : slice_get s.shards k ≡ Some m =
    slice_get_read s.shards (length s.shards) k m refl inside c.index_mut-machine.ensures.value in
    later_in g.M.Machine.seen s v c.self.view_is c.args.at c.args.shard k m c.self.invariant.0 c.requires.listed
    c.requires.shard c.index_of-index.ensures.index there g.M.Machine.faults.disk c.loosen.new.self c.loosen.ensures.later_disk

pub returns-clause-rings : goal.returns-clause-rings
returns-clause-rings g c =
    let v = c.args.self.now in
    let s : PlatformsRecord _ _ = (record {
      roster = c.self.inside.roster;
      shards = c.self.inside.shards.items;
      spare = c.self.inside.spare.items;
    }) in
    let k = c.index_of-index.result in
    let inside : k < length s.shards =
    subst (λ (x : PlatformsRecord _ _). k < length x.shards) (sym c.self.view_is) c.index_of-index.ensures.within in
    let m = c.index_mut-machine.result.now in
    let there : slice_get s.shards k ≡ Some m =
    slice_get_read s.shards (length s.shards) k m refl inside c.index_mut-machine.ensures.value in
    later_in g.M.Machine.seen s v c.self.view_is c.args.at c.args.shard k m c.self.invariant.0 c.requires.listed
    c.requires.shard c.index_of-index.ensures.index there g.M.Machine.faults.ring c.loosen.new.self c.loosen.ensures.later_ring
