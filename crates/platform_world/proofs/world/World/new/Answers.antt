use Rattle.platform_world.proofs.Opened.{fresh_opening}
use Rattle.platform_world.proofs.Reached.{fresh_reached}
use Rattle.platform_world.proofs.world.World.new.Goals as goal

pub invariant_of-result : goal.invariant_of-result
invariant_of-result g c =
    fresh_reached g.M.Machine.seen
    (record {
      platforms = c.args.platforms;
      sent = c.new.result.items;
      signed = c.new-2.result;
      fates = c.new-3.result.items;
    }) c.requires.fresh c.new.ensures.items c.new-2.ensures c.new-3.ensures.items

pub returns-clause-opening : goal.returns-clause-opening
returns-clause-opening g c =
    fresh_opening g.M.Machine.seen
    (record {
      platforms = c.args.platforms;
      sent = c.new.result.items;
      signed = c.new-2.result;
      fates = c.new-3.result.items;
    }) c.requires.fresh c.new.ensures.items c.new-2.ensures
