use Rattle.std.proofs.Common.{Bool, ap}
use Rattle.platform_world.specs.Journaled.{loose_mark}
use Rattle.platform_world.proofs.journaled.JournaledShardMachine.settle.Goals as goal

pub returns-in-Err-clause-was_loose : goal.returns-in-Err-clause-was_loose
returns-in-Err-clause-was_loose g c = (
  c.args.self.now.written.loose,
  ap (λ (b : Bool). loose_mark b c.args.self.now.written.loose) c.in-Err.ensures.still.0,
)
