use Rattle.run_safety.proofs.Shards.{step_shard}
use Rattle.run_safety.proofs.laws.steps_write_in_the_shard_of_their_request.Goals as goal

pub returns : goal.returns
returns c = λ roster keys me i diary now request step legal steps goes.
    step_shard roster keys me i diary legal now request step steps goes
