use Rattle.platform_world.proofs.Grouped.{shard_at-grouped, with_shard-grouped}
use Rattle.platform_world.proofs.laws.shards_are_at_their_positions.Goals as goal

pub returns-clause-found : goal.returns-clause-found
returns-clause-found c = shard_at-grouped

pub returns-clause-replaced : goal.returns-clause-replaced
returns-clause-replaced c = with_shard-grouped
