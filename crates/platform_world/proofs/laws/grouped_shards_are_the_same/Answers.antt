use Rattle.platform_world.proofs.Shards.{shards_grouped}
use Rattle.platform_world.proofs.laws.grouped_shards_are_the_same.Goals as goal

pub returns : goal.returns
returns c = shards_grouped
