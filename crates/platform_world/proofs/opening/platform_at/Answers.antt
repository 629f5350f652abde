use Rattle.platform_world.proofs.Rings.{code-there}
use Rattle.platform_world.proofs.opening.platform_at.Goals as goal

pub returns : goal.returns
returns c = code-there c.args.platforms.now c.args.position _ c.requires
