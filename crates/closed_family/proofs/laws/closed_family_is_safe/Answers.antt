use Rattle.closed_family.proofs.Takings.{closed_is_safe}
use Rattle.closed_family.proofs.laws.closed_family_is_safe.Goals as goal

pub returns : goal.returns
returns c = closed_is_safe
