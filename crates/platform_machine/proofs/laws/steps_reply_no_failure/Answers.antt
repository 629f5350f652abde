use Rattle.platform_machine.proofs.FailureLemmas.{step_fine}
use Rattle.platform_machine.proofs.laws.steps_reply_no_failure.Goals as goal

pub returns : goal.returns
returns c = step_fine
