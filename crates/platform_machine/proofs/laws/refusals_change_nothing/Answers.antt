use Rattle.platform_machine.proofs.RefusalLemmas.{refusal_changes_nothing}
use Rattle.platform_machine.proofs.laws.refusals_change_nothing.Goals as goal

pub returns : goal.returns
returns c = refusal_changes_nothing
