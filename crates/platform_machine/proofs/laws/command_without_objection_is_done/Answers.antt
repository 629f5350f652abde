use Rattle.platform_machine.proofs.DoneLemmas.{command_carried_out}
use Rattle.platform_machine.proofs.laws.command_without_objection_is_done.Goals as goal

pub returns : goal.returns
returns c = command_carried_out
