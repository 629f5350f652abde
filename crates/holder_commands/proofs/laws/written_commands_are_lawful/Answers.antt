use Rattle.holder_commands.proofs.CanonicalForms.{command-lawful, command-texts}
use Rattle.holder_commands.proofs.laws.written_commands_are_lawful.Goals as goal

pub returns-clause-lawful : goal.returns-clause-lawful
returns-clause-lawful c = command-lawful

pub returns-clause-texts : goal.returns-clause-texts
returns-clause-texts c = command-texts
