use Rattle.holder_commands.proofs.RoundTrips.{command_of-command_value}
use Rattle.holder_commands.proofs.laws.written_commands_read_back.Goals as goal

pub returns : goal.returns
returns c = command_of-command_value
