use Rattle.former_reading.proofs.Former.{read_alike}
use Rattle.former_reading.proofs.laws.formerly_read_is_read_alike.Goals as goal

pub returns : goal.returns
returns c = read_alike
