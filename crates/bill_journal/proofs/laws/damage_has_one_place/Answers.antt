use Rattle.bill_journal.proofs.FrameLemmas.{breaks_once}
use Rattle.bill_journal.proofs.laws.damage_has_one_place.Goals as goal

pub returns : goal.returns
returns c = breaks_once
