use Rattle.record_bytes.proofs.FindLemmas.{none_found}
use Rattle.record_bytes.proofs.TextLemmas.{no_link}
use Rattle.record_bytes.proofs.texts.link_of.Goals as goal

pub returns-in-None : goal.returns-in-None
returns-in-None c = no_link c.args.text (none_found _ c.in_ok-entry.field-0 c.in-None.is c.in_ok-entry.ensures)
