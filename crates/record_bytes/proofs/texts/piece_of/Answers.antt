use Rattle.record_bytes.proofs.FindLemmas.{unfound}
use Rattle.record_bytes.proofs.TextLemmas.{no_piece_unread}
use Rattle.record_bytes.proofs.texts.piece_of.Goals as goal

pub returns-in-None : goal.returns-in-None
returns-in-None c = no_piece_unread c.args.text.now (unfound _ _ c.in_ok-json.field-0 c.in-None.is c.in_ok-json.ensures.value)
