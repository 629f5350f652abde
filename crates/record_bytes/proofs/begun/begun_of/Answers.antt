use Rattle.record_bytes.proofs.FindLemmas.{unfound}
use Rattle.record_bytes.proofs.BegunLemmas.{no_begun_body}
use Rattle.record_bytes.proofs.begun.begun_of.Goals as goal

pub returns-in-None : goal.returns-in-None
returns-in-None c =
    no_begun_body c.args.text.now c.requires (unfound _ _ c.in_ok-body.field-0 c.in-None.is c.in_ok-body.ensures.reads)
