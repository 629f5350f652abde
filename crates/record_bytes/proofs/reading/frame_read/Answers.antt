use Rattle.record_bytes.proofs.FindLemmas.{found_is}
use Rattle.record_bytes.proofs.reading.frame_read.Goals as goal

pub returns-in-Some-clause-again : goal.returns-in-Some-clause-again
returns-in-Some-clause-again c frame is =
    c.frame_has_one_spelling.ensures.frame c.args.bytes.now c.in-Some.frame frame
    (found_is _ c.in_ok-frame.field-0 c.in-Some.frame c.in-Some.is c.in_ok-frame.ensures) is
