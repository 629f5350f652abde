use Rattle.std.proofs.Common.{sym, subst}
use Rattle.upload_state.specs.Started.{IsFault}
use Rattle.upload_state.proofs.StartedLemmas.{IsFault-fault_of}
use Rattle.upload_state.proofs.reading.started_read.Goals as goal

pub returns-in-Err-clause-err : goal.returns-in-Err-clause-err
returns-in-Err-clause-err c =
    subst (IsFault c.args.bytes.now) (sym c.fault_of.ensures)
    (IsFault-fault_of c.args.bytes.now c.in-Err.error c.in-Err.ensures.err)
