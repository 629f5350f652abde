use Rattle.std.proofs.Common.{length, ap, ◌∙◌}
use Rattle.bill_journal.proofs.FrameLemmas.{length-framed}
use Rattle.bill_journal.proofs.framed.Framed.bytes.Goals as goal

pub returns-clause-length : goal.returns-clause-length
returns-clause-length c =
    rw (← c.self.view_is) (ap length (c.as_slice.ensures ∙ c.self.invariant.whole) ∙ length-framed _)
