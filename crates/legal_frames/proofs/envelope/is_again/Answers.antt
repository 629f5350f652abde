use Rattle.std.proofs.Common.{ap, ◌∙◌}
use Rattle.bill_chain.specs.Chain.{last_of}
use Rattle.bill_diary.specs.History.{newest_first}
use Rattle.legal_frames.proofs.EnvelopeLemmas.{again_found_at}
use Rattle.legal_frames.proofs.envelope.is_again.Goals as goal

pub returns-in-Some-last_with_reference : goal.returns-in-Some-last_with_reference
returns-in-Some-last_with_reference c =
    again_found_at (newest_first c.args.register.now.diary) c.args.begun.bill c.args.begun.chain.now c.args.begun.body.now
    c.in-Some.last.now c.reference_of.result _ c.are_same.result (c.in-Some.ensures ∙ ap last_of c.as_slice.ensures)
    c.reference_of.ensures.value c.in-Some-last_with_reference.ensures c.are_same.ensures
