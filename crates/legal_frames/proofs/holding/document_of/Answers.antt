use Rattle.legal_frames.proofs.HoldingLemmas.{unread_never}
use Rattle.legal_frames.proofs.holding.document_of.Goals as goal

pub unreachable-requires : goal.unreachable-requires
unreachable-requires c =
    unread_never c.args.text.now c.as_slice.result.now c.in_ok-json.field-0 c.in_default.not-Some c.as_slice.ensures
    c.in_ok-json.ensures.value c.requires.0 c.requires.1
