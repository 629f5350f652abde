use Rattle.signed_envelope.proofs.CompactLemmas.{compact_is_utf8}
use Rattle.answer_lines.proofs.lines.signed_str.Goals as goal

pub unreachable-requires : goal.unreachable-requires
unreachable-requires c =
    let is = c.requires in
    c.in-Err.ensures.cases.0 (rw c.as_slice.ensures (compact_is_utf8 16384 c.args.signed.now.0 is.0 is.1))
