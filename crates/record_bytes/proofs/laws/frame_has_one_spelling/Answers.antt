use Rattle.std.proofs.Common.{sym, ◌∙◌}
use Rattle.record_bytes.proofs.SpellingLemmas.{one_frame}
use Rattle.record_bytes.proofs.laws.frame_has_one_spelling.Goals as goal

pub returns-clause-frame : goal.returns-clause-frame
returns-clause-frame c bytes a b p q =
    one_frame c.entries_with_one_text_are_one.ensures.transaction c.pieces_with_one_text_are_one.ensures bytes a b p q

pub returns-clause-bytes : goal.returns-clause-bytes
returns-clause-bytes c a b frame p q = p.bytes_are ∙ sym q.bytes_are
