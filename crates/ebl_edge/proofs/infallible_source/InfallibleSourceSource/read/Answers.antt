use Rattle.ebl_edge.proofs.SourceLemmas.{moved_on, drop-at_end, take-rest}
use Rattle.ebl_edge.proofs.infallible_source.InfallibleSourceSource.read.Goals as goal

pub returns-clause-bytes : goal.returns-clause-bytes
returns-clause-bytes c =
    let bytes = c.self.inside.bytes in
    let at = c.self.inside.at in
    let rest = take-rest c.as_slice.result.now bytes at c.as_slice.ensures in
    (moved_on bytes _ _ _ at _ c.self.view_is rest c.hand_out-count.ensures.moved, λ none room. drop-at_end bytes _ at _ rest (c.hand_out-count.ensures.end none room))
