use Rattle.std.proofs.Common.{◌≡◌, length}
use Rattle.std.specs.Vec.Iter.{into_iter_items, into_iter_len}
use Rattle.record_bytes.proofs.TextLemmas.{MadeSoFar}
use Rattle.record_bytes.proofs.texts.links_of.Given as goal

abbrev pub invariant-loop-text : goal.invariant-loop-text
invariant-loop-text l =
    MadeSoFar l.fn.texts.items l.links.items (into_iter_items l.text-iterator)
    × (into_iter_len l.text-iterator ≡ length (into_iter_items l.text-iterator))
