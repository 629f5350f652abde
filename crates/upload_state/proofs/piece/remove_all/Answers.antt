use Rattle.std.proofs.Common.{◌≡◌, ◌&&◌, ◌+◌, ◌∷◌, [], get_or, drop, drop-cons, add-one, sym, ap, ◌∙◌}
use Rattle.ebl_base.specs.declared.checksum.Checksum.{Checksum}
use Rattle.upload_state.specs.Piece.{has, is_absent}
use Rattle.upload_state.proofs.WantedLemmas.{has-removed_next}
use Rattle.upload_state.proofs.piece.remove_all.Goals as goal

pub loop-checksum-preserved : goal.loop-checksum-preserved
loop-checksum-preserved c = λ q.
    let checksums = c.args.checksums.now in
    let i = c.loop-checksum.checksum-index in
    let none : Checksum = record { 0 = [] } in
    let front : drop i checksums ≡ get_or checksums i none ∷ drop (i + 1) checksums =
    rw add-one (drop-cons checksums i none c.loop-checksum-test.true) in
    has-removed_next c.loop-checksum.set c.remove.new.self (get_or checksums i none) q (drop (i + 1) checksums)
    c.remove.ensures.updates.0
    ∙ ap (λ rest. has c.loop-checksum.set q && is_absent rest q) (sym front) ∙ c.loop-checksum.invariant q
