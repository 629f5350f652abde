use Rattle.std.proofs.Common.{◌+◌, ◌++◌, ◌∙◌, Bool, List, ap, drop, not, sym}
use Rattle.ebl_base.specs.declared.checksum.Checksum.{Checksum}
use Rattle.bill_diary.specs.History.{history}
use Rattle.bill_diary.specs.Pieces.{is_there}
use Rattle.transfer_judge.proofs.MissingLemmas.{kept, one_missing, one_there}
use Rattle.transfer_judge.proofs.judging.missing.Goals as goal
use Rattle.transfer_judge.proofs.judging.missing.Goals.{then-not-has_bytes+in_ok-push, else-not-has_bytes}

pub loop-piece-preserved : goal.loop-piece-preserved
loop-piece-preserved c =
    let keeps : Checksum → Bool = λ checksum. not (is_there (history c.args.bill c.args.register.now.diary) checksum) in
    let pieces = c.as_slice-piece-items.result.now in
    let piece = c.piece-item.result in
    let rest = kept keeps (drop (c.loop-piece.piece-index + 1) pieces) in
    let behind : List Checksum → List Checksum = λ found. found ++ rest in
    elim c.if-not-has_bytes.branch [
      | then-not-has_bytes+in_ok-push w ↦
          ap behind (w.missing-is ∙ w.in_ok-push.ensures.ok)
          ∙ one_missing keeps c.loop-piece.missing pieces c.loop-piece.piece-index piece c.loop-piece-test.true
          c.piece-item.is (ap not (sym w.if-not-has_bytes.ensures))
          ∙ c.loop-piece.invariant
      | else-not-has_bytes w ↦
          ap behind w.missing-is
          ∙ one_there keeps c.loop-piece.missing pieces c.loop-piece.piece-index piece c.loop-piece-test.true
          c.piece-item.is (ap not (sym w.if-not-has_bytes.ensures))
          ∙ c.loop-piece.invariant
    ]
