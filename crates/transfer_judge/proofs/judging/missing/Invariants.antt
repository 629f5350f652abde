-- The documents found missing, followed by those missing among the rest, are all.
use Rattle.std.proofs.Common.{◌≡◌, ◌++◌, drop, filter, map, not}
use Rattle.bill_diary.specs.History.{history}
use Rattle.bill_diary.specs.Pieces.{is_there, missing_of}
use Rattle.transfer_judge.proofs.judging.missing.Given as goal

abbrev pub invariant-loop-piece : goal.invariant-loop-piece
invariant-loop-piece l =
    l.missing ++ filter (λ checksum. not (is_there (history l.bill l.register.diary) checksum))
    (map (λ piece. piece.checksum) (drop l.piece-index l.piece-items))
    ≡ missing_of l.m (history l.bill l.register.diary)
