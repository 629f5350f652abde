-- What is left of the list, folded on the title so far, gives the fold of the whole list.
use Rattle.std.proofs.Common.{◌≡◌, ◌+◌, drop}
use Rattle.title_fold.specs.Fold.{fold_from}
use Rattle.title_fold.proofs.folding.fold_from.Given as goal

abbrev pub invariant-loop-ahead : goal.invariant-loop-ahead
invariant-loop-ahead l = fold_from l.list l.fn.before l.place ≡ fold_from (drop l.ahead l.list) l.title (l.place + l.ahead)
