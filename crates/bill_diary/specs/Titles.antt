-- A fold of transactions, without the place at which it stopped.
use Rattle.std.specs.Prelude.{Bool, false, Option, Result, Ok, Err}
use Rattle.title_fold.specs.declared.title.Title.{Title}
use Rattle.title_fold.specs.declared.refusal.FoldRefusal.{FoldRefusal}
use Rattle.title_fold.specs.Fold.{Folded}
use Rattle.title_fold.specs.Table.{ended, stands_at}
use Rattle.bill_chain.specs.Chain.{without_place}

-- a title or none, or the rule that refused
abbrev pub FoldedBy : Type 0
FoldedBy = Result (Option Title) FoldRefusal

-- the title, or the rule by which a fold was refused
abbrev pub unplaced : Folded → FoldedBy
unplaced folded = without_place folded

-- whether the title is ended
abbrev pub is_ended_by : FoldedBy → Bool
is_ended_by (Ok title) = stands_at ended title
is_ended_by (Err rule) = false
