use Rattle.std.proofs.Common.{ap, ◌∙◌}
use Rattle.std.proofs.lemmas.List.{append-nil}
use Rattle.title_fold.specs.Fold.{fold}
use Rattle.bill_chain.specs.Chain.{transactions_of, without_place}
use Rattle.bill_diary.proofs.titles.title_after_chain.Goals as goal

pub returns : goal.returns
returns c =
    c.fold_after_chain.ensures
    ∙ ap (λ ts. without_place (fold ts)) (append-nil (transactions_of c.args.links.now))
