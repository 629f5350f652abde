use Rattle.std.proofs.Common.{None, ap, sym, ◌∙◌}
use Rattle.bill_chain.specs.Chain.{transactions_of}
use Rattle.bill_chain.proofs.TitleLemmas.{folded_on, without_place-append}
use Rattle.bill_diary.proofs.LinkLemmas.{behind}
use Rattle.bill_diary.proofs.links.title_with.Goals as goal

pub returns-in-Ok : goal.returns-in-Ok
returns-in-Ok c =
    let more = c.args.more.now in
    c.fold_more.ensures
    ∙ sym (without_place-append (transactions_of (behind c.args.links.now)) more None
    ∙ ap (λ folded. folded_on folded more) (sym c.in-Ok.ensures))

pub returns-in-Err : goal.returns-in-Err
returns-in-Err c =
    let more = c.args.more.now in
    sym (without_place-append (transactions_of (behind c.args.links.now)) more None
    ∙ ap (λ folded. folded_on folded more) (sym c.in-Err.ensures))
