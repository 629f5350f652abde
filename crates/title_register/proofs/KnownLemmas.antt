-- The title after a known chain goes on from the title before it.
use Rattle.std.proofs.Common.{◌≡◌, List, [], ◌∷◌, ◌++◌, None, sym, ap, ◌∙◌}
use Rattle.ebl_base.specs.declared.chain.ChainLink.{ChainLink}
use Rattle.ebl_base.specs.declared.transaction.Transaction.{Transaction}
use Rattle.title_fold.specs.Fold.{fold}
use Rattle.bill_chain.specs.Chain.{title_after_chain, transactions_of}
use Rattle.bill_chain.proofs.TitleLemmas.{folded_on, transactions_of-push, without_place-append}
use Rattle.bill_diary.specs.Titles.{FoldedBy, unplaced}

-- the title after a chain and the transactions of an entry is that after the chain, followed by the entry
pub title_of_longer : (chain longer : List ChainLink) (link : ChainLink) (transactions : List Transaction)
    (title : FoldedBy) → title ≡ unplaced (fold (transactions_of chain ++ transactions))
    → transactions ≡ link.entry.transactions → longer ≡ chain ++ link ∷ []
    → title ≡ unplaced (title_after_chain longer)
title_of_longer chain longer link transactions title is same longer_is =
    is ∙ ap (λ (ts : List Transaction). unplaced (fold (transactions_of chain ++ ts))) same
    ∙ ap (λ (ts : List Transaction). unplaced (fold ts)) (sym (transactions_of-push chain link))
    ∙ ap (λ (links : List ChainLink). unplaced (title_after_chain links)) (sym longer_is)

-- further transactions go on from the title after the chain
pub title_goes_on : (chain : List ChainLink) (more : List Transaction) (title : FoldedBy)
    → unplaced (title_after_chain chain) ≡ title
    → folded_on title more ≡ unplaced (fold (transactions_of chain ++ more))
title_goes_on chain more title is =
    ap (λ (folded : FoldedBy). folded_on folded more) (sym is)
    ∙ sym (without_place-append (transactions_of chain) more None)
