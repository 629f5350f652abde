-- Links behind references: the last one, and the title after those that are left.
use Rattle.std.proofs.Common.{◌≡◌, ℕ, ◌+◌, ◌-◌, ◌<◌, Bor, List, ◌∷◌, Option, Result, drop, get_or, length, map, ap, sym, ◌∙◌}
use Rattle.std.specs.Prelude.{option_map, slice_get}
use Rattle.std.proofs.lemmas.List.{drop_more, length-map}
use Rattle.std.proofs.lemmas.Option.{slice_get-map}
use Rattle.ebl_base.specs.declared.chain.ChainLink.{ChainLink}
use Rattle.ebl_base.specs.declared.transaction.Transaction.{Transaction}
use Rattle.title_fold.specs.declared.refusal.FoldRefusal.{FoldRefusal}
use Rattle.title_fold.specs.declared.title.Title.{Title}
use Rattle.title_fold.specs.Fold.{fold_from}
use Rattle.bill_chain.specs.Chain.{last_of, transactions_of, without_place}
use Rattle.bill_chain.proofs.ChainLemmas.{last_of-get}
use Rattle.bill_chain.proofs.TitleLemmas.{folded_on, links_on, without_place-append}

-- the links behind references
abbrev pub behind : List (Bor ChainLink) → List ChainLink
behind links = map (λ link. link.now) links

-- the last link is the one at the last place
pub last_of-behind : (links : List (Bor ChainLink))
    → option_map (λ (link : Bor ChainLink). link.now) (slice_get links (length links - 1)) ≡ last_of (behind links)
last_of-behind links =
    sym (slice_get-map (λ (link : Bor ChainLink). link.now) links (length links - 1))
    ∙ ap (λ n. slice_get (behind links) (n - 1)) (sym (length-map links (λ (link : Bor ChainLink). link.now)))
    ∙ last_of-get (behind links)

-- one link of those that are left
pub links_on-behind : (links : List (Bor ChainLink)) (i : ℕ) (link : Bor ChainLink) (title : Option Title)
    (after : Result (Option Title) FoldRefusal) (seen : List Transaction)
    → i < length links → link ≡ get_or links i link → seen ≡ link.now.entry.transactions
    → after ≡ without_place (fold_from seen title 0)
    → links_on (behind (drop i links)) title ≡ folded_on after (transactions_of (behind (drop (i + 1) links)))
links_on-behind links i link title after seen within is same folds =
    let rest = transactions_of (behind (drop (i + 1) links)) in
    ap (λ (ls : List (Bor ChainLink)). links_on (behind ls) title)
    (drop_more links i link within ∙ ap (λ (l : Bor ChainLink). l ∷ drop (i + 1) links) (sym is))
    ∙ without_place-append link.now.entry.transactions rest title
    ∙ ap (λ ts. folded_on (without_place (fold_from ts title 0)) rest) (sym same)
    ∙ ap (λ folded. folded_on folded rest) (sym folds)
