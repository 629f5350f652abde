-- How the title goes on from link to link.
use Rattle.std.proofs.Common.{◌≡◌, ◌<◌, ◌+◌, ℕ, suc, List, [], ◌∷◌, ◌++◌, Option, Some, Result, Ok, Err, length, drop, get_or, refl, sym, ap, ◌∙◌, add-one}
use Rattle.std.proofs.Math.Seq.{drop-cons}
use Rattle.std.proofs.lemmas.List.{append-nil}
use Rattle.std.proofs.lemmas.List.Concat.{flat_map-append}
use Rattle.ebl_base.specs.declared.chain.ChainLink.{ChainLink}
use Rattle.ebl_base.specs.declared.transaction.Transaction.{Transaction}
use Rattle.title_fold.specs.declared.refusal.FoldRefusal.{FoldRefusal}
use Rattle.title_fold.specs.declared.title.Title.{Title}
use Rattle.title_fold.specs.Fold.{Folded, fold_from, fold_on, goes_on}
use Rattle.title_fold.specs.Step.{step_title}
use Rattle.title_fold.proofs.FoldLemmas.{fold_from-append}
use Rattle.bill_chain.specs.Chain.{transactions_of, without_place}

-- ---- folds without places

-- a fold without its place doesn't depend on where its list begins
elsewhere_on : (ts : List Transaction) (p q : ℕ) (step : Result Title FoldRefusal)
    → ((title : Title) → without_place (fold_from ts (Some title) (p + 1)) ≡ without_place (fold_from ts (Some title) (q + 1)))
    → without_place (goes_on p (λ title. fold_from ts (Some title) (p + 1)) step)
    ≡ without_place (goes_on q (λ title. fold_from ts (Some title) (q + 1)) step)
elsewhere_on ts p q (Err rule) further = refl
elsewhere_on ts p q (Ok title) further = further title

pub without_place-elsewhere : (ts : List Transaction) (before : Option Title) (p q : ℕ)
    → without_place (fold_from ts before p) ≡ without_place (fold_from ts before q)
without_place-elsewhere [] before p q = refl
without_place-elsewhere (t ∷ ts) before p q =
    elsewhere_on ts p q (step_title before t) (λ title. without_place-elsewhere ts (Some title) (p + 1) (q + 1))

-- what a list makes of what was folded before it
abbrev pub folded_on : Result (Option Title) FoldRefusal → List Transaction → Result (Option Title) FoldRefusal
folded_on (Ok title) ts = without_place (fold_from ts title 0)
folded_on (Err rule) ts = Err rule

on_folded : (folded : Folded) (rest : List Transaction) (place : ℕ)
    → without_place (fold_on folded rest place) ≡ folded_on (without_place folded) rest
on_folded (Ok title) rest place = without_place-elsewhere rest title place 0
on_folded (Err at) rest place = refl

pub without_place-append : (front rest : List Transaction) (before : Option Title)
    → without_place (fold_from (front ++ rest) before 0) ≡ folded_on (without_place (fold_from front before 0)) rest
without_place-append front rest before =
    ap without_place (fold_from-append front rest before 0)
    ∙ on_folded (fold_from front before 0) rest (0 + length front)

-- ---- links

-- the transactions of a chain and one link more
pub transactions_of-push : (chain : List ChainLink) (link : ChainLink)
    → transactions_of (chain ++ link ∷ []) ≡ transactions_of chain ++ link.entry.transactions
transactions_of-push chain link =
    flat_map-append (λ (l : ChainLink). l.entry.transactions) chain (link ∷ [])
    ∙ ap (λ (ts : List Transaction). transactions_of chain ++ ts) (append-nil link.entry.transactions)

-- what these links make of a title
abbrev pub links_on : List ChainLink → Option Title → Result (Option Title) FoldRefusal
links_on chain title = without_place (fold_from (transactions_of chain) title 0)

-- the link here, and those behind it
drop-link : (chain : List ChainLink) (i : ℕ) (link : ChainLink) → i < length chain → link ≡ get_or chain i link
    → drop i chain ≡ link ∷ drop (i + 1) chain
drop-link chain i link lt is =
    rw add-one (drop-cons chain i link lt ∙ ap (λ l. l ∷ drop (suc i) chain) (sym is))

-- one link more
pub links_on-more : (chain : List ChainLink) (i : ℕ) (link : ChainLink) (title : Option Title)
    (after : Result (Option Title) FoldRefusal) (seen : List Transaction)
    → i < length chain → link ≡ get_or chain i link → seen ≡ link.entry.transactions
    → after ≡ without_place (fold_from seen title 0)
    → links_on (drop i chain) title ≡ folded_on after (transactions_of (drop (i + 1) chain))
links_on-more chain i link title after seen lt is same folds =
    let rest = transactions_of (drop (i + 1) chain) in
    ap (λ ls. links_on ls title) (drop-link chain i link lt is)
    ∙ without_place-append link.entry.transactions rest title
    ∙ ap (λ ts. folded_on (without_place (fold_from ts title 0)) rest) (sym same)
    ∙ ap (λ folded. folded_on folded rest) (sym folds)
