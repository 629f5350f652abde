-- The fold of a list of transactions.
use Rattle.std.specs.Prelude.{◌≡◌, ℕ, ◌+◌, Option, Some, None, Result, Ok, Err, List, [], ◌∷◌, ◌++◌, length, IsSomeAnd}
use Rattle.ebl_base.specs.declared.kind.Kind.TheVariants.{Sign}
use Rattle.ebl_base.specs.declared.transaction.Transaction.{Transaction}
use Rattle.title_fold.specs.declared.title.Title.{Title}
use Rattle.title_fold.specs.declared.refusal.FoldRefusal.{FoldRefusal}
use Rattle.title_fold.specs.declared.refusal.FoldAt.{FoldAt}
use Rattle.title_fold.specs.Title.{carrier}
use Rattle.title_fold.specs.Step.{step_title}

-- what a fold gives: a title or none, or where it stopped
abbrev pub Folded : Type 0
Folded = Result (Option Title) FoldAt

-- a step that is refused at this place ends the fold; after any other it goes on
abbrev pub goes_on : ℕ → (Title → Folded) → Result Title FoldRefusal → Folded
goes_on place rest (Ok title) = rest title
goes_on place rest (Err rule) = Err (record { place = place; rule = rule })

-- the fold, on a title, of a list whose first transaction has this place
abbrev pub fold_from : List Transaction → Option Title → ℕ → Folded
fold_from [] before place = Ok before
fold_from (t ∷ ts) before place =
    goes_on place (λ title. fold_from ts (Some title) (place + 1)) (step_title before t)

-- the fold of a whole list begins without a title
abbrev pub fold : List Transaction → Folded
fold list = fold_from list None 0

-- a fold that goes on over a further list, whose first transaction has this place
abbrev pub fold_on : Folded → List Transaction → ℕ → Folded
fold_on (Ok title) rest place = fold_from rest title place
fold_on (Err at) rest place = Err at

-- the title begins with the first transaction, a SIGN whose actor is the carrier ever after
abbrev pub IsBegunBy : List Transaction → Option Title → Type 0
IsBegunBy [] title = title ≡ None
IsBegunBy (t ∷ ts) title = (t.kind ≡ Sign) × IsSomeAnd title (λ after. carrier after ≡ t.actor)

-- all that stands in front of this place folds, and what stands there is refused by this rule
pub record StopsAt (list : List Transaction) (at : FoldAt) : Type 0 where
  pub front : List Transaction
  pub refused : Transaction
  pub rest : List Transaction
  pub before : Option Title
  pub parts : list ≡ front ++ refused ∷ rest
  pub place : length front ≡ at.place
  pub folds : fold front ≡ Ok before
  pub refuses : step_title before refused ≡ Err at.rule
