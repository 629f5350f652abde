-- How a fold goes on, where it begins and where it stops.
use Rattle.std.proofs.Common.{◌≡◌, ℕ, ◌+◌, List, [], ◌∷◌, ◌++◌, length, refl, sym, ap, subst, ◌∙◌, arith, add-zero, zero-add}
use Rattle.std.specs.Prelude.{Option, Some, None, Result, Ok, Err, IsSomeAnd}
use Rattle.ebl_base.specs.declared.kind.Kind.TheVariants.{Sign}
use Rattle.ebl_base.specs.declared.transaction.Transaction.{Transaction}
use Rattle.title_fold.specs.declared.title.Title.{Title}
use Rattle.title_fold.specs.declared.title.Title.TheVariants.{Signed}
use Rattle.title_fold.specs.declared.refusal.FoldRefusal.{FoldRefusal}
use Rattle.title_fold.specs.declared.refusal.FoldAt.{FoldAt}
use Rattle.title_fold.specs.Title.{carrier}
use Rattle.title_fold.specs.Step.{step_title}
use Rattle.title_fold.specs.Fold.{Folded, goes_on, fold_from, fold, fold_on, IsBegunBy, StopsAt}
use Rattle.title_fold.proofs.TitleLaws.{carrier_stays, begins_by_sign, begins_as_signed}

-- a fold that gives a title
abbrev gave : Option Title → Folded
gave title = Ok title

-- a fold that stopped
abbrev stopped : FoldAt → Folded
stopped at = Err at

same_title : {a b : Option Title} → gave a ≡ gave b → a ≡ b
same_title h = cc

same_stop : {a b : FoldAt} → stopped a ≡ stopped b → a ≡ b
same_stop h = cc

not_both : {at : FoldAt} {title : Option Title} → stopped at ≡ gave title → ⊥
not_both h = cc

-- ---- a front and a rest

-- one step, and then the front and the rest
step_on : (t : Transaction) (ts rest : List Transaction) (place : ℕ) (step : Result Title FoldRefusal)
    → ((title : Title)
    → fold_from (ts ++ rest) (Some title) (place + 1)
    ≡ fold_on (fold_from ts (Some title) (place + 1)) rest (place + 1 + length ts))
    → goes_on place (λ title. fold_from (ts ++ rest) (Some title) (place + 1)) step
    ≡ fold_on (goes_on place (λ title. fold_from ts (Some title) (place + 1)) step) rest (place + length (t ∷ ts))
step_on t ts rest place (Err rule) further = refl
step_on t ts rest place (Ok title) further =
    let next : place + 1 + length ts ≡ place + length (t ∷ ts) = omega arith in
    further title ∙ ap (fold_on (fold_from ts (Some title) (place + 1)) rest) next

-- the fold of a list is the fold of its front, and then of its rest
pub fold_from-append : (front rest : List Transaction) (before : Option Title) (place : ℕ)
    → fold_from (front ++ rest) before place
    ≡ fold_on (fold_from front before place) rest (place + length front)
fold_from-append [] rest before place = ap (fold_from rest before) (sym (add-zero place))
fold_from-append (t ∷ ts) rest before place =
    step_on t ts rest place (step_title before t) (λ title. fold_from-append ts rest (Some title) (place + 1))

-- the same of a whole list
pub fold-append : (front rest : List Transaction)
    → fold (front ++ rest) ≡ fold_on (fold front) rest (length front)
fold-append front rest =
    fold_from-append front rest None 0
    ∙ ap (fold_on (fold front) rest) (zero-add (length front))

-- the fold of one transaction more is its step on the fold
pub fold-push : (list : List Transaction) (t : Transaction)
    → fold (list ++ t ∷ []) ≡ fold_on (fold list) (t ∷ []) (length list)
fold-push list t = fold-append list (t ∷ [])

-- one transaction more that is allowed
pub fold-push-allowed : (list : List Transaction) (t : Transaction) (before : Option Title) (after : Title)
    → fold list ≡ Ok before → step_title before t ≡ Ok after → fold (list ++ t ∷ []) ≡ Ok (Some after)
fold-push-allowed list t before after folds steps =
    fold-push list t ∙ ap (λ folded. fold_on folded (t ∷ []) (length list)) folds
    ∙ ap (goes_on (length list) (λ title. Ok (Some title))) steps

-- one transaction more that is refused
pub fold-push-refused : (list : List Transaction) (t : Transaction) (before : Option Title) (rule : FoldRefusal)
    → fold list ≡ Ok before → step_title before t ≡ Err rule
    → fold (list ++ t ∷ []) ≡ Err (record { place = length list; rule = rule })
fold-push-refused list t before rule folds steps =
    fold-push list t ∙ ap (λ folded. fold_on folded (t ∷ []) (length list)) folds
    ∙ ap (goes_on (length list) (λ title. Ok (Some title))) steps

-- a fold that was refused stays refused, whatever follows
pub fold-append-refused : (front rest : List Transaction) (at : FoldAt)
    → fold front ≡ Err at
    → fold (front ++ rest) ≡ Err at
fold-append-refused front rest at stops =
    fold-append front rest ∙ ap (λ folded. fold_on folded rest (length front)) stops

-- what a list makes of a title doesn't depend on the place of its first transaction
elsewhere_on : (ts : List Transaction) (p q : ℕ) (after : Option Title) (step : Result Title FoldRefusal)
    → ((title : Title) → fold_from ts (Some title) (p + 1) ≡ Ok after
    → fold_from ts (Some title) (q + 1) ≡ Ok after)
    → goes_on p (λ title. fold_from ts (Some title) (p + 1)) step ≡ Ok after
    → goes_on q (λ title. fold_from ts (Some title) (q + 1)) step ≡ Ok after
elsewhere_on ts p q after (Err rule) further h = absurd (not_both h)
elsewhere_on ts p q after (Ok title) further h = further title h

pub fold_from-elsewhere : (list : List Transaction) (before : Option Title) (p q : ℕ) (after : Option Title)
    → fold_from list before p ≡ Ok after → fold_from list before q ≡ Ok after
fold_from-elsewhere [] before p q after h = h
fold_from-elsewhere (t ∷ ts) before p q after h =
    elsewhere_on ts p q after (step_title before t)
    (λ title. fold_from-elsewhere ts (Some title) (p + 1) (q + 1) after) h

-- ---- where a fold begins

-- one step keeps the carrier, and so does all that follows
keeps_on : (t : Transaction) (ts : List Transaction) (before : Title) (place : ℕ) (title : Option Title)
    (step : Result Title FoldRefusal)
    → ((after : Title) → step ≡ Ok after → carrier after ≡ carrier before)
    → ((after : Title) → fold_from ts (Some after) (place + 1) ≡ Ok title
    → IsSomeAnd title (λ last. carrier last ≡ carrier after))
    → goes_on place (λ after. fold_from ts (Some after) (place + 1)) step ≡ Ok title
    → IsSomeAnd title (λ last. carrier last ≡ carrier before)
keeps_on t ts before place title (Err rule) stays further h = absurd (not_both h)
keeps_on t ts before place title (Ok after) stays further h =
    subst (λ c. IsSomeAnd title (λ last. carrier last ≡ c)) (stays after refl) (further after h)

-- a fold on a title keeps its carrier
pub fold_from-carrier : (list : List Transaction) (before : Title) (place : ℕ) (title : Option Title)
    → fold_from list (Some before) place ≡ Ok title → IsSomeAnd title (λ last. carrier last ≡ carrier before)
fold_from-carrier [] before place title h =
    subst (λ (last : Option Title). IsSomeAnd last (λ x. carrier x ≡ carrier before)) (same_title h) refl
fold_from-carrier (t ∷ ts) before place title h =
    keeps_on t ts before place title (step_title (Some before) t) (carrier_stays before t)
    (λ after. fold_from-carrier ts after (place + 1) title) h

-- after the first step, a SIGN, its actor is the carrier
begun_on : (t : Transaction) (ts : List Transaction) (title : Option Title) (step : Result Title FoldRefusal)
    → ((after : Title) → step ≡ Ok after → (t.kind ≡ Sign) × (after ≡ Signed t.actor))
    → goes_on 0 (λ after. fold_from ts (Some after) 1) step ≡ Ok title
    → IsBegunBy (t ∷ ts) title
begun_on t ts title (Err rule) signs h = absurd (not_both h)
begun_on t ts title (Ok after) signs h =
    let (sign, signed) = signs after refl in
    let kept = fold_from-carrier ts after 1 title h in
    (sign, subst (λ c. IsSomeAnd title (λ last. carrier last ≡ c)) (ap carrier signed) kept)

-- the title of a fold begins with the first transaction
pub fold-begun : (list : List Transaction) (title : Option Title)
    → fold list ≡ Ok title
    → IsBegunBy list title
fold-begun [] title h = sym (same_title h)
fold-begun (t ∷ ts) title h =
    begun_on t ts title (step_title None t)
    (λ after e. (begins_by_sign t after e, begins_as_signed t after e)) h

-- ---- where a fold stops

-- what `StopsAt` says, of a fold that begins on a title and at a place
record StopsFrom (list : List Transaction) (before : Option Title) (place : ℕ) (at : FoldAt) : Type 0 where
  front : List Transaction
  refused : Transaction
  rest : List Transaction
  reached : Option Title
  parts : list ≡ front ++ refused ∷ rest
  far : place + length front ≡ at.place
  folds : fold_from front before place ≡ Ok reached
  refuses : step_title reached refused ≡ Err at.rule

stops_on : (t : Transaction) (ts : List Transaction) (before : Option Title) (place : ℕ) (at : FoldAt)
    (step : Result Title FoldRefusal)
    → step_title before t ≡ step
    → ((after : Title) → fold_from ts (Some after) (place + 1) ≡ Err at
    → StopsFrom ts (Some after) (place + 1) at)
    → goes_on place (λ after. fold_from ts (Some after) (place + 1)) step ≡ Err at
    → StopsFrom (t ∷ ts) before place at
stops_on t ts before place at (Err rule) steps further h =
    let here : record { place = place; rule = rule } ≡ at = same_stop h in
    record {
      front = [];
      refused = t;
      rest = ts;
      reached = before;
      parts = refl;
      far = add-zero place ∙ ap (λ (x : FoldAt). x.place) here;
      folds = refl;
      refuses = steps ∙ ap (λ (x : FoldAt). Err x.rule) here;
    }
stops_on t ts before place at (Ok after) steps further h =
    let later = further after h in
    record {
      front = t ∷ later.front;
      refused = later.refused;
      rest = later.rest;
      reached = later.reached;
      parts = ap (λ xs. t ∷ xs) later.parts;
      far = let far = later.far in omega arith;
      folds = ap (goes_on place (λ x. fold_from later.front (Some x) (place + 1))) steps ∙ later.folds;
      refuses = later.refuses;
    }

stops_from : (list : List Transaction) (before : Option Title) (place : ℕ) (at : FoldAt)
    → fold_from list before place ≡ Err at → StopsFrom list before place at
stops_from [] before place at h = absurd (not_both (sym h))
stops_from (t ∷ ts) before place at h =
    stops_on t ts before place at (step_title before t) refl
    (λ after. stops_from ts (Some after) (place + 1) at) h

-- a fold stops at the first transaction that is refused
pub fold-stops : (list : List Transaction) (at : FoldAt) → fold list ≡ Err at → StopsAt list at
fold-stops list at h =
    let stop = stops_from list None 0 at h in
    record {
      front = stop.front;
      refused = stop.refused;
      rest = stop.rest;
      before = stop.reached;
      parts = stop.parts;
      place = sym (zero-add (length stop.front)) ∙ stop.far;
      folds = stop.folds;
      refuses = stop.refuses;
    }

-- and what stops so is the fold
pub stops-fold : (list : List Transaction) (at : FoldAt) → StopsAt list at → fold list ≡ Err at
stops-fold list at stop =
    ap fold stop.parts
    ∙ fold-append stop.front (stop.refused ∷ stop.rest)
    ∙ ap (λ folded. fold_on folded (stop.refused ∷ stop.rest) (length stop.front)) stop.folds
    ∙ ap (goes_on (length stop.front) (λ title. fold_from stop.rest (Some title) (length stop.front + 1))) stop.refuses
    ∙ ap (λ place. stopped (record { place = place; rule = at.rule })) stop.place

-- all of these
pub ruleset fold_laws = (
  fold-append,
  fold-push-allowed,
  fold-push-refused,
  fold-append-refused,
  fold-begun,
  fold-stops,
  stops-fold,
)
