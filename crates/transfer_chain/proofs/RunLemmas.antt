-- What a run over an entry's transactions says of their fold, and of those that move.
use Rattle.std.proofs.Common.{◌≡◌, ℕ, ◌+◌, Bool, true, false, ◌&&◌, List, [], ◌∷◌, ◌++◌, Option, Some, Result, Ok, Err, length, refl, sym, ap, ◌∙◌}
use Rattle.std.proofs.lemmas.Bool.{and_parts}
use Rattle.ebl_base.specs.declared.transaction.Transaction.{Transaction}
use Rattle.title_fold.specs.declared.title.Title.{Title}
use Rattle.title_fold.specs.declared.refusal.FoldRefusal.{FoldRefusal}
use Rattle.title_fold.specs.declared.refusal.FoldAt.{FoldAt}
use Rattle.bill_chain.specs.Chain.{Stays, MovesAtItsEnd}
use Rattle.title_fold.specs.Fold.{Folded, goes_on, fold_from}
use Rattle.title_fold.specs.Movement.{moves}
use Rattle.title_fold.specs.Step.{step_title}
use Rattle.transfer_chain.specs.Steps.{agree, after_step, is_end, run}
use Rattle.transfer_chain.specs.declared.replay.Replayed.{Replayed}

abbrev ran_to : Replayed → Result Replayed FoldAt
ran_to ran = Ok ran

abbrev stopped : FoldAt → Result Replayed FoldAt
stopped at = Err at

abbrev gave : Option Title → Folded
gave title = Ok title

abbrev refused : FoldAt → Folded
refused at = Err at

-- ---- the fold

run-folds_on : (ts : List Transaction) (place : ℕ) (ran : Replayed) (next : Title → Bool)
    → ((after : Title) → run ts (Some after) (next after) (place + 1) ≡ ran_to ran
    → fold_from ts (Some after) (place + 1) ≡ gave ran.title)
    → (step : Result Title FoldRefusal)
    → after_step place (λ after. run ts (Some after) (next after) (place + 1)) step ≡ ran_to ran
    → goes_on place (λ after. fold_from ts (Some after) (place + 1)) step ≡ gave ran.title
run-folds_on ts place ran next further (Err rule) h = cc
run-folds_on ts place ran next further (Ok after) h = further after h

-- a run to the end is a fold
pub run-folds : (ts : List Transaction) (before : Option Title) (so_far : Bool) (place : ℕ) (ran : Replayed)
    → run ts before so_far place ≡ ran_to ran → fold_from ts before place ≡ gave ran.title
run-folds [] before so_far place ran h = ap (λ (r : Result Replayed FoldAt). title_in r) h
  where
    title_in : Result Replayed FoldAt → Folded
    title_in (Ok r) = Ok r.title
    title_in (Err at) = Err at
run-folds (t ∷ ts) before so_far place ran h =
    run-folds_on ts place ran (λ after. so_far && agree (moves before after) (is_end ts))
    (λ after. run-folds ts (Some after) (so_far && agree (moves before after) (is_end ts)) (place + 1) ran)
    (step_title before t) h

run-stops_on : (ts : List Transaction) (place : ℕ) (at : FoldAt) (next : Title → Bool)
    → ((after : Title) → run ts (Some after) (next after) (place + 1) ≡ stopped at
    → fold_from ts (Some after) (place + 1) ≡ refused at)
    → (step : Result Title FoldRefusal)
    → after_step place (λ after. run ts (Some after) (next after) (place + 1)) step ≡ stopped at
    → goes_on place (λ after. fold_from ts (Some after) (place + 1)) step ≡ refused at
run-stops_on ts place at next further (Err rule) h =
    let here : record { place = place; rule = rule } ≡ at = cc in
    ap refused here
run-stops_on ts place at next further (Ok after) h = further after h

-- a run that stops is a fold that stops there
pub run-stops : (ts : List Transaction) (before : Option Title) (so_far : Bool) (place : ℕ) (at : FoldAt)
    → run ts before so_far place ≡ stopped at → fold_from ts before place ≡ refused at
run-stops [] before so_far place at h = cc
run-stops (t ∷ ts) before so_far place at h =
    run-stops_on ts place at (λ after. so_far && agree (moves before after) (is_end ts))
    (λ after. run-stops ts (Some after) (so_far && agree (moves before after) (is_end ts)) (place + 1) at)
    (step_title before t) h

-- ---- what moves

-- the last of them alone moves, if there are any
abbrev EndsRight : List Transaction → Option Title → Type 0
EndsRight [] before = Unit {0}
EndsRight (t ∷ ts) before = MovesAtItsEnd before (t ∷ ts)

agree-same : (a b : Bool) → agree a b ≡ true → a ≡ b
agree-same true true h = refl
agree-same true false h = cc
agree-same false true h = cc
agree-same false false h = refl

-- one transaction, and those behind it
EndsRight-cons : (t : Transaction) (ts : List Transaction) (before : Option Title) (after : Title)
    → step_title before t ≡ Ok after → moves before after ≡ is_end ts → EndsRight ts (Some after)
    → MovesAtItsEnd before (t ∷ ts)
EndsRight-cons t [] before after steps here behind =
    record {
      front = [];
      last = t;
      parts = refl;
      between = before;
      stays = refl;
      after = after;
      allowed = steps;
      moved = here;
    }
EndsRight-cons t (u ∷ us) before after steps here behind =
    record {
      front = t ∷ behind.front;
      last = behind.last;
      parts = ap (λ xs. t ∷ xs) behind.parts;
      between = behind.between;
      stays = (after, steps, here, behind.stays);
      after = behind.after;
      allowed = behind.allowed;
      moved = behind.moved;
    }

run-ends_on : (t : Transaction) (ts : List Transaction) (before : Option Title) (so_far : Bool) (place : ℕ) (ran : Replayed)
    → ((after : Title) (b : Bool) → run ts (Some after) b (place + 1) ≡ ran_to ran
    → (b ≡ true) × EndsRight ts (Some after))
    → (step : Result Title FoldRefusal) → step_title before t ≡ step
    → after_step place (λ after. run ts (Some after) (so_far && agree (moves before after) (is_end ts)) (place + 1)) step
    ≡ ran_to ran → (so_far ≡ true) × MovesAtItsEnd before (t ∷ ts)
run-ends_on t ts before so_far place ran further (Err rule) steps h = cc
run-ends_on t ts before so_far place ran further (Ok after) steps h =
    let right = further after (so_far && agree (moves before after) (is_end ts)) h in
    let parts = and_parts so_far (agree (moves before after) (is_end ts)) right.0 in
    (parts.0, EndsRight-cons t ts before after steps (agree-same (moves before after) (is_end ts) parts.1) right.1)

-- what a run to the end found right
pub run-ends : (ts : List Transaction) (before : Option Title) (so_far : Bool) (place : ℕ) (ran : Replayed)
    → run ts before so_far place ≡ ran_to ran → ran.moves_last ≡ true → (so_far ≡ true) × EndsRight ts before
run-ends [] before so_far place ran h right = (ap (λ (r : Result Replayed FoldAt). found r) h ∙ right, tt)
  where
    found : Result Replayed FoldAt → Bool
    found (Ok r) = r.moves_last
    found (Err at) = false
run-ends (t ∷ ts) before so_far place ran h right =
    run-ends_on t ts before so_far place ran
    (λ after b further. run-ends ts (Some after) b (place + 1) ran further right) (step_title before t) refl h

-- something follows
more_follows : (front : List Transaction) (last : Transaction) → is_end (front ++ last ∷ []) ≡ false
more_follows [] last = refl
more_follows (t ∷ front) last = refl

-- a run over transactions of which the last alone moves finds them right
stays-run : (front : List Transaction) (last : Transaction) (before between : Option Title) (after : Title) (place : ℕ)
    → Stays before front between → step_title between last ≡ Ok after → moves between after ≡ true
    → run (front ++ last ∷ []) before true place ≡ ran_to (record { title = Some after; moves_last = true })
stays-run [] last before between after place stays taken moved =
    let steps : step_title before last ≡ Ok after = ap (λ b. step_title b last) (sym stays) ∙ taken in
    let here : moves before after ≡ true = ap (λ b. moves b after) (sym stays) ∙ moved in
    ap (after_step place (λ x. run [] (Some x) (true && agree (moves before x) true) (place + 1))) steps
    ∙ ap (λ b. ran_to (record { title = Some after; moves_last = agree b true })) here
stays-run (t ∷ front) last before between after place stays taken moved =
    let rest = front ++ last ∷ [] in
    ap (after_step place (λ x. run rest (Some x) (true && agree (moves before x) (is_end rest)) (place + 1))) stays.1
    ∙ ap (λ b. run rest (Some stays.0) (agree b (is_end rest)) (place + 1)) stays.2
    ∙ ap (λ b. run rest (Some stays.0) (agree false b) (place + 1)) (more_follows front last)
    ∙ stays-run front last (Some stays.0) between after (place + 1) stays.3 taken moved

pub ends-run : (ts : List Transaction) (before : Option Title) (place : ℕ) (ends : MovesAtItsEnd before ts)
    → run ts before true place ≡ ran_to (record { title = Some ends.after; moves_last = true })
ends-run ts before place ends =
    ap (λ xs. run xs before true place) ends.parts
    ∙ stays-run ends.front ends.last before ends.between ends.after place ends.stays ends.allowed ends.moved

-- ---- as a loop goes on

-- the run over what is left is the run over all, and this is how far it came
pub record RunsOn (all : List Transaction) (before : Option Title) (rest : List Transaction) (title : Option Title)
    (so_far : Bool) (place : ℕ) : Type 0 where
  pub same : run rest title so_far place ≡ run all before true 0
  pub far : place + length rest ≡ length all
