-- Titles: whose turn it is after some transactions, and after one more.
use Rattle.std.proofs.Common.{◌≡◌, Bool, true, false, List, [], ◌∷◌, ◌++◌, refl, sym, ap, subst, ◌∙◌}
use Rattle.std.specs.Prelude.{Option, Some, None, Ok, Err, not}
use Rattle.std.proofs.lemmas.List.{append-nil}
use Rattle.ebl_base.specs.declared.chain.ChainLink.{ChainLink}
use Rattle.ebl_base.specs.declared.kind.Kind.{Kind}
use Rattle.ebl_base.specs.declared.kind.Kind.TheVariants.{Sign}
use Rattle.ebl_base.specs.declared.party.Party.{Party}
use Rattle.ebl_base.specs.declared.platform_code.PlatformCode.{PlatformCode}
use Rattle.ebl_base.specs.declared.transaction.Transaction.{Transaction}
use Rattle.ebl_base.specs.PlatformCode.{code_eq}
use Rattle.ebl_base.proofs.SameLemmas.{code_eq-Decides}
use Rattle.title_fold.specs.declared.title.Title.{Title}
use Rattle.title_fold.specs.declared.title.Title.TheVariants as titles
use Rattle.title_fold.specs.Title.{possessor}
use Rattle.title_fold.specs.Allowed.{Allows}
use Rattle.title_fold.specs.Step.{step_title}
use Rattle.title_fold.specs.Fold.{Folded, fold}
use Rattle.title_fold.specs.Movement.{moves}
use Rattle.bill_chain.specs.Chain.{transactions_of, platform_with, destination}
use Rattle.title_fold.proofs.StepLemmas.{allowed-step_title}
use Rattle.title_fold.proofs.FoldLemmas.{fold-push-allowed}
use Rattle.closed_family.proofs.Standing.{IsOn}

-- ---- a title on a platform

same_before : (ts : List Transaction) (before : Option Title) (title : Title)
    → fold ts ≡ Ok (Some title) → fold ts ≡ Ok before → before ≡ Some title
same_before ts before title a b = let both = sym b ∙ a in cc both

-- a SIGN by a party of the platform
pub on_sign : (me : PlatformCode) (t : Transaction) → t.kind ≡ Sign → t.recipient ≡ None → t.actor.platform ≡ me
    → IsOn me (t ∷ [])
on_sign me t kind recipient actor =
    let with_none : Allows None Sign t.actor t.recipient (titles.Signed t.actor)
    = subst (λ (r : Option Party). Allows None Sign t.actor r (titles.Signed t.actor)) (sym recipient) refl in
    let takes : Allows None t.kind t.actor t.recipient (titles.Signed t.actor)
    = subst (λ (k : Kind). Allows None k t.actor t.recipient (titles.Signed t.actor)) (sym kind) with_none in
    record {
      title = titles.Signed t.actor;
      folds = fold-push-allowed [] t None (titles.Signed t.actor) refl
          (allowed-step_title None t (titles.Signed t.actor) takes);
      on = actor;
    }

not_moved : (before after : Title) → moves (Some before) after ≡ false
    → (possessor before).platform ≡ (possessor after).platform
not_moved before after h =
    (code_eq-Decides (possessor before).platform (possessor after).platform).0
    (on_test (code_eq (possessor before).platform (possessor after).platform) h)
  where
    on_test : (b : Bool) → not b ≡ false → b ≡ true
    on_test true h = refl
    on_test false h = cc

-- a transaction more that doesn't move
pub on_more : (me : PlatformCode) (ts : List Transaction) (t : Transaction) (before : Option Title) (after : Title)
    → IsOn me ts → fold ts ≡ Ok before → step_title before t ≡ Ok after → moves before after ≡ false
    → IsOn me (ts ++ t ∷ [])
on_more me ts t before after on folds taken stays =
    let was : before ≡ Some on.title = same_before ts before on.title on.folds folds in
    let stayed = subst (λ (b : Option Title). moves b after ≡ false) was stays in
    record {
      title = after;
      folds = fold-push-allowed ts t before after folds taken;
      on = sym (not_moved on.title after stayed) ∙ on.on;
    }

-- where the next transaction moves to
pub record MovesTo (me : PlatformCode) (ts : List Transaction) : Type 0 where
  pub to : PlatformCode
  pub goes : platform_with (fold ts) ≡ Some to
  pub away : to ≡ me → ⊥

moved : (before after : Title) → moves (Some before) after ≡ true
    → (possessor before).platform ≡ (possessor after).platform → ⊥
moved before after h same =
    on_test (code_eq (possessor before).platform (possessor after).platform) h
    ((code_eq-Decides (possessor before).platform (possessor after).platform).1 same)
  where
    on_test : (b : Bool) → not b ≡ true → b ≡ true → ⊥
    on_test true h e = cc
    on_test false h e = cc

pub moves_away : (me : PlatformCode) (ts : List Transaction) (t : Transaction) (before : Option Title) (after : Title)
    → IsOn me ts → fold ts ≡ Ok before → step_title before t ≡ Ok after → moves before after ≡ true
    → MovesTo me (ts ++ t ∷ [])
moves_away me ts t before after on folds taken moving =
    let was : before ≡ Some on.title = same_before ts before on.title on.folds folds in
    let gone = subst (λ (b : Option Title). moves b after ≡ true) was moving in
    record {
      to = (possessor after).platform;
      goes = ap platform_with (fold-push-allowed ts t before after folds taken);
      away = λ (same : (possessor after).platform ≡ me). moved on.title after gone (on.on ∙ sym same);
    }

-- a chain that ends on this platform
pub on_destination : (me : PlatformCode) (c : List ChainLink) → destination c ≡ Some me → IsOn me (transactions_of c)
on_destination me c h = at (fold (transactions_of c)) refl h
  where
    at : (f : Folded) → fold (transactions_of c) ≡ f → platform_with f ≡ Some me → IsOn me (transactions_of c)
    at (Err e) folds h = cc
    at (Ok None) folds h = cc
    at (Ok (Some title)) folds h = record { title = title; folds = folds; on = cc h }

-- nothing made since
pub on_none_since : (me : PlatformCode) (ts : List Transaction) → IsOn me ts → IsOn me (ts ++ [])
on_none_since me ts on = subst (IsOn me) (sym (append-nil ts)) on
