-- The passes' own part of the rule: what a step of one seat leaves of it.
use Rattle.std.proofs.Common.{◌≡◌, ◌≢◌, ℕ, ◌+◌, ◌-◌, ◌<◌, ◌≤◌, ◌⊎◌, true, false, max, List, [], ◌∷◌, ◌++◌, set, refl, sym, ap, subst, ◌∙◌, inl, inr, ⊎_elim, arith}
use mathlib.Core.Option.{some}
use lib.ListN.{get_elem?}
use Rattle.atomic_table.proofs.Lists.{at_set, at_snoc, set_else}
use Rattle.bill_locks.specs.declared.view.Opened.{Opened}
use Rattle.bill_locks.specs.declared.view.View.{View}
use Rattle.bill_locks.specs.View.{counted, left_of, right_of, both_views, spent}
use Rattle.bill_locks.specs.Rule.{total, Passes}
use Rattle.bill_locks.proofs.Totals.{total_one, total_set, total_snoc, total_two, total_same}

module _ {F X : Type 0} (os : List (Opened X)) where
  abbrev pub stands_of : View F X → ℕ
  stands_of v = v.stands

  abbrev pub share_of : View F X → ℕ
  share_of v = v.share

  -- one pass is changed, and stands for as many passes as before
  pub set_passes : (n n' : ℕ) (views : List (View F X)) (i : ℕ) (v w : View F X) → Passes os n views
      → get_elem? views i ≡ some v → n' ≡ n
      → 0 < v.stands → w.stands ≡ v.stands → w.opened ≡ v.opened → w.share ≡ v.share
      → w.known ≤ total stands_of views
      → (w.alone ≡ true → total stands_of views ≡ w.stands) → Passes os n' (set views i w)
  set_passes n n' views i v w h at word some_passes same opened share known alone =
      let sum : total stands_of (set views i w) ≡ total stands_of views = total_same stands_of views i v w at same in
      record {
        word_is = let a = h.word_is in omega arith;
        known = λ j x g. subst (λ (t : ℕ). x.known ≤ t) (sym sum) (⊎_elim
            (λ e. subst (λ (y : View F X). y.known ≤ total stands_of views) e.1 known) (λ e. h.known j x e.1)
            (at_set views i j w x g));
        empty = λ j x g. ⊎_elim
            (λ e z. let e1 : w.stands ≡ x.stands = ap stands_of e.1 in absurd (omega arith)) (λ e. h.empty j x e.1)
            (at_set views i j w x g);
        shares = total_same share_of views i v w at share ∙ h.shares;
        alone = λ j x g. subst (λ (t : ℕ). x.alone ≡ true → t ≡ x.stands) (sym sum) (⊎_elim
            (λ e. subst (λ (y : View F X). y.alone ≡ true → total stands_of views ≡ y.stands) e.1 alone)
            (λ e. h.alone j x e.1) (at_set views i j w x g));
        opened = λ j x g. ⊎_elim
            (λ e z. ap (λ (y : View F X). y.opened) (sym e.1) ∙ (opened ∙ h.opened i v at some_passes))
            (λ e. h.opened j x e.1) (at_set views i j w x g);
      }

  -- one pass more is counted
  pub counted_passes : (n : ℕ) (views : List (View F X)) (i : ℕ) (v : View F X) → Passes os n views
      → get_elem? views i ≡ some v
      → 0 < v.stands → v.alone ≡ false → Passes os (n + 1) (set views i (counted v))
  counted_passes n views i v h at some_passes not_alone =
      let w : View F X = counted v in
      let sum : total stands_of (set views i w) ≡ total stands_of views + 1 =
      (let r = total_set stands_of views i v w at in omega arith) in record {
        word_is = let a = h.word_is in omega arith;
        known = λ j x g. ⊎_elim
            (λ e. let k = h.known i v at in let s = sum in
            let mine = total_one stands_of views i v at in
            let e1 : max v.known v.stands + 1 ≡ x.known = ap (λ (y : View F X). y.known) e.1 in omega arith)
            (λ e. let k = h.known j x e.1 in let s = sum in omega arith) (at_set views i j w x g);
        empty = λ j x g. ⊎_elim
            (λ e z. let e1 : v.stands + 1 ≡ x.stands = ap stands_of e.1 in absurd (omega arith)) (λ e. h.empty j x e.1)
            (at_set views i j w x g);
        shares = total_same share_of views i v w at refl ∙ h.shares;
        alone = λ j x g is. ⊎_elim
            (λ e. let f : x.alone ≡ false = ap (λ (y : View F X). y.alone) (sym e.1) ∙ not_alone in let c = sym is ∙ f in
            cc)
            (λ e. let a = h.alone j x e.1 is in
            let two = total_two stands_of views i j v x at e.1 (λ c. e.0 (sym c)) in absurd (omega arith))
            (at_set views i j w x g);
        opened = λ j x g. ⊎_elim
            (λ e z. ap (λ (y : View F X). y.opened) (sym e.1) ∙ h.opened i v at some_passes) (λ e. h.opened j x e.1)
            (at_set views i j w x g);
      }

  -- a pass is cut off from one that stands for two at least
  pub split_passes : (n : ℕ) (views : List (View F X)) (i : ℕ) (v : View F X) → Passes os n views
      → get_elem? views i ≡ some v
      → 1 < v.stands → v.alone ≡ false → Passes os n (set views i (left_of v) ++ right_of v ∷ [])
  split_passes n views i v h at two not_alone =
      let l : View F X = left_of v in
      let r : View F X = right_of v in
      let ls : List (View F X) = set views i l in
      let sum : total stands_of (ls ++ r ∷ []) ≡ total stands_of views =
      (let a = total_snoc stands_of ls r in let b = total_set stands_of views i v l at in omega arith) in
      let cases : (j : ℕ) (x : View F X) → get_elem? (ls ++ r ∷ []) j ≡ some x
      → (r ≡ x) ⊎ ((l ≡ x) ⊎ (get_elem? views j ≡ some x)) =
      λ j x g. ⊎_elim (λ e. inr (⊎_elim (λ f. inl f.1) (λ f. inr f.1) (at_set views i j l x e))) (λ e. inl e)
      (at_snoc ls r x j g) in record {
        word_is = let a = h.word_is in let s = sum in omega arith;
        known = λ j x g. subst (λ (t : ℕ). x.known ≤ t) (sym sum) (⊎_elim
            (λ e. subst (λ (y : View F X). y.known ≤ total stands_of views) e (h.known i v at))
            (⊎_elim (λ e. subst (λ (y : View F X). y.known ≤ total stands_of views) e (h.known i v at))
            (λ e. h.known j x e)) (cases j x g));
        empty = λ j x g. ⊎_elim
            (λ e z. let e1 : 1 ≡ x.stands = ap stands_of e in absurd (omega arith))
            (⊎_elim (λ e z. let e1 : v.stands - 1 ≡ x.stands = ap stands_of e in absurd (omega arith))
            (λ e. h.empty j x e)) (cases j x g);
        shares = (let a = total_snoc share_of ls r in let b = total_set share_of views i v l at in
            let all = h.shares in omega arith);
        alone = λ j x g. subst (λ (t : ℕ). x.alone ≡ true → t ≡ x.stands) (sym sum) (⊎_elim
            (λ e is. let f : x.alone ≡ false = ap (λ (y : View F X). y.alone) (sym e) in let c = sym is ∙ f in cc)
            (⊎_elim (λ e is. let f : x.alone ≡ false = ap (λ (y : View F X). y.alone) (sym e) ∙ not_alone in
            let c = sym is ∙ f in cc) (λ e. h.alone j x e)) (cases j x g));
        opened = λ j x g. let v_opened = h.opened i v at (omega arith) in ⊎_elim
            (λ e z. ap (λ (y : View F X). y.opened) (sym e) ∙ v_opened)
            (⊎_elim (λ e z. ap (λ (y : View F X). y.opened) (sym e) ∙ v_opened) (λ e. h.opened j x e)) (cases j x g);
      }

  -- a pass is joined to another
  pub joined_passes : (n : ℕ) (views : List (View F X)) (i j : ℕ) (v w : View F X) → Passes os n views
      → get_elem? views i ≡ some v
      → j ≢ i → get_elem? views j ≡ some w → 0 < v.stands → Passes os n (set (set views i (both_views v w)) j spent)
  joined_passes n views i j v w h at apart there some_passes =
      let b : View F X = both_views v w in
      let bs : List (View F X) = set views i b in
      let there' : get_elem? bs j ≡ some w = set_else views i j b apart ∙ there in
      let sum : total stands_of (set bs j spent) ≡ total stands_of views =
      (let p = total_set stands_of bs j w spent there' in let q = total_set stands_of views i v b at in omega arith) in
      let cases : (k : ℕ) (x : View F X) → get_elem? (set bs j spent) k ≡ some x
      → (spent ≡ x) ⊎ ((b ≡ x) ⊎ (get_elem? views k ≡ some x)) =
      λ k x g. ⊎_elim (λ e. inl e.1) (λ e. inr (⊎_elim (λ f. inl f.1) (λ f. inr f.1) (at_set views i k b x e.1)))
      (at_set bs j k spent x g) in
      let known_both : b.known ≤ total stands_of views =
      (let p = h.known i v at in let q = h.known j w there in omega arith) in record {
        word_is = let a = h.word_is in let s = sum in omega arith;
        known = λ k x g. subst (λ (t : ℕ). x.known ≤ t) (sym sum) (⊎_elim
            (λ e. let e1 : 0 ≡ x.known = ap (λ (y : View F X). y.known) e in omega arith)
            (⊎_elim (λ e. subst (λ (y : View F X). y.known ≤ total stands_of views) e known_both) (λ e. h.known k x e))
            (cases k x g));
        empty = λ k x g. ⊎_elim
            (λ e z. (ap (λ (y : View F X). y.marks) (sym e), ap share_of (sym e)))
            (⊎_elim (λ e z. let e1 : v.stands + w.stands ≡ x.stands = ap stands_of e in absurd (omega arith))
            (λ e. h.empty k x e)) (cases k x g);
        shares = (let p = total_set share_of bs j w spent there' in let q = total_set share_of views i v b at in
            let all = h.shares in omega arith);
        alone = λ k x g. subst (λ (t : ℕ). x.alone ≡ true → t ≡ x.stands) (sym sum) (⊎_elim
            (λ e is. let f : x.alone ≡ false = ap (λ (y : View F X). y.alone) (sym e) in let c = sym is ∙ f in cc)
            (⊎_elim (λ e is. let f : x.alone ≡ false = ap (λ (y : View F X). y.alone) (sym e) in let c = sym is ∙ f in
            cc) (λ e. h.alone k x e)) (cases k x g));
        opened = λ k x g. ⊎_elim
            (λ e z. let e1 : 0 ≡ x.stands = ap stands_of e in absurd (omega arith))
            (⊎_elim (λ e z. ap (λ (y : View F X). y.opened) (sym e) ∙ h.opened i v at some_passes) (λ e. h.opened k x e))
            (cases k x g);
      }
