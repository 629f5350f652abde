-- A pass that is idle stays so, and what a turn makes of it.
use Rattle.std.proofs.Common.{◌≡◌, ℕ, ◌<◌, Bool, true, false, List, length, take, refl, sym, ap, subst, ◌∙◌, ⊎_elim, arith}
use mathlib.Core.List.{IsPrefix}
use mathlib.Core.Logic.{dite}
use native.Mathlib.Decide.{ℕ_discrete}
use Rattle.bill_locks.specs.declared.view.Mark.{Mark}
use Rattle.bill_locks.specs.declared.view.Opened.{Opened}
use Rattle.bill_locks.specs.declared.view.View.{View}
use Rattle.bill_locks.specs.declared.job.Told.{Told}
use Rattle.bill_locks.specs.View.{fresh, first_view, both_marks, mark_at, with_mark, knows_of_another, counted, left_of, right_of, both_views}
use Rattle.bill_locks.specs.Pass.{IsIdle}
use Rattle.bill_locks.specs.Steps.{held_mark, after_turn, with_front, Grown, IsJoined}
use Rattle.bill_locks.specs.Turn.{Turned, JoinsMarks}
use Rattle.bill_locks.proofs.Prefixes.{prefix_trans, prefix_length, prefix_take, longer_one, first_begins, second_begins}
use Rattle.bill_locks.proofs.Totals.{times-append}
use Rattle.bill_locks.proofs.Marks.{look_here, look_else, look_map, look_merged, look_nothing, put_put}

module _ {F X : Type 0} where
  pub idle_of : (v w : View F X) → w ≡ v → IsIdle v → IsIdle w
  idle_of v w e h = subst (λ (u : View F X). IsIdle u) (sym e) h

  pub idle_with : (k : ℕ) (m : Mark F) (v : View F X) → m.held ≡ false → IsIdle v → IsIdle (with_mark k m v)
  idle_with k m v free h = record {
    no_turn = λ j. dite (ℕ_discrete j k)
        (λ e. ap (λ (i : ℕ). (mark_at i (with_mark k m v)).held) e
        ∙ (ap (λ (x : Mark F). x.held) (look_here k m v.marks) ∙ free))
        (λ ne. ap (λ (x : Mark F). x.held) (look_else j k m v.marks ne) ∙ h.no_turn j);
    is_out = h.is_out;
    not_alone = h.not_alone;
  }

  pub idle_right : (v : View F X) → IsIdle (right_of v)
  idle_right v = record {
    no_turn = λ k. ap (λ (m : Mark F). m.held) (look_map fresh refl k v.marks);
    is_out = omega arith;
    not_alone = refl;
  }

  pub idle_both : (v w : View F X) → IsIdle v → IsIdle (both_views v w)
  idle_both v w h = record {
    no_turn = λ k. ap (λ (m : Mark F). m.held) (look_merged k v.marks w.marks) ∙ h.no_turn k;
    is_out = (let a = h.is_out in omega arith);
    not_alone = refl;
  }

module _ {T F X : Type 0} (fixed : T → X) (list : T → List F) (loose : T → Bool) (disk ring : T → ℕ) (k : ℕ) (v : View F X) (x : T) where
  -- the view while the turn is with its pass
  abbrev pub holding : View F X
  holding = with_mark k (held_mark fixed list loose disk ring (mark_at k v) x) v

  pub holding_mark : mark_at k holding ≡ held_mark fixed list loose disk ring (mark_at k v) x
  holding_mark = look_here k (held_mark fixed list loose disk ring (mark_at k v) x) v.marks

  module _ (t : Told) (y : T) where
    -- the view after it
    abbrev pub given : View F X
    given = with_mark k (after_turn (mark_at k holding) (list y) t) holding

    given_is : given ≡ with_mark k (after_turn (mark_at k v) (list y) t) v
    given_is = ap (λ (m : Mark F). with_mark k (after_turn m (list y) t) holding) holding_mark
        ∙ ap (λ (l : List (Mark F)). record v { marks = l })
        (put_put k (after_turn (mark_at k v) (list y) t) (held_mark fixed list loose disk ring (mark_at k v) x) v.marks)

    pub given_front : (mark_at k given).front ≡ list y
    given_front = ap (λ (m : Mark F). m.front) (look_here k (after_turn (mark_at k holding) (list y) t) holding.marks)

    pub given_idle : IsIdle v → IsIdle given
    given_idle h = idle_of (with_mark k (after_turn (mark_at k v) (list y) t) v) given given_is
        (idle_with k (after_turn (mark_at k v) (list y) t) v refl h)

    pub turned_by : IsPrefix (mark_at k v).front (list x)
        → Grown list loose disk ring (held_mark fixed list loose disk ring (mark_at k v) x) t y → Turned k t v given
    turned_by seen g = record {
      changes = given_is ∙ ap (λ (xs : List F). with_mark k (after_turn (mark_at k v) xs t) v) (sym given_front);
      begins = subst (λ (xs : List F). IsPrefix (mark_at k v).front (take t.before xs)) (sym given_front)
          (prefix_take (mark_at k v).front (list y) t.before
          (prefix_trans (mark_at k v).front (list x) (list y) seen g.grows)
          (let a = prefix_length (mark_at k v).front (list x) seen in
          ⊎_elim (λ e. omega arith) (λ e. let e0 = e.0 in omega arith) g.before));
      one = g.one;
      count = ap length given_front ∙ sym g.after;
    }

    pub seen_by : IsPrefix (mark_at k v).front (list x)
        → Grown list loose disk ring (held_mark fixed list loose disk ring (mark_at k v) x) t y
        → IsPrefix (mark_at k v).front (mark_at k given).front
    seen_by seen g = subst (λ (xs : List F). IsPrefix (mark_at k v).front xs) (sym given_front)
        (prefix_trans (mark_at k v).front (list x) (list y) seen g.grows)

module _ {F X : Type 0} (k : ℕ) (v w : View F X) (xs : List F) (e : w ≡ with_mark k (with_front xs (mark_at k v)) v) where
  -- a look leaves the front that it saw
  pub looked_front : (mark_at k w).front ≡ xs
  looked_front = ap (λ (u : View F X). (mark_at k u).front) e
      ∙ ap (λ (m : Mark F). m.front) (look_here k (with_front xs (mark_at k v)) v.marks)

  pub looked_changes : w ≡ with_mark k (with_front (mark_at k w).front (mark_at k v)) v
  looked_changes = e ∙ ap (λ (l : List F). with_mark k (with_front l (mark_at k v)) v) (sym looked_front)

  pub looked_seen : IsPrefix (mark_at k v).front xs → IsPrefix (mark_at k v).front (mark_at k w).front
  looked_seen p = subst (λ (l : List F). IsPrefix (mark_at k v).front l) (sym looked_front) p

  pub looked_idle : IsIdle v → IsIdle w
  looked_idle h = idle_of (with_mark k (with_front xs (mark_at k v)) v) w e
      (idle_with k (with_front xs (mark_at k v)) v (h.no_turn k) h)

module _ {T F X : Type 0} (fixed : T → X) (list : T → List F) (loose : T → Bool) (disk ring : T → ℕ) (k : ℕ) (v : View F X) (x : T)
    (t : Told) (y : T) where
  -- what a view is after a turn
  pub record TurnResult (w : View F X) : Type 0 where
    pub turned : Turned k t v w
    pub seen : IsPrefix (mark_at k v).front (mark_at k w).front
    pub front : (mark_at k w).front ≡ list y
    pub idle : IsIdle v → IsIdle w

  pub turn_result : (held w : View F X) → held ≡ holding fixed list loose disk ring k v x
      → w ≡ with_mark k (after_turn (mark_at k held) (list y) t) held
      → IsPrefix (mark_at k v).front (list x)
      → Grown list loose disk ring (held_mark fixed list loose disk ring (mark_at k v) x) t y
      → TurnResult w
  turn_result held w eh ew seen g =
      let e : w ≡ given fixed list loose disk ring k v x t y = ew
      ∙ ap (λ (u : View F X). with_mark k (after_turn (mark_at k u) (list y) t) u) eh in
      subst (λ (u : View F X). TurnResult u) (sym e) record {
        turned = turned_by fixed list loose disk ring k v x t y seen g;
        seen = seen_by fixed list loose disk ring k v x t y seen g;
        front = given_front fixed list loose disk ring k v x t y;
        idle = given_idle fixed list loose disk ring k v x t y;
      }

  pub held_grown : (held : View F X) (told : Told) → held ≡ holding fixed list loose disk ring k v x → told ≡ t
      → Grown list loose disk ring (held_mark fixed list loose disk ring (mark_at k v) x) t y
      → Grown list loose disk ring (mark_at k held) told y
  held_grown held told eh et g = subst (λ (s : Told). Grown list loose disk ring (mark_at k held) s y) (sym et)
      (subst (λ (m : Mark F). Grown list loose disk ring m t y)
      (sym (ap (λ (u : View F X). mark_at k u) eh ∙ holding_mark fixed list loose disk ring k v x)) g)

-- what a join leaves of two marks
joins_both : {F : Type 0} (a b : Mark F) → IsJoined (both_marks a b) → JoinsMarks a b (both_marks a b)
joins_both a b j = record {
  longer = longer_one a.front b.front;
  first = first_begins a.front b.front j.front;
  second = second_begins a.front b.front j.front;
  numbers = refl;
  apart = λ p. (let o = j.once p in let s = times-append p a.numbers b.numbers in omega arith);
  failed = refl;
  unsigned = refl;
}

pub joins_marks : {F X : Type 0} (k : ℕ) (v w u : View F X) → u ≡ both_views v w → IsJoined (mark_at k u)
    → JoinsMarks (mark_at k v) (mark_at k w) (mark_at k u)
joins_marks {F} {X} k v w u e j =
    let same : mark_at k u ≡ both_marks (mark_at k v) (mark_at k w) = ap (λ (x : View F X). mark_at k x) e
    ∙ look_merged k v.marks w.marks in
    subst (λ (m : Mark F). JoinsMarks (mark_at k v) (mark_at k w) m) (sym same)
    (joins_both (mark_at k v) (mark_at k w) (subst (λ (m : Mark F). IsJoined m) same j))

pub idle_first : {F X : Type 0} (os : List (Opened X)) → IsIdle (first_view {F = F} os)
idle_first {F} os =
    record { no_turn = λ k. ap (λ (m : Mark F). m.held) (look_nothing k); is_out = omega arith; not_alone = refl }

pub idle_closing : {F X : Type 0} (u v : View F X) → v ≡ record u { alone = true } → IsIdle u
    → IsIdle (record v { alone = false })
idle_closing {F} {X} u v e h = subst (λ (x : View F X). IsIdle (record x { alone = false })) (sym e) record
    { no_turn = h.no_turn; is_out = h.is_out; not_alone = refl }
