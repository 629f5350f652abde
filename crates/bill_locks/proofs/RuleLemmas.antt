-- The whole rule after a step of one seat: on one value's word, on the last word, or on views alone.
use Rattle.std.proofs.Common.{◌≡◌, ◌≢◌, ℕ, zero, suc, ◌<◌, ◌≤◌, Bool, true, false, List, [], length, set, get_or, refl, sym, ap, subst, ◌∙◌, arith, length-set, get_or-set_same, get_or-set_other}
use Rattle.std.specs.Prelude.{Option}
use Rattle.std.proofs.lemmas.List.{map-set}
use mathlib.Core.Option as maybe
use mathlib.Core.Option.{some, none}
use mathlib.Core.Logic.{dite}
use native.Mathlib.Decide.{ℕ_discrete}
use lib.ListN.{get_elem?}
use Rattle.atomic_table.specs.Table.{State}
use Rattle.atomic_table.proofs.Lists.{at_map, set_again}
use Rattle.bill_locks.specs.declared.view.Mark.{Mark}
use Rattle.bill_locks.specs.declared.view.Opened.{Opened}
use Rattle.bill_locks.specs.declared.view.View.{View}
use Rattle.bill_locks.specs.View.{look, mark_at, unopened, knows_of_another}
use Rattle.bill_locks.specs.Rule.{total, column, Stands, IsOut, Passes, Turning}
use Rattle.bill_locks.proofs.Totals.{at_one, at_map_back, total_two}
use Rattle.bill_locks.proofs.Marks.{look_nothing}

module _ {F X : Type 0} where
  pub column_at : (k : ℕ) (views : List (View F X)) (i : ℕ) (v : View F X) → get_elem? views i ≡ some v
      → get_elem? (column k views) i ≡ some (mark_at k v)
  column_at k views i v at = at_map (mark_at k) views i v at

  pub column-set : (k : ℕ) (views : List (View F X)) (i : ℕ) (w : View F X)
      → column k (set views i w) ≡ set (column k views) i (mark_at k w)
  column-set k views i w = map-set (mark_at k) views i w

  -- a view that is changed, and not at k
  pub column_same : (k : ℕ) (views : List (View F X)) (i : ℕ) (v w : View F X) → get_elem? views i ≡ some v
      → mark_at k w ≡ mark_at k v
      → column k (set views i w) ≡ column k views
  column_same k views i v w at same = column-set k views i w
      ∙ (ap (λ (m : Mark F). set (column k views) i m) same
      ∙ set_again (column k views) i (mark_at k v) (column_at k views i v at))

  -- a pass that has a turn stands for passes
  pub holder_stands : (os : List (Opened X)) (n k : ℕ) (views : List (View F X)) (i : ℕ) (v : View F X) → Passes os n views
      → get_elem? views i ≡ some v
      → (mark_at k v).held ≡ true → 0 < v.stands
  holder_stands os n k views i v h at holds = by_count v.stands refl
    where
      by_count : (c : ℕ) → v.stands ≡ c → 0 < v.stands
      by_count zero e =
          let none_there : v.marks ≡ [] = (h.empty i v at e).0 in
          let f : (mark_at k v).held ≡ false = ap (λ (l : List (Mark F)). (look k l).held) none_there
          ∙ ap (λ (m : Mark F). m.held) (look_nothing k) in
          let c = sym holds ∙ f in cc
      by_count (suc c) e = omega arith

  -- where another pass has a turn, a pass can know of one more than it stands for
  pub another_is_out : (os : List (Opened X)) (n k : ℕ) (views : List (View F X)) (i h : ℕ) (v : View F X) (m : Mark F)
      → Passes os n views
      → get_elem? views i ≡ some v → (mark_at k v).held ≡ false → get_elem? (column k views) h ≡ some m → m.held ≡ true
      → (knows_of_another v).known ≤ total (λ (u : View F X). u.stands) views
  another_is_out os n k views i h v m p at idle there holds =
      let back = at_map_back (mark_at k) views h m there in
      let u : View F X = back.0 in
      let held : (mark_at k u).held ≡ true = ap (λ (x : Mark F). x.held) back.2 ∙ holds in
      let some_passes = holder_stands os n k views h u p back.1 held in
      let other : i ≢ h = λ e.
      let same : v ≡ u = at_one views h v u (subst (λ (j : ℕ). get_elem? views j ≡ some v) e at) back.1 in
      let f : (mark_at k u).held ≡ false = ap (λ (x : View F X). (mark_at k x).held) (sym same) ∙ idle in
      let c = sym held ∙ f in cc in
      let two = total_two (λ (x : View F X). x.stands) views i h v u at back.1 other in
      let known = p.known i v at in omega arith

module _ {T F X : Type 0} (fixed : T → X) (list : T → List F) (loose : T → Bool) (disk ring : T → ℕ) (os : List (Opened X)) where
  -- the pass that has the turn is the one that says so
  pub holder_is : (o : Opened X) (n : ℕ) (place : maybe.Option (maybe.Option (Option T))) (ms : List (Mark F)) (h i : ℕ)
      (m a : Mark F)
      → IsOut fixed list loose disk ring o n place ms h m → get_elem? ms i ≡ some a → a.held ≡ true
      → IsOut fixed list loose disk ring o n place ms i a
  holder_is o n place ms h i m a out at holds = dite (ℕ_discrete i h)
      (λ e. let same : m ≡ a = at_one ms i m a (subst (λ (j : ℕ). get_elem? ms j ≡ some m) (sym e) out.seat) at in
      subst (λ (z : Mark F). IsOut fixed list loose disk ring o n place ms i z) same
      (subst (λ (j : ℕ). IsOut fixed list loose disk ring o n place ms j m) (sym e) out))
      (λ ne. let f = out.only i a at ne in let c = sym holds ∙ f in absurd (cc))

  pub turn_step : (s : State (Option T) (View F X)) (k n' i : ℕ) (v w : View F X) (homes' : List (maybe.Option (Option T)))
      → Turning fixed list loose disk ring os s → k < length s.homes → get_elem? s.views i ≡ some v
      → length homes' ≡ length s.homes → ((j : ℕ) → j ≢ k → get_elem? homes' j ≡ get_elem? s.homes j)
      → ((j : ℕ) → j ≢ k → mark_at j w ≡ mark_at j v)
      → Stands fixed list loose disk ring (get_or os k unopened) n' (get_elem? homes' k)
      (set (column k s.views) i (mark_at k w))
      → Passes os (get_or s.words (length s.homes) 0) (set s.views i w)
      → Turning fixed list loose disk ring os record { words = set s.words k n'; homes = homes'; views = set s.views i w }
  turn_step s k n' i v w homes' rule inside at long others same turn passes = record {
    sized = let a = rule.sized in let b = length-set s.words k n' in omega arith;
    turns = λ j lt. dite (ℕ_discrete j k)
        (λ e. subst (λ (c : ℕ). Stands fixed list loose disk ring (get_or os c unopened) (get_or (set s.words k n') c 0)
        (get_elem? homes' c) (column c (set s.views i w))) (sym e)
        (subst (λ (n : ℕ). Stands fixed list loose disk ring (get_or os k unopened) n (get_elem? homes' k)
        (column k (set s.views i w)))
        (sym (get_or-set_same s.words k n' 0 (let a = rule.sized in omega arith)))
        (subst (λ (c : List (Mark F)). Stands fixed list loose disk ring (get_or os k unopened) n' (get_elem? homes' k) c)
        (sym (column-set k s.views i w)) turn)))
        (λ ne. subst (λ (n : ℕ). Stands fixed list loose disk ring (get_or os j unopened) n (get_elem? homes' j)
        (column j (set s.views i w)))
        (sym (get_or-set_other s.words k j n' 0 ne))
        (subst (λ (p : maybe.Option (maybe.Option (Option T))). Stands fixed list loose disk ring (get_or os j unopened)
        (get_or s.words j 0) p (column j (set s.views i w))) (sym (others j ne))
        (subst (λ (c : List (Mark F)). Stands fixed list loose disk ring (get_or os j unopened) (get_or s.words j 0)
        (get_elem? s.homes j) c)
        (sym (column_same j s.views i v w at (same j ne))) (rule.turns j (omega arith)))));
    passes = subst (λ (n : ℕ). Passes os n (set s.views i w))
        (sym (ap (λ (l : ℕ). get_or (set s.words k n') l 0) long
        ∙ get_or-set_other s.words k (length s.homes) n' 0 (λ e. omega arith))) passes;
  }

  pub last_step : (s : State (Option T) (View F X)) (n' i : ℕ) (v w : View F X)
      → Turning fixed list loose disk ring os s → get_elem? s.views i ≡ some v → ((j : ℕ) → mark_at j w ≡ mark_at j v)
      → Passes os n' (set s.views i w)
      → Turning fixed list loose disk ring os record
      { words = set s.words (length s.homes) n'; homes = s.homes; views = set s.views i w }
  last_step s n' i v w rule at same passes = record {
    sized = length-set s.words (length s.homes) n' ∙ rule.sized;
    turns = λ j lt. subst
        (λ (n : ℕ). Stands fixed list loose disk ring (get_or os j unopened) n (get_elem? s.homes j)
        (column j (set s.views i w)))
        (sym (get_or-set_other s.words (length s.homes) j n' 0 (λ e. omega arith)))
        (subst (λ (c : List (Mark F)). Stands fixed list loose disk ring (get_or os j unopened) (get_or s.words j 0)
        (get_elem? s.homes j) c)
        (sym (column_same j s.views i v w at (same j))) (rule.turns j lt));
    passes = subst (λ (n : ℕ). Passes os n (set s.views i w))
        (sym (get_or-set_same s.words (length s.homes) n' 0 (let a = rule.sized in omega arith))) passes;
  }
