-- What the steps of passes owe: counting, splitting and joining, and the loads of the last word.
use Rattle.std.proofs.Common.{◌≡◌, ◌≢◌, ℕ, eqb, eq-eqb, ne_eqb, ◌+◌, ◌<◌, ◌≤◌, Bool, true, false, max, List, [], ◌∷◌, ◌++◌, length, set, get_or, refl, sym, ap, subst, ◌∙◌, inl, inr, ⊎_elim, arith}
use Rattle.std.specs.Prelude.{Option}
use Rattle.std.proofs.lemmas.List.{map-append}
use mathlib.Core.Option as maybe
use mathlib.Core.Option.{some, none}
use mathlib.Core.Logic.{dite}
use native.Mathlib.Decide.{ℕ_discrete}
use prog.Atomic.{either}
use lib.ListN.{get_elem?}
use Rattle.atomic_table.specs.Table.{State, Me, step, Allows, Splits, Joins, keeps}
use Rattle.atomic_table.proofs.Lists.{set_else, set_again}
use Rattle.bill_locks.specs.declared.view.Mark.{Mark}
use Rattle.bill_locks.specs.declared.view.Opened.{Opened}
use Rattle.bill_locks.specs.declared.view.View.{View}
use Rattle.bill_locks.specs.View.{blank, fresh, both_marks, times, unopened, mark_at, counted, knows_of_another, left_of, right_of, both_views, spent}
use Rattle.bill_locks.specs.Rule.{total, Each, column, Stands, Passes, Turning}
use Rattle.bill_locks.specs.Steps.{Counted, Fitted, Settled}
use Rattle.bill_locks.proofs.Totals.{total_one, total_only, total_two}
use Rattle.bill_locks.proofs.Marks.{look_map, look_merged, look_nothing}
use Rattle.bill_locks.proofs.Columns.{fork_moves, fork_begins, fork_numbered, join_moves, join_begins, join_numbered, free_moves, out_moves}
use Rattle.bill_locks.proofs.PassLemmas.{set_passes, counted_passes, split_passes, joined_passes}
use Rattle.bill_locks.proofs.RuleLemmas.{column_at, column-set, last_step}

module _ {T F X : Type 0} (fixed : T → X) (list : T → List F) (loose : T → Bool) (disk ring : T → ℕ) (os : List (Opened X)) where
  abbrev Holds : State (Option T) (View F X) → Type 0
  Holds = Turning fixed list loose disk ring os

  module _ (slots id : ℕ) (me : Me (Option T) (View F X)) where
    module _ (s : State (Option T) (View F X)) (rule : Holds s) (sized : length s.homes ≡ slots)
        (at : get_elem? s.views id ≡ some me.0) where
      abbrev word : ℕ
      word = get_or s.words slots 0

      same_word : get_or s.words (length s.homes) 0 ≡ word
      same_word = ap (λ (n : ℕ). get_or s.words n 0) sized

      passes : Passes os word s.views
      passes = subst (λ (n : ℕ). Passes os n s.views) same_word rule.passes

      -- the rule after a step on the last word that leaves all marks
      after_last : (n' : ℕ) (w : View F X) → ((j : ℕ) → mark_at j w ≡ mark_at j me.0) → Passes os n' (set s.views id w)
          → Holds record { words = set s.words slots n'; homes = s.homes; views = set s.views id w }
      after_last n' w same p =
          subst (λ (i : ℕ). Holds record { words = set s.words i n'; homes = s.homes; views = set s.views id w }) sized
          (last_step fixed list loose disk ring os s n' id me.0 w rule at same p)

      known_or_more : 0 < me.0.stands → me.0.stands ≢ word
          → max me.0.known (me.0.stands + 1) ≤ total (λ (u : View F X). u.stands) s.views
      known_or_more some_passes ne =
          let known = passes.known id me.0 at in
          let sum = passes.word_is in
          let mine = total_one (λ (u : View F X). u.stands) s.views id me.0 at in omega arith

    pub counts : (old : ℕ) → 0 < me.0.stands → me.0.alone ≡ false
        → Allows Holds slots id me slots (λ n. either (eqb n old) (old + 1) n)
        (Counted (step slots slots old (old + 1) none) me)
    counts old some_passes not_alone s rule sized at small =
        let n : ℕ = get_or s.words slots 0 in
        let p : Passes os n s.views = passes s rule sized at in
        dite (ℕ_discrete n old)
        (λ e.
        let hit : either (eqb n old) (old + 1) n ≡ n + 1 = ap (λ b. either b (old + 1) n) (eq-eqb n old e)
        ∙ ap (λ (k : ℕ). k + 1) (sym e) in (
          counted me.0,
          keeps,
          tt,
          subst (λ (k : ℕ). Holds record
              { words = set s.words slots k; homes = s.homes; views = set s.views id (counted me.0) }) (sym hit)
              (after_last s rule sized at (n + 1) (counted me.0) (λ j. refl)
              (counted_passes os n s.views id me.0 p at some_passes not_alone)),
          record { hit = λ _. refl; miss = λ ne. absurd (ne e) },
        ))
        (λ ne.
        let miss : either (eqb n old) (old + 1) n ≡ n = ap (λ b. either b (old + 1) n) (ne_eqb n old ne) in (
          me.0,
          keeps,
          tt,
          subst (λ (k : ℕ). Holds record { words = set s.words slots k; homes = s.homes; views = set s.views id me.0 })
              (sym miss)
              (after_last s rule sized at n me.0 (λ j. refl)
              (subst (λ (l : List (View F X)). Passes os n l) (sym (set_again s.views id me.0 at)) p)),
          record { hit = λ e. absurd (ne e); miss = λ _. refl },
        ))

    pub fits : Allows Holds slots id me slots (λ n. n) (Fitted (step slots slots 0 0 none) me)
    fits s rule sized at small =
        let n : ℕ = get_or s.words slots 0 in
        let p : Passes os n s.views = passes s rule sized at in (
          me.0,
          keeps,
          tt,
          after_last s rule sized at n me.0 (λ j. refl)
              (subst (λ (l : List (View F X)). Passes os n l) (sym (set_again s.views id me.0 at)) p),
          record {
            same = refl;
            fits = (let sum = p.word_is in let mine = total_one (λ (u : View F X). u.stands) s.views id me.0 at in
                omega arith);
            marks = λ k lt.
                let numbers = (rule.turns k (omega arith)).numbers in
                let there = column_at k s.views id me.0 at in record {
                  front = numbers.joined id (mark_at k me.0) there;
                  once = λ q. (let one = total_one (λ (m : Mark F). times q m.numbers) (column k s.views) id
                      (mark_at k me.0) there in let all = numbers.once q in omega arith);
                };
          },
        )

    pub settles : 0 < me.0.stands → me.0.alone ≡ false
        → Allows Holds slots id me slots (λ n. n) (Settled (step slots slots 0 0 none) me)
    settles some_passes not_alone s rule sized at small =
        let n : ℕ = get_or s.words slots 0 in
        let p : Passes os n s.views = passes s rule sized at in
        dite (ℕ_discrete n me.0.stands)
        (λ e.
        let w : View F X = record me.0 { alone = true } in
        let known = p.known id me.0 at in
        let sum = p.word_is in
        let others_none : Each (λ j u. j ≢ id → u.share ≡ 0) s.views = λ j u there apart.
        let two = total_two (λ (x : View F X). x.stands) s.views j id u me.0 there at apart in
        (p.empty j u there (omega arith)).1 in
        let mine = total_only (λ (x : View F X). x.share) s.views id me.0 at others_none in (
          w,
          keeps,
          tt,
          after_last s rule sized at n w (λ j. refl)
              (set_passes os n n s.views id me.0 w p at refl some_passes refl refl refl known (λ _. omega arith)),
          record { alone = λ _. (refl, omega arith, sym mine ∙ p.shares); others = λ ne. absurd (ne e) },
        ))
        (λ ne.
        let w : View F X = knows_of_another me.0 in
        let sum = p.word_is in
        let mine = total_one (λ (u : View F X). u.stands) s.views id me.0 at in (
          w,
          keeps,
          tt,
          after_last s rule sized at n w (λ j. refl)
              (set_passes os n n s.views id me.0 w p at refl some_passes refl refl refl
              (known_or_more s rule sized at some_passes (λ c. ne (sym c)))
              (λ e. let c = sym e ∙ not_alone in absurd (cc))),
          record { alone = λ e. absurd (ne e); others = λ _. (refl, omega arith) },
        ))

  -- ---- splitting and joining

  column-split : (k id : ℕ) (v : View F X) (views : List (View F X)) → get_elem? views id ≡ some v
      → column k (set views id (left_of v) ++ right_of v ∷ []) ≡ column k views ++ fresh (mark_at k v) ∷ []
  column-split k id v views at = map-append (mark_at k) (set views id (left_of v)) (right_of v ∷ [])
      ∙ (ap (λ (l : List (Mark F)). l ++ mark_at k (right_of v) ∷ [])
      (column-set k views id (left_of v) ∙ set_again (column k views) id (mark_at k v) (column_at k views id v at))
      ∙ ap (λ (m : Mark F). column k views ++ m ∷ []) (look_map fresh refl k v.marks))

  stands_split : (o : Opened X) (n : ℕ) (place : maybe.Option (maybe.Option (Option T))) (ms : List (Mark F)) (id : ℕ)
      (m : Mark F) → get_elem? ms id ≡ some m
      → Stands fixed list loose disk ring o n place ms → Stands fixed list loose disk ring o n place (ms ++ fresh m ∷ [])
  stands_split o n place ms id m at st = record {
    turn = ⊎_elim
        (λ f. inl (
          f.0,
          free_moves fixed list loose disk ring o n place ms (ms ++ fresh m ∷ []) f.0 f.1 (fork_moves ms m)
              (fork_begins (list f.0) ms id m at f.1.fronts),
        ))
        (λ t. inr (
          t.0,
          t.1,
          out_moves fixed list loose disk ring o n place ms (ms ++ fresh m ∷ []) t.0 t.1 t.2
              (fork_moves ms m) (fork_begins t.1.front ms id m at t.2.fronts),
        ))
        st.turn;
    numbers = fork_numbered o ms m st.numbers;
  }

  pub halves : (id : ℕ) (v : View F X) → 1 < v.stands → v.alone ≡ false → Splits Holds id v (left_of v) (right_of v)
  halves id v two not_alone s rule at = record {
    sized = rule.sized;
    turns = λ k lt. subst
        (λ (c : List (Mark F)). Stands fixed list loose disk ring (get_or os k unopened) (get_or s.words k 0)
        (get_elem? s.homes k) c)
        (sym (column-split k id v s.views at))
        (stands_split (get_or os k unopened) (get_or s.words k 0) (get_elem? s.homes k) (column k s.views) id
        (mark_at k v) (column_at k s.views id v at) (rule.turns k lt));
    passes = split_passes os (get_or s.words (length s.homes) 0) s.views id v rule.passes at two not_alone;
  }

  column-join : (k id other : ℕ) (v w : View F X) (views : List (View F X))
      → column k (set (set views id (both_views v w)) other spent) ≡ set
      (set (column k views) id (both_marks (mark_at k v) (mark_at k w))) other blank
  column-join k id other v w views = column-set k (set views id (both_views v w)) other spent
      ∙ (ap (λ (m : Mark F). set (column k (set views id (both_views v w))) other m) (look_nothing k)
      ∙ ap (λ (l : List (Mark F)). set l other blank)
      (column-set k views id (both_views v w)
      ∙ ap (λ (m : Mark F). set (column k views) id m) (look_merged k v.marks w.marks)))

  stands_join : (o : Opened X) (n : ℕ) (place : maybe.Option (maybe.Option (Option T))) (ms : List (Mark F)) (i j : ℕ)
      (a b : Mark F) → get_elem? ms i ≡ some a → j ≢ i
      → get_elem? ms j ≡ some b → a.held ≡ false → b.held ≡ false
      → Stands fixed list loose disk ring o n place ms
      → Stands fixed list loose disk ring o n place (set (set ms i (both_marks a b)) j blank)
  stands_join o n place ms i j a b at apart there ha hb st = ⊎_elim
      (λ f. record {
        turn = inl (
          f.0,
          free_moves fixed list loose disk ring o n place ms (set (set ms i (both_marks a b)) j blank) f.0 f.1
              (join_moves ms i j a b at apart there ha hb)
              (join_begins ms i j a b at apart there (list f.0) f.1.fronts),
        );
        numbers = join_numbered ms i j a b at apart there o (list f.0) f.1.fronts st.numbers;
      })
      (λ t. record {
        turn = inr (
          t.0,
          t.1,
          out_moves fixed list loose disk ring o n place ms (set (set ms i (both_marks a b)) j blank) t.0 t.1 t.2
              (join_moves ms i j a b at apart there ha hb)
              (join_begins ms i j a b at apart there t.1.front t.2.fronts),
        );
        numbers = join_numbered ms i j a b at apart there o t.1.front t.2.fronts st.numbers;
      })
      st.turn

  pub both : (id other : ℕ) (v w : View F X) → ((k : ℕ) → (mark_at k v).held ≡ false)
      → ((k : ℕ) → (mark_at k w).held ≡ false) → 0 < v.stands
      → Joins Holds id v other w (both_views v w) spent
  both id other v w idle idle' some_passes s rule at apart there' =
      let there : get_elem? s.views other ≡ some w = sym (set_else s.views id other (both_views v w) apart) ∙ there' in
      record {
        sized = rule.sized;
        turns = λ k lt. subst
            (λ (c : List (Mark F)). Stands fixed list loose disk ring (get_or os k unopened) (get_or s.words k 0)
            (get_elem? s.homes k) c)
            (sym (column-join k id other v w s.views))
            (stands_join (get_or os k unopened) (get_or s.words k 0) (get_elem? s.homes k) (column k s.views) id other
            (mark_at k v) (mark_at k w)
            (column_at k s.views id v at) apart (column_at k s.views other w there) (idle k) (idle' k)
            (rule.turns k lt));
        passes = joined_passes os (get_or s.words (length s.homes) 0) s.views id other v w rule.passes at apart there
            some_passes;
      }

  -- ---- the last word, by an index that is equal to its place

  pub counts_at : (slots last id : ℕ) (me : Me (Option T) (View F X)) (old : ℕ) → last ≡ slots → 0 < me.0.stands
      → me.0.alone ≡ false
      → Allows Holds slots id me last (λ n. either (eqb n old) (old + 1) n)
      (Counted (step slots last old (old + 1) none) me)
  counts_at slots last id me old e some_passes not_alone =
      subst (λ (i : ℕ). Allows Holds slots id me i (λ n. either (eqb n old) (old + 1) n)
      (Counted (step slots i old (old + 1) none) me)) (sym e) (counts slots id me old some_passes not_alone)

  pub fits_at : (slots last id : ℕ) (me : Me (Option T) (View F X)) → last ≡ slots
      → Allows Holds slots id me last (λ n. n) (Fitted (step slots last 0 0 none) me)
  fits_at slots last id me e = subst
      (λ (i : ℕ). Allows Holds slots id me i (λ n. n) (Fitted (step slots i 0 0 none) me)) (sym e) (fits slots id me)

  pub settles_at : (slots last id : ℕ) (me : Me (Option T) (View F X)) → last ≡ slots → 0 < me.0.stands
      → me.0.alone ≡ false
      → Allows Holds slots id me last (λ n. n) (Settled (step slots last 0 0 none) me)
  settles_at slots last id me e some_passes not_alone =
      subst (λ (i : ℕ). Allows Holds slots id me i (λ n. n) (Settled (step slots i 0 0 none) me)) (sym e)
      (settles slots id me some_passes not_alone)
