-- What the steps of a turn owe: the fetch_or that tries it, the swap that gives it back, the load of a value's word.
use Rattle.std.proofs.Common.{◌≡◌, ◌≢◌, ℕ, ◌+◌, ◌*◌, ◌/◌, ◌^◌, ◌<◌, Bool, true, false, List, [], ◌∷◌, length, set, get_or, refl, sym, ap, subst, ◌∙◌, inl, inr, ⊎_elim, arith, length-set}
use Rattle.std.specs.Prelude.{Option, Some, bit_or}
use Rattle.std.proofs.lemmas.Nat.{or_shifted, or_block}
use Rattle.std.specs.Int.Bits.{or_zero_r}
use mathlib.Core.Option as maybe
use mathlib.Core.Option.{some, none}
use mathlib.Core.List.{IsPrefix}
use lib.ListN.{get_elem?}
use Rattle.atomic_table.specs.Table.{State, Me, Act, Valid, step, stepped, carried_after, Allows, keeps, takes, gives, put_back, rest}
use Rattle.atomic_table.proofs.Lists.{set_here, set_else, set_again}
use Rattle.bill_locks.specs.declared.view.Mark.{Mark}
use Rattle.bill_locks.specs.declared.view.Opened.{Opened}
use Rattle.bill_locks.specs.declared.view.View.{View}
use Rattle.bill_locks.specs.declared.job.Told.{Told}
use Rattle.bill_locks.specs.View.{unopened, opened_at, mark_at, with_mark, knows_of_another}
use Rattle.bill_locks.specs.Rule.{column, Stands, IsFree, IsOut, Turning}
use Rattle.bill_locks.specs.Steps.{Tried, Gave, Looked, Grown, held_mark, after_turn, with_front}
use Rattle.bill_locks.proofs.Prefixes.{prefix_itself}
use Rattle.bill_locks.proofs.Marks.{look_here, look_else}
use Rattle.bill_locks.proofs.Columns.{set_numbered, set_moves, set_begins, free_moves, out_moves, turn_begins}
use Rattle.bill_locks.proofs.Ends.{turn_ends, turn_ends_numbered}
use Rattle.bill_locks.proofs.PassLemmas.{set_passes}
use Rattle.bill_locks.proofs.RuleLemmas.{column_at, holder_stands, another_is_out, holder_is, turn_step}

or_even : (n m : ℕ) → n ≡ 2 * m → bit_or n 1 ≡ n + 1
or_even n m e =
    let p : n ≡ m * 2 ^ 1 = omega arith in
    let q = or_shifted m 1 1 (omega arith) in
    ap (λ k. bit_or k 1) p ∙ (q ∙ ap (λ k. k + 1) (sym p))

or_odd : (n m : ℕ) → n ≡ 2 * m + 1 → bit_or n 1 ≡ n
or_odd n m e =
    let p : n ≡ m * 2 ^ 1 + 1 = omega arith in
    let q : bit_or (m * 2 ^ 1 + 1) (0 * 2 ^ 1 + 1) ≡ bit_or m 0 * 2 ^ 1 + bit_or 1 1 =
    or_block 1 m 0 1 1 (omega arith) (omega arith) in
    ap (λ k. bit_or k 1) p ∙ (q ∙ (ap (λ k. k * 2 ^ 1 + 1) (or_zero_r m) ∙ sym p))

module _ {T F X : Type 0} (fixed : T → X) (list : T → List F) (loose : T → Bool) (disk ring : T → ℕ) (os : List (Opened X)) where
  abbrev Holds : State (Option T) (View F X) → Type 0
  Holds = Turning fixed list loose disk ring os

  module _ (slots id k : ℕ) (me : Me (Option T) (View F X)) (within : k < slots) where
    abbrev mine : Mark F
    mine = mark_at k me.0

    module _ (s : State (Option T) (View F X)) (rule : Holds s) (sized : length s.homes ≡ slots)
        (at : get_elem? s.views id ≡ some me.0) where
      abbrev word : ℕ
      word = get_or s.words k 0

      abbrev o : Opened X
      o = get_or os k unopened

      abbrev marks : List (Mark F)
      marks = column k s.views

      inside : k < length s.homes
      inside = omega arith

      mark_there : get_elem? marks id ≡ some mine
      mark_there = column_at k s.views id me.0 at

      -- the pass knows the value as it was opened
      known : 0 < me.0.stands → (opened_at k me.0).fixed ≡ o.fixed
      known some_passes = ap (λ (l : List (Opened X)). (get_or l k unopened).fixed)
          (rule.passes.opened id me.0 at some_passes)

      -- the rule after a step that leaves this mark, this word and these slots
      after_step : (n' : ℕ) (m : Mark F) (homes' : List (maybe.Option (Option T))) → length homes' ≡ length s.homes
          → ((j : ℕ) → j ≢ k → get_elem? homes' j ≡ get_elem? s.homes j) → 0 < me.0.stands → me.0.alone ≡ false
          → Stands fixed list loose disk ring o n' (get_elem? homes' k) (set marks id m)
          → Holds record { words = set s.words k n'; homes = homes'; views = set s.views id (with_mark k m me.0) }
      after_step n' m homes' long others some_passes not_alone stands =
          turn_step fixed list loose disk ring os s k n' id me.0 (with_mark k m me.0) homes' rule inside at long others
          (λ j ne. look_else j k m me.0.marks ne)
          (subst (λ (x : Mark F). Stands fixed list loose disk ring o n' (get_elem? homes' k) (set marks id x))
          (sym (look_here k m me.0.marks)) stands)
          (set_passes os (get_or s.words (length s.homes) 0) (get_or s.words (length s.homes) 0) s.views id me.0
          (with_mark k m me.0) rule.passes at refl some_passes refl refl refl
          (rule.passes.known id me.0 at) (λ e. let c = sym e ∙ not_alone in absurd (cc)))

      abbrev TriesTo : Type 0
      TriesTo = (w : View F X) × (a : Act (Option T)) × Valid s.homes me.1 a
          × Holds (stepped s k (bit_or word 1) id me.1 w a)
          × Tried fixed list loose disk ring (step slots k 1 0 none) me word (w, carried_after me.1 a)

      takes_it : (x : T) → IsFree fixed list loose disk ring o word (get_elem? s.homes k) marks x → 0 < me.0.stands
          → mine.held ≡ false → me.0.alone ≡ false → TriesTo
      takes_it x f some_passes idle not_alone =
          let m : Mark F = held_mark fixed list loose disk ring mine x in
          let seen : IsPrefix mine.front (list x) = f.fronts id mine mark_there in (
            with_mark k m me.0,
            takes k (Some x),
            f.home,
            after_step (bit_or word 1) m (set s.homes k none) (length-set s.homes k none)
                (λ j ne. set_else s.homes k j none ne) some_passes not_alone record {
                  turn = inr (
                    id,
                    m,
                    turn_begins fixed list loose disk ring o word (bit_or word 1) (get_elem? s.homes k)
                        (get_elem? (set s.homes k none) k) marks id mine x f mark_there
                        (or_even word (length (list x)) f.word_is) (set_here s.homes k none inside),
                  );
                  numbers = set_numbered o marks id mine m mark_there refl refl seen (rule.turns k inside).numbers;
                },
            record {
              free = λ even. (x, record { view = refl; hand = refl; seen = seen; same = known some_passes ∙ f.same });
              out = λ odd. absurd (odd (let e = f.word_is in omega arith));
            },
          )

      finds_out : (h : ℕ) (m : Mark F) → IsOut fixed list loose disk ring o word (get_elem? s.homes k) marks h m
          → 0 < me.0.stands → mine.held ≡ false → me.0.alone ≡ false → TriesTo
      finds_out h m out some_passes idle not_alone =
          let w : View F X = knows_of_another me.0 in
          let same : bit_or word 1 ≡ word = or_odd word (length m.front) out.word_is in (
            w,
            keeps,
            tt,
            turn_step fixed list loose disk ring os s k (bit_or word 1) id me.0 w s.homes rule inside at refl (λ j ne. refl)
                (λ j ne. refl)
                (subst (λ (n : ℕ). Stands fixed list loose disk ring o n (get_elem? s.homes k) (set marks id mine)) (sym same)
                (subst (λ (c : List (Mark F)). Stands fixed list loose disk ring o word (get_elem? s.homes k) c)
                (sym (set_again marks id mine mark_there)) (rule.turns k inside)))
                (set_passes os (get_or s.words (length s.homes) 0) (get_or s.words (length s.homes) 0) s.views id me.0
                w rule.passes at refl some_passes refl refl refl
                (another_is_out os (get_or s.words (length s.homes) 0) k s.views id h me.0 m rule.passes at idle
                out.seat out.holds)
                (λ e. let c = sym e ∙ not_alone in absurd (cc))),
            record {
              free = λ even. absurd (let e = out.word_is in omega arith);
              out = λ odd. refl;
            },
          )

      abbrev LooksTo : Type 0
      LooksTo = (w : View F X) × (a : Act (Option T)) × Valid s.homes me.1 a
          × Holds (stepped s k word id me.1 w a)
          × Looked (step slots k 0 0 none) me word (w, carried_after me.1 a)

      -- the front becomes xs, of which each front at hand is a beginning
      sees : (xs : List F) → IsPrefix mine.front xs → word / 2 ≡ length xs → 0 < me.0.stands → me.0.alone ≡ false
          → Stands fixed list loose disk ring o word (get_elem? s.homes k) (set marks id (with_front xs mine)) → LooksTo
      sees xs seen long some_passes not_alone stands = (
        with_mark k (with_front xs mine) me.0,
        keeps,
        tt,
        after_step word (with_front xs mine) s.homes refl (λ j ne. refl) some_passes not_alone stands,
        (xs, refl, seen, long),
      )

      sees_free : (x : T) → IsFree fixed list loose disk ring o word (get_elem? s.homes k) marks x → 0 < me.0.stands
          → mine.held ≡ false → me.0.alone ≡ false → LooksTo
      sees_free x f some_passes idle not_alone =
          let seen : IsPrefix mine.front (list x) = f.fronts id mine mark_there in
          let m : Mark F = with_front (list x) mine in
          sees (list x) seen (let e = f.word_is in omega arith) some_passes not_alone record {
            turn = inl (
              x,
              free_moves fixed list loose disk ring o word (get_elem? s.homes k) marks (set marks id m) x f
                  (set_moves marks id mine m mark_there idle idle refl refl refl)
                  (set_begins (list x) marks id m f.fronts (prefix_itself (list x))),
            );
            numbers = set_numbered o marks id mine m mark_there refl refl seen (rule.turns k inside).numbers;
          }

      sees_out : (h : ℕ) (n : Mark F) → IsOut fixed list loose disk ring o word (get_elem? s.homes k) marks h n
          → 0 < me.0.stands → mine.held ≡ false → me.0.alone ≡ false → LooksTo
      sees_out h n out some_passes idle not_alone =
          let seen : IsPrefix mine.front n.front = out.fronts id mine mark_there in
          let m : Mark F = with_front n.front mine in
          sees n.front seen (let e = out.word_is in omega arith) some_passes not_alone record {
            turn = inr (
              h,
              n,
              out_moves fixed list loose disk ring o word (get_elem? s.homes k) marks (set marks id m) h n out
                  (set_moves marks id mine m mark_there idle idle refl refl refl)
                  (set_begins n.front marks id m out.fronts (prefix_itself n.front)),
            );
            numbers = set_numbered o marks id mine m mark_there refl refl seen (rule.turns k inside).numbers;
          }

      -- the pass that says so has the turn
      is_mine : mine.held ≡ true → IsOut fixed list loose disk ring o word (get_elem? s.homes k) marks id mine
      is_mine holds = ⊎_elim
          (λ f. let c = sym holds ∙ f.1.nobody id mine mark_there in absurd (cc))
          (λ t. holder_is fixed list loose disk ring os o word (get_elem? s.homes k) marks t.0 id t.1 mine t.2 mark_there
          holds)
          (rule.turns k inside).turn

      gives_back : (t : Told) (y : T) → mine.held ≡ true → me.0.alone ≡ false
          → (opened_at k me.0).fixed ≡ Some (fixed y) → Grown list loose disk ring mine t y
          → Holds record {
            words = set s.words k (2 * length (list y));
            homes = set s.homes k (some (Some y));
            views =
                set s.views id (with_mark k (after_turn mine (list y) t) me.0);
          }
      gives_back t y holds not_alone same grown =
          let out = is_mine holds in
          let some_passes = holder_stands os (get_or s.words (length s.homes) 0) k s.views id me.0 rule.passes at holds in
          let numbers = (rule.turns k inside).numbers in
          after_step (2 * length (list y)) (after_turn mine (list y) t) (set s.homes k (some (Some y)))
          (length-set s.homes k (some (Some y)))
          (λ j ne. set_else s.homes k j (some (Some y)) ne)
          some_passes not_alone
          record {
            turn = inl (
              y,
              turn_ends fixed list loose disk ring o word (get_elem? s.homes k) marks id mine t y out grown numbers
                  (2 * length (list y))
                  (get_elem? (set s.homes k (some (Some y))) k) refl (set_here s.homes k (some (Some y)) inside)
                  (sym (known some_passes) ∙ same),
            );
            numbers = turn_ends_numbered fixed list loose disk ring o word (get_elem? s.homes k) marks id mine t y out grown
                numbers;
          }

    pub tries : 0 < me.0.stands → mine.held ≡ false → me.0.alone ≡ false
        → Allows Holds slots id me k (λ n. bit_or n 1) (Tried fixed list loose disk ring (step slots k 1 0 none) me)
    tries some_passes idle not_alone s rule sized at small = ⊎_elim
        (λ f. takes_it s rule sized at f.0 f.1 some_passes idle not_alone)
        (λ t. finds_out s rule sized at t.0 t.1 t.2 some_passes idle not_alone)
        (rule.turns k (omega arith)).turn

    pub looks : 0 < me.0.stands → mine.held ≡ false → me.0.alone ≡ false
        → Allows Holds slots id me k (λ n. n) (Looked (step slots k 0 0 none) me)
    looks some_passes idle not_alone s rule sized at small = ⊎_elim
        (λ f. sees_free s rule sized at f.0 f.1 some_passes idle not_alone)
        (λ t. sees_out s rule sized at t.0 t.1 t.2 some_passes idle not_alone)
        (rule.turns k (omega arith)).turn

    pub gives_turn : (t : Told) (y : T) (new : ℕ) → new ≡ 2 * length (list y) → me.1 ≡ (k, Some y) ∷ []
        → mine.held ≡ true → me.0.alone ≡ false → (opened_at k me.0).fixed ≡ Some (fixed y)
        → Grown list loose disk ring mine t y
        → Allows Holds slots id me k (λ _. new) (Gave fixed list loose disk ring t (step slots k new 0 none) me)
    gives_turn t y new word_is carries holds not_alone same grown s rule sized at small =
        let w : View F X = with_mark k (after_turn mine (list y) t) me.0 in (
          w,
          gives,
          tt,
          subst (λ (n : ℕ). Holds record
              { words = set s.words k n; homes = put_back s.homes me.1; views = set s.views id w }) (sym word_is)
              (subst (λ (hs : List (maybe.Option (Option T))). Holds record
              { words = set s.words k (2 * length (list y)); homes = hs; views = set s.views id w })
              (sym (ap (put_back s.homes) carries)) (gives_back s rule sized at t y holds not_alone same grown)),
          (λ z also.
              let one : ℕ × Option T = (k, Some y) in
              let other : ℕ × Option T = (k, Some z) in
              let both : one ∷ [] ≡ other ∷ [] = sym carries ∙ also in
              let pairs : one ≡ other = cc in
              let somes : Some y ≡ Some z = ap (λ (p : ℕ × Option T). p.1) pairs in
              let same : y ≡ z = cc in
              ap (λ (c : List (ℕ × Option T)). (w, c)) (ap rest carries)
              ∙ ap (λ (u : T). (with_mark k (after_turn mine (list u) t) me.0, [])) same),
        )
