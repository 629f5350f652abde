-- The opening meets the rule, and what the rule says of the values at the closing.
use Rattle.std.proofs.Common.{◌≡◌, ◌≢◌, ℕ, zero, suc, ◌*◌, ◌<◌, ◌≤◌, Bool, true, false, List, [], ◌∷◌, ◌++◌, length, map, get_or, refl, sym, ap, subst, ◌∙◌, inl, ⊎_elim, arith, length-append}
use Rattle.std.specs.Prelude.{Option, Some, slice_get}
use Rattle.std.proofs.lemmas.List.{length-map}
use mathlib.Core.Option as maybe
use mathlib.Core.Option.{some, none, some-injective, some-ne-none}
use mathlib.Core.List.{IsPrefix}
use mathlib.Core.Logic.{dite}
use native.Mathlib.Decide.{ℕ_discrete}
use lib.ListN.{get_elem?}
use Rattle.atomic_table.specs.Table.{State, opening, Final, Seen}
use Rattle.ebl_base.specs.Faults.{RoseBy}
use Rattle.bill_locks.specs.declared.view.Mark.{Mark}
use Rattle.bill_locks.specs.declared.view.Opened.{Opened}
use Rattle.bill_locks.specs.declared.view.View.{View}
use Rattle.bill_locks.specs.View.{blank, look, one_if, times, unopened, mark_at, first_view}
use Rattle.bill_locks.specs.Rule.{total, Each, column, Stands, IsFree, Numbered, Turning, opened_as, openings}
use Rattle.bill_locks.specs.Pass.{IsIdle}
use Rattle.bill_locks.specs.Turn.{HandedOut}
use Rattle.bill_locks.proofs.Prefixes.{prefix_nothing}
use Rattle.bill_locks.proofs.Totals.{at_one, at_length, at_map_back, total_only, total_two}
use Rattle.bill_locks.proofs.Marks.{look_nothing}
use Rattle.bill_locks.proofs.Columns.{made_of, failed_of, unsigned_of}
use Rattle.bill_locks.proofs.RuleLemmas.{column_at}

module _ {T F X : Type 0} (fixed : T → X) (list : T → List F) (loose : T → Bool) (disk ring : T → ℕ) where
  -- the words of values that nobody has
  abbrev pub words_of : List T → List ℕ
  words_of xs = map (λ x. 2 * length (list x)) xs

  -- ---- the opening

  at_opening : (xs : List T) (k : ℕ) (x : T) → get_elem? xs k ≡ some x
      → (get_or (openings fixed list loose disk ring xs) k unopened ≡ opened_as fixed list loose disk ring x)
      × (get_or (words_of xs ++ 1 ∷ []) k 0 ≡ 2 * length (list x))
      × (get_elem? (map some (map Some xs)) k ≡ some (some (Some x)))
  at_opening [] k x e = absurd (some-ne-none x (sym e))
  at_opening (y ∷ ys) zero x e = let s : y ≡ x = some-injective y x e in (
    ap (opened_as fixed list loose disk ring) s,
    ap (λ (z : T). 2 * length (list z)) s,
    ap
        (λ (z : T). some (some (Some z))) s,
  )
  at_opening (y ∷ ys) (suc k) x e = at_opening ys k x e

  last_word : (xs : List T) → get_or (words_of xs ++ 1 ∷ []) (length xs) 0 ≡ 1
  last_word [] = refl
  last_word (x ∷ xs) = last_word xs

  homes_length : (xs : List T) → length (map some (map Some xs)) ≡ length xs
  homes_length xs = length-map (map Some xs) some ∙ length-map xs Some

  module _ (xs : List T) (firm : (k : ℕ) (x : T) → get_elem? xs k ≡ some x → loose x ≡ false) where
    abbrev first : View F X
    first = first_view (openings fixed list loose disk ring xs)

    free_at : (k : ℕ) (x : T) → get_elem? xs k ≡ some x
        → Stands fixed list loose disk ring (opened_as fixed list loose disk ring x) (2 * length (list x)) (some (some (Some x)))
        (blank ∷ [])
    free_at k x at = record {
      turn = inl (
        x,
        record {
          same = refl;
          word_is = refl;
          home = refl;
          nobody = λ j m g. of_blank (λ (n : Mark F). n.held ≡ false) refl j m g;
          fronts = λ j m g. of_blank (λ (n : Mark F). IsPrefix n.front (list x)) (prefix_nothing (list x)) j m g;
          account = record {
            grown = omega arith;
            made = (let e = ap one_if (firm k x at) in omega arith);
            disks =
                omega arith;
            rings = omega arith;
          };
        },
      );
      numbers = record {
        once = λ p. omega arith;
        within = λ j m g p h. absurd
            (let t : times p m.numbers ≡ 0 = of_blank (λ (n : Mark F). times p n.numbers ≡ 0) refl j m g in
            omega arith);
        joined = λ j m g. of_blank (λ (n : Mark F). IsPrefix n.absorbed n.front) (prefix_nothing []) j m g;
      };
    }
      where
        of_blank : (P : Mark F → Type 0) → P blank → (j : ℕ) (m : Mark F) → get_elem? (blank ∷ []) j ≡ some m → P m
        of_blank P h zero m g = subst P (some-injective blank m g) h
        of_blank P h (suc j) m g = absurd (some-ne-none m (sym g))

    of_first : (P : View F X → Type 0) → P first → (j : ℕ) (v : View F X) → get_elem? (first ∷ []) j ≡ some v → P v
    of_first P h zero v g = subst P (some-injective first v g) h
    of_first P h (suc j) v g = absurd (some-ne-none v (sym g))

    pub opens : Turning fixed list loose disk ring (openings fixed list loose disk ring xs)
        (opening (words_of xs ++ 1 ∷ []) (map Some xs) first)
    opens = record {
      sized = (let a = length-append (words_of xs) (1 ∷ []) in
          let b = length-map xs (λ (x : T). 2 * length (list x)) in let c = homes_length xs in omega arith);
      turns = λ k lt.
          let there = at_length xs k (let c = homes_length xs in omega arith) in
          let x : T = there.0 in
          let is = at_opening xs k x there.1 in
          subst (λ (m : Mark F). Stands fixed list loose disk ring (get_or (openings fixed list loose disk ring xs) k unopened)
          (get_or (words_of xs ++ 1 ∷ []) k 0) (get_elem? (map some (map Some xs)) k) (m ∷ []))
          (sym (look_nothing k))
          (subst (λ (o : Opened X). Stands fixed list loose disk ring o (get_or (words_of xs ++ 1 ∷ []) k 0)
          (get_elem? (map some (map Some xs)) k) (blank ∷ [])) (sym is.0)
          (subst (λ (n : ℕ). Stands fixed list loose disk ring (opened_as fixed list loose disk ring x) n
          (get_elem? (map some (map Some xs)) k) (blank ∷ [])) (sym is.1)
          (subst (λ (p : maybe.Option (maybe.Option (Option T))). Stands fixed list loose disk ring
          (opened_as fixed list loose disk ring x) (2 * length (list x)) p (blank ∷ [])) (sym is.2)
          (free_at k x there.1))));
      passes = record {
        word_is = ap (λ (n : ℕ). get_or (words_of xs ++ 1 ∷ []) n 0) (homes_length xs) ∙ last_word xs;
        known = of_first (λ (v : View F X). v.known ≤ total (λ (u : View F X). u.stands) (first ∷ [])) (omega arith);
        empty = of_first (λ (v : View F X). v.stands ≡ 0 → (v.marks ≡ []) × (v.share ≡ 0))
            (λ e. absurd (omega arith));
        shares = omega arith;
        alone = of_first (λ (v : View F X). v.alone ≡ true → total (λ (u : View F X). u.stands) (first ∷ []) ≡ v.stands)
            (λ _. refl);
        opened = of_first (λ (v : View F X). 0 < v.stands → v.opened ≡ openings fixed list loose disk ring xs) (λ _. refl);
      };
    }

  -- ---- the closing

  module _ (os : List (Opened X)) (s : State (Option T) (View F X)) (rule : Turning fixed list loose disk ring os s) (id : ℕ)
      (v : View F X) (at : get_elem? s.views id ≡ some v)
      (alone : v.alone ≡ true) (idle : (k : ℕ) → (mark_at k v).held ≡ false) where
    -- every other pass knows nothing
    others_blank : (k : ℕ) → Each (λ j m. j ≢ id → m ≡ blank) (column k s.views)
    others_blank k j m g ne =
        let back = at_map_back (mark_at k) s.views j m g in
        let u : View F X = back.0 in
        let sum = rule.passes.alone id v at alone in
        let two = total_two (λ (x : View F X). x.stands) s.views j id u v back.1 at ne in
        let none_left : u.stands ≡ 0 = omega arith in
        sym back.2 ∙ (ap (look k) (rule.passes.empty j u back.1 none_left).0 ∙ look_nothing k)

    nobody_holds : (k j : ℕ) (m : Mark F) → get_elem? (column k s.views) j ≡ some m → m.held ≡ false
    nobody_holds k j m g = dite (ℕ_discrete j id)
        (λ e. let same : m ≡ mark_at k v = at_one (column k s.views) id m (mark_at k v)
        (subst (λ (i : ℕ). get_elem? (column k s.views) i ≡ some m) e g) (column_at k s.views id v at) in
        ap (λ (x : Mark F). x.held) same ∙ idle k)
        (λ ne. ap (λ (x : Mark F). x.held) (others_blank k j m g ne))

    only_mine : (k : ℕ) (f : Mark F → ℕ) → f blank ≡ 0 → total f (column k s.views) ≡ f (mark_at k v)
    only_mine k f nothing = total_only f (column k s.views) id (mark_at k v) (column_at k s.views id v at)
        (λ j m g ne. ap f (others_blank k j m g ne) ∙ nothing)

    handed : (k : ℕ) (o : Opened X) (n : ℕ) (x : T)
        → IsFree fixed list loose disk ring o n (get_elem? s.homes k) (column k s.views) x
        → Numbered o (column k s.views) → HandedOut fixed list loose disk ring o (mark_at k v) x
    handed k o n x f numbers =
        let there = column_at k s.views id v at in
        let a = f.account in record {
          same = f.same;
          begins = f.fronts id (mark_at k v) there;
          grown = a.grown;
          once = λ p. subst (λ (t : ℕ). t ≤ 1) (only_mine k (λ (m : Mark F). times p m.numbers) refl) (numbers.once p);
          within = numbers.within id (mark_at k v) there;
          made = (let b = a.made in let c = only_mine k made_of refl in let d = only_mine k failed_of refl in
              omega arith);
          disks = subst (λ (t : ℕ). RoseBy o.disk t (disk x)) (only_mine k failed_of refl) a.disks;
          rings = subst (λ (t : ℕ). RoseBy o.ring t (ring x)) (only_mine k unsigned_of refl) a.rings;
        }

    -- each value is at home, as the last pass's mark and the opening say
    pub hands_out : 0 < v.stands → (k : ℕ) → k < length s.homes
        → (x : T) × (get_elem? s.homes k ≡ some (some (Some x)))
        × HandedOut fixed list loose disk ring (get_or v.opened k unopened) (mark_at k v) x
    hands_out some_passes k lt =
        let st = rule.turns k lt in
        ⊎_elim
        (λ f. (
          f.0,
          f.1.home,
          subst (λ (os' : List (Opened X)). HandedOut fixed list loose disk ring (get_or os' k unopened) (mark_at k v) f.0)
              (sym (rule.passes.opened id v at some_passes))
              (handed k (get_or os k unopened) (get_or s.words k 0) f.0 f.1 st.numbers),
        ))
        (λ t. let c = sym t.2.holds ∙ nobody_holds k t.0 t.1 t.2.seat in absurd (cc))
        st.turn

  -- the same of the values as they lie in the slots
  pub closes : (os : List (Opened X)) (ws : List ℕ) (items : List (Option T)) (id : ℕ) (v : View F X)
      → Final (Seen (Turning fixed list loose disk ring os) id v) ws items
      → v.alone ≡ true → IsIdle (record v { alone = false }) → (k : ℕ) → k < length items
      → (x : T) × (get_elem? items k ≡ some (Some x))
      × HandedOut fixed list loose disk ring (get_or v.opened k unopened) (mark_at k v) x
  closes os ws items id v f alone idle k lt =
      let out = hands_out os f.0 f.1.0 id v f.1.1 alone idle.no_turn idle.is_out k (let e = f.3 in omega arith) in
      (out.0, f.4 k (Some out.0) out.1, out.2)

pub slice_get_at : {A : Type 0} (xs : List A) (k : ℕ) (x : A) → get_elem? xs k ≡ some x → slice_get xs k ≡ Some x
slice_get_at [] k x e = absurd (some-ne-none x (sym e))
slice_get_at (y ∷ ys) zero x e = ap Some (some-injective y x e)
slice_get_at (y ∷ ys) (suc k) x e = slice_get_at ys k x e

pub get_or_at : {A : Type 0} (xs : List A) (k : ℕ) (x d : A) → get_elem? xs k ≡ some x → get_or xs k d ≡ x
get_or_at [] k x d e = absurd (some-ne-none x (sym e))
get_or_at (y ∷ ys) zero x d e = some-injective y x e
get_or_at (y ∷ ys) (suc k) x d e = get_or_at ys k x d e
