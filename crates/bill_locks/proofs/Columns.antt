-- What all passes know of one value, before and after a step: the two states of a turn, and the numbers given.
use Rattle.std.proofs.Common.{◌≡◌, ◌≢◌, ℕ, zero, suc, ◌+◌, ◌<◌, ◌≤◌, ◌⊎◌, Bool, true, false, List, [], ◌∷◌, ◌++◌, length, set, refl, sym, ap, subst, ◌∙◌, inl, inr, ⊎_elim, arith, length-append}
use Rattle.std.specs.Prelude.{Option}
use mathlib.Core.Option as maybe
use mathlib.Core.Option.{some, none, some-injective, some-ne-none}
use mathlib.Core.List.{IsPrefix}
use lib.ListN.{get_elem?}
use Rattle.atomic_table.proofs.Lists.{at_set, at_snoc, at_longer, set_here, set_else}
use Rattle.ebl_base.specs.Faults.{RoseBy}
use Rattle.bill_locks.specs.declared.view.Mark.{Mark}
use Rattle.bill_locks.specs.declared.view.Opened.{Opened}
use Rattle.bill_locks.specs.View.{times, blank, fresh, both_marks, longer, shorter}
use Rattle.bill_locks.specs.Rule.{total, Each, Begin, Accounted, Numbered, IsFree, IsOut}
use Rattle.bill_locks.specs.Steps.{held_mark}
use Rattle.bill_locks.proofs.Prefixes.{prefix_itself, prefix_trans, prefix_length, prefix_nothing, longer_of, shorter_begins, first_begins, second_begins}
use Rattle.bill_locks.proofs.Totals.{at_within, at_one, total_set, total_snoc, total_same, times-append}

module _ {F : Type 0} where
  -- how many numbers, disk answers and ring answers a mark has
  abbrev pub made_of : Mark F → ℕ
  made_of m = length m.numbers

  abbrev pub failed_of : Mark F → ℕ
  failed_of m = m.failed

  abbrev pub unsigned_of : Mark F → ℕ
  unsigned_of m = m.unsigned

  -- the marks after a step that leaves the turn, the numbers and the answers as they were
  pub record Moves (ms ns : List (Mark F)) : Type 0 where
    pub holders : (h : ℕ) (m : Mark F) → get_elem? ms h ≡ some m → m.held ≡ true → get_elem? ns h ≡ some m
    pub idle : Each (λ j n. (n.held ≡ false) ⊎ (get_elem? ms j ≡ some n)) ns
    pub made : total made_of ns ≡ total made_of ms
    pub failed : total failed_of ns ≡ total failed_of ms
    pub unsigned : total unsigned_of ns ≡ total unsigned_of ms

  pub same_account : {X : Type 0} (o : Opened X) (frames : ℕ) (loose : Bool) (disk ring : ℕ) (ms ns : List (Mark F))
      → total made_of ns ≡ total made_of ms → total failed_of ns ≡ total failed_of ms
      → total unsigned_of ns ≡ total unsigned_of ms
      → Accounted o frames loose disk ring ms → Accounted o frames loose disk ring ns
  same_account o frames loose disk ring ms ns a b c h = record {
    grown = h.grown;
    made = let old = h.made in omega arith;
    disks = subst (λ (n : ℕ). RoseBy o.disk n disk) (sym b) h.disks;
    rings = subst (λ (n : ℕ). RoseBy o.ring n ring) (sym c) h.rings;
  }

  -- one mark is changed, and has the same numbers, answers and last join, and no shorter front
  pub set_numbered : {X : Type 0} (o : Opened X) (ms : List (Mark F)) (i : ℕ) (m n : Mark F) → get_elem? ms i ≡ some m
      → n.numbers ≡ m.numbers → n.absorbed ≡ m.absorbed → IsPrefix m.front n.front → Numbered o ms
      → Numbered o (set ms i n)
  set_numbered o ms i m n at same joined grows h = record {
    once = λ p. subst (λ (t : ℕ). t ≤ 1)
        (sym (total_same (λ (x : Mark F). times p x.numbers) ms i m n at (ap (times p) same))) (h.once p);
    within = λ j x g p some_times. ⊎_elim
        (λ e. let e1 = e.1 in
        let w = h.within i m at p
        (subst (λ (l : List ℕ). 0 < times p l) (ap (λ (y : Mark F). y.numbers) (sym e1) ∙ same) some_times) in
        let le = prefix_length m.front n.front grows in
        let le' : length m.front ≤ length x.front = subst (λ (y : Mark F). length m.front ≤ length y.front) e1 le in
        let w0 = w.0 in let w1 = w.1 in (w0, omega arith))
        (λ e. h.within j x e.1 p some_times)
        (at_set ms i j n x g);
    joined = λ j x g. ⊎_elim
        (λ e. subst (λ (y : Mark F). IsPrefix y.absorbed y.front) e.1
        (subst (λ (l : List F). IsPrefix l n.front) (sym joined)
        (prefix_trans m.absorbed m.front n.front (h.joined i m at) grows)))
        (λ e. h.joined j x e.1)
        (at_set ms i j n x g);
  }

  -- ---- one mark without a turn is changed to another without a turn

  pub set_moves : (ms : List (Mark F)) (i : ℕ) (m n : Mark F) → get_elem? ms i ≡ some m → m.held ≡ false
      → n.held ≡ false
      → n.numbers ≡ m.numbers → n.failed ≡ m.failed → n.unsigned ≡ m.unsigned → Moves ms (set ms i n)
  set_moves ms i m n at idle idle' made failed unsigned = record {
    holders = λ h x g holds. set_else ms i h n (λ (e : h ≡ i).
        let same : x ≡ m = at_one ms i x m (subst (λ (k : ℕ). get_elem? ms k ≡ some x) e g) at in
        let t : x.held ≡ false = ap (λ (y : Mark F). y.held) same ∙ idle in let c = sym holds ∙ t in cc) ∙ g;
    idle = λ j x g. ⊎_elim (λ e. inl (ap (λ (y : Mark F). y.held) (sym e.1) ∙ idle')) (λ e. inr e.1)
        (at_set ms i j n x g);
    made = total_same made_of ms i m n at (ap length made);
    failed = total_same failed_of ms i m n at failed;
    unsigned = total_same unsigned_of ms i m n at unsigned;
  }

  pub set_begins : (xs : List F) (ms : List (Mark F)) (i : ℕ) (n : Mark F) → Begin xs ms → IsPrefix n.front xs
      → Begin xs (set ms i n)
  set_begins xs ms i n b p j x g =
      ⊎_elim (λ e. subst (λ (y : Mark F). IsPrefix y.front xs) e.1 p) (λ e. b j x e.1) (at_set ms i j n x g)

  -- ---- a pass is cut off

  pub fork_moves : (ms : List (Mark F)) (m : Mark F) → Moves ms (ms ++ fresh m ∷ [])
  fork_moves ms m = record {
    holders = λ h x g holds. at_longer ms (fresh m ∷ []) h x g;
    idle = λ j x g. ⊎_elim (λ e. inr e) (λ e. inl (ap (λ (y : Mark F). y.held) (sym e))) (at_snoc ms (fresh m) x j g);
    made = let r = total_snoc made_of ms (fresh m) in omega arith;
    failed = let r = total_snoc failed_of ms (fresh m) in omega arith;
    unsigned = let r = total_snoc unsigned_of ms (fresh m) in omega arith;
  }

  pub fork_begins : (xs : List F) (ms : List (Mark F)) (i : ℕ) (m : Mark F) → get_elem? ms i ≡ some m → Begin xs ms
      → Begin xs (ms ++ fresh m ∷ [])
  fork_begins xs ms i m at b j x g = ⊎_elim (λ e. b j x e)
      (λ e. subst (λ (y : Mark F). IsPrefix y.front xs) e (b i m at)) (at_snoc ms (fresh m) x j g)

  pub fork_numbered : {X : Type 0} (o : Opened X) (ms : List (Mark F)) (m : Mark F) → Numbered o ms → Numbered o (ms ++ fresh m ∷ [])
  fork_numbered o ms m h = record {
    once = λ p. let r = total_snoc (λ (x : Mark F). times p x.numbers) ms (fresh m) in let old = h.once p in
        omega arith;
    within = λ j x g p some_times. ⊎_elim
        (λ e. h.within j x e p some_times)
        (λ e. let none : 0 < times p (fresh m).numbers =
        subst (λ (y : Mark F). 0 < times p y.numbers) (sym e) some_times in absurd (omega arith))
        (at_snoc ms (fresh m) x j g);
    joined = λ j x g. ⊎_elim (λ e. h.joined j x e)
        (λ e. subst (λ (y : Mark F). IsPrefix y.absorbed y.front) e (prefix_nothing m.front))
        (at_snoc ms (fresh m) x j g);
  }

  -- ---- a pass is joined to another

  module _ (ms : List (Mark F)) (i j : ℕ) (a b : Mark F) (at : get_elem? ms i ≡ some a) (apart : j ≢ i)
      (there : get_elem? ms j ≡ some b) where
    abbrev pub one : Mark F
    one = both_marks a b

    abbrev pub joined : List (Mark F)
    joined = set (set ms i one) j blank

    there' : get_elem? (set ms i one) j ≡ some b
    there' = set_else ms i j one apart ∙ there

    -- each mark afterwards is the blank one, the joined one, or one from before
    pub join_cases : (k : ℕ) (x : Mark F) → get_elem? joined k ≡ some x
        → (blank ≡ x) ⊎ ((one ≡ x) ⊎ ((k ≢ i) × (k ≢ j) × (get_elem? ms k ≡ some x)))
    join_cases k x g = ⊎_elim (λ e. inl e.1)
        (λ e. inr (⊎_elim (λ f. inl f.1) (λ f. inr (f.0, e.0, f.1)) (at_set ms i k one x e.1)))
        (at_set (set ms i one) j k blank x g)

    pub join_total : (f : Mark F → ℕ) → f blank ≡ 0 → f one ≡ f a + f b → total f joined ≡ total f ms
    join_total f empty sum =
        let r = total_set f (set ms i one) j b blank there' in
        let q = total_set f ms i a one at in omega arith

    pub join_moves : a.held ≡ false → b.held ≡ false → Moves ms joined
    join_moves ha hb = record {
      holders = λ h x g holds.
          let not_i : h ≢ i = λ e. let s : x ≡ a =
          at_one ms i x a (subst (λ (k : ℕ). get_elem? ms k ≡ some x) e g) at in
          let t : x.held ≡ false = ap (λ (y : Mark F). y.held) s ∙ ha in let c = sym holds ∙ t in cc in
          let not_j : h ≢ j = λ e. let s : x ≡ b =
          at_one ms j x b (subst (λ (k : ℕ). get_elem? ms k ≡ some x) e g) there in
          let t : x.held ≡ false = ap (λ (y : Mark F). y.held) s ∙ hb in let c = sym holds ∙ t in cc in
          set_else (set ms i one) j h blank not_j ∙ (set_else ms i h one not_i ∙ g);
      idle = λ k x g. ⊎_elim (λ e. inl (ap (λ (y : Mark F). y.held) (sym e)))
          (⊎_elim (λ e. inl (ap (λ (y : Mark F). y.held) (sym e) ∙ ha)) (λ e. inr e.2)) (join_cases k x g);
      made = join_total made_of refl (length-append a.numbers b.numbers);
      failed = join_total failed_of refl refl;
      unsigned = join_total unsigned_of refl refl;
    }

    pub join_begins : (xs : List F) → Begin xs ms → Begin xs joined
    join_begins xs h k x g = ⊎_elim (λ e. subst (λ (y : Mark F). IsPrefix y.front xs) e (prefix_nothing xs))
        (⊎_elim (λ e. subst (λ (y : Mark F). IsPrefix y.front xs) e
        (longer_of (λ (l : List F). IsPrefix l xs) a.front b.front (h i a at) (h j b there))) (λ e. h k x e.2))
        (join_cases k x g)

    pub join_numbered : {X : Type 0} (o : Opened X) (xs : List F) → Begin xs ms → Numbered o ms → Numbered o joined
    join_numbered o xs h old = record {
      once = λ p. subst (λ (t : ℕ). t ≤ 1)
          (sym (join_total (λ (x : Mark F). times p x.numbers) refl (times-append p a.numbers b.numbers))) (old.once p);
      within = λ k x g p some_times. ⊎_elim
          (λ e. let none : 0 < times p (blank {F = F}).numbers =
          subst (λ (y : Mark F). 0 < times p y.numbers) (sym e) some_times in absurd (omega arith))
          (⊎_elim (λ e. subst (λ (y : Mark F). (o.frames ≤ p) × (p < length y.front)) e
          (of_either p (subst (λ (y : Mark F). 0 < times p y.numbers) (sym e) some_times)))
          (λ e. old.within k x e.2 p some_times))
          (join_cases k x g);
      joined = λ k x g. ⊎_elim (λ e. subst (λ (y : Mark F). IsPrefix y.absorbed y.front) e (prefix_nothing []))
          (⊎_elim (λ e. subst (λ (y : Mark F). IsPrefix y.absorbed y.front) e whole) (λ e. old.joined k x e.2))
          (join_cases k x g);
    }
      where
        whole : IsPrefix (shorter a.front b.front) (longer a.front b.front)
        whole = shorter_begins a.front b.front xs (h i a at) (h j b there)

        of_first : (p : ℕ) → 0 < times p a.numbers → (o.frames ≤ p) × (p < length (longer a.front b.front))
        of_first p t = let w = old.within i a at p t in let w0 = w.0 in let w1 = w.1 in
            let le = prefix_length a.front (longer a.front b.front) (first_begins a.front b.front whole) in
            (w0, omega arith)

        of_second : (p : ℕ) → 0 < times p b.numbers → (o.frames ≤ p) × (p < length (longer a.front b.front))
        of_second p t = let w = old.within j b there p t in let w0 = w.0 in let w1 = w.1 in
            let le = prefix_length b.front (longer a.front b.front) (second_begins a.front b.front whole) in
            (w0, omega arith)

        split : (p n : ℕ) → times p a.numbers ≡ n → 0 < times p (a.numbers ++ b.numbers) → (o.frames ≤ p)
            × (p < length (longer a.front b.front))
        split p zero e t = of_second p (let s = times-append p a.numbers b.numbers in omega arith)
        split p (suc n) e t = of_first p (omega arith)

        of_either : (p : ℕ) → 0 < times p (a.numbers ++ b.numbers) → (o.frames ≤ p)
            × (p < length (longer a.front b.front))
        of_either p t = split p (times p a.numbers) refl t

module _ {T F X : Type 0} (fixed : T → X) (list : T → List F) (loose : T → Bool) (disk ring : T → ℕ) where
  -- a step of others leaves a free turn free
  pub free_moves : (o : Opened X) (word : ℕ) (place : maybe.Option (maybe.Option (Option T))) (ms ns : List (Mark F))
      (x : T)
      → IsFree fixed list loose disk ring o word place ms x → Moves ms ns → Begin (list x) ns
      → IsFree fixed list loose disk ring o word place ns x
  free_moves o word place ms ns x f moves begins = record {
    same = f.same;
    word_is = f.word_is;
    home = f.home;
    nobody = λ j n g. ⊎_elim (λ e. e) (λ e. f.nobody j n e) (moves.idle j n g);
    fronts = begins;
    account = same_account o (length (list x)) (loose x) (disk x) (ring x) ms ns moves.made moves.failed moves.unsigned
        f.account;
  }

  -- and one that is out with the same pass
  pub out_moves : (o : Opened X) (word : ℕ) (place : maybe.Option (maybe.Option (Option T))) (ms ns : List (Mark F))
      (h : ℕ) (m : Mark F)
      → IsOut fixed list loose disk ring o word place ms h m → Moves ms ns → Begin m.front ns
      → IsOut fixed list loose disk ring o word place ns h m
  out_moves o word place ms ns h m out moves begins = record {
    word_is = out.word_is;
    home = out.home;
    seat = moves.holders h m out.seat out.holds;
    holds = out.holds;
    only = λ j n g ne. ⊎_elim (λ e. e) (λ e. out.only j n e ne) (moves.idle j n g);
    fronts = begins;
    account = same_account o (length m.front) m.loose m.disk m.ring ms ns moves.made moves.failed moves.unsigned
        out.account;
  }

  -- ---- a turn begins

  pub turn_begins : (o : Opened X) (word word' : ℕ) (place place' : maybe.Option (maybe.Option (Option T)))
      (ms : List (Mark F)) (i : ℕ) (m : Mark F) (x : T)
      → IsFree fixed list loose disk ring o word place ms x → get_elem? ms i ≡ some m → word' ≡ word + 1 → place' ≡ some none
      → IsOut fixed list loose disk ring o word' place' (set ms i (held_mark fixed list loose disk ring m x)) i
      (held_mark fixed list loose disk ring m x)
  turn_begins o word word' place place' ms i m x f at up away =
      let n : Mark F = held_mark fixed list loose disk ring m x in record {
        word_is = let w = f.word_is in omega arith;
        home = away;
        seat = set_here ms i n (at_within ms i m at);
        holds = refl;
        only = λ j y g ne. ⊎_elim (λ e. absurd (ne e.0)) (λ e. f.nobody j y e.1) (at_set ms i j n y g);
        fronts = set_begins (list x) ms i n f.fronts (prefix_itself (list x));
        account = same_account o (length (list x)) (loose x) (disk x) (ring x) ms (set ms i n)
            (total_same made_of ms i m n at refl) (total_same failed_of ms i m n at refl)
            (total_same unsigned_of ms i m n at refl) f.account;
      }
