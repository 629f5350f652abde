-- A turn ends: what its answer tells, in the account of the value and in the numbers given.
use Rattle.std.proofs.Common.{◌≡◌, ℕ, zero, suc, eq-eqb, ne_eqb, ◌+◌, ◌*◌, ◌<◌, ◌≤◌, ◌⊎◌, Bool, true, false, cond, List, ◌∷◌, length, set, refl, sym, ap, subst, inl, inr, ⊎_elim, arith}
use Rattle.std.specs.Prelude.{Option, Some}
use mathlib.Core.Option as maybe
use mathlib.Core.Option.{some, none}
use mathlib.Core.List.{IsPrefix}
use mathlib.Core.Logic.{dite}
use native.Mathlib.Decide.{ℕ_discrete}
use lib.ListN.{get_elem?}
use Rattle.atomic_table.proofs.Lists.{at_set}
use Rattle.ebl_base.specs.Faults.{Rose, RoseBy}
use Rattle.bill_locks.specs.declared.view.Mark.{Mark}
use Rattle.bill_locks.specs.declared.view.Opened.{Opened}
use Rattle.bill_locks.specs.declared.job.Told.{Told}
use Rattle.bill_locks.specs.View.{one_if, times}
use Rattle.bill_locks.specs.Rule.{total, Each, Accounted, Numbered, IsFree, IsOut}
use Rattle.bill_locks.specs.Steps.{after_turn, Grown}
use Rattle.bill_locks.proofs.Prefixes.{prefix_itself, prefix_trans, prefix_length}
use Rattle.bill_locks.proofs.Totals.{total_set, total_none, times_here, times_else}
use Rattle.bill_locks.proofs.Columns.{made_of, failed_of, unsigned_of}

-- the frames that are nobody's, after a turn on a value of `len` frames, of which `added` became the pass's own
loose_frames : (len before after mine failed opened added : ℕ) (was is fault : Bool)
    → (before ≡ len) ⊎ ((before ≡ len + 1) × (was ≡ true)) → after ≡ before + added
    → (is ≡ true → (fault ≡ true) ⊎ ((was ≡ true) × (before ≡ len)))
    → len + one_if was ≤ opened + mine + failed → after + one_if is ≤ opened + (mine + added) + (failed + one_if fault)
loose_frames len before after mine failed opened added was false fault (inl e) a l h = omega arith
loose_frames len before after mine failed opened added was false fault (inr e) a l h =
    let e0 = e.0 in let o : one_if was ≡ 1 = ap one_if e.1 in omega arith
loose_frames len before after mine failed opened added was true fault b a l h = ⊎_elim
    (λ f. let o : one_if fault ≡ 1 = ap one_if f in
    ⊎_elim (λ e. omega arith) (λ e. let e0 = e.0 in let w : one_if was ≡ 1 = ap one_if e.1 in omega arith) b)
    (λ f. let f1 = f.1 in let w : one_if was ≡ 1 = ap one_if f.0 in omega arith)
    (l refl)

-- a count that rose if an answer was a fault covers one fault more
risen_by : (before n then now : ℕ) (fault : Bool) → RoseBy before n then → then ≤ now → (fault ≡ true → Rose then now)
    → RoseBy before (n + one_if fault) now
risen_by before n then now true h later rose = let r = rose refl in omega arith
risen_by before n then now false h later rose = omega arith

module _ {F : Type 0} (m : Mark F) (xs : List F) (t : Told) where
  adds : t.after ≡ t.before + 1 → (after_turn m xs t).numbers ≡ t.before ∷ m.numbers
  adds e = ap (λ b. cond b (t.before ∷ m.numbers) m.numbers) (eq-eqb t.after (t.before + 1) e)

  adds_none : t.after ≡ t.before → (after_turn m xs t).numbers ≡ m.numbers
  adds_none e = ap (λ b. cond b (t.before ∷ m.numbers) m.numbers) (ne_eqb t.after (t.before + 1) (λ c. omega arith))

module _ {T F X : Type 0} (fixed : T → X) (list : T → List F) (loose : T → Bool) (disk ring : T → ℕ) where
  -- what is the same for both kinds of turn: one that adds a frame, and one that adds none
  module _ (o : Opened X) (word : ℕ) (place : maybe.Option (maybe.Option (Option T))) (ms : List (Mark F)) (i : ℕ)
      (m : Mark F) (t : Told) (y : T)
      (out : IsOut fixed list loose disk ring o word place ms i m) (g : Grown list loose disk ring m t y)
      (old : Numbered o ms) where
    abbrev n : Mark F
    n = after_turn m (list y) t

    abbrev ns : List (Mark F)
    ns = set ms i n

    failed_now : total failed_of ns ≡ total failed_of ms + one_if t.failed
    failed_now = let r = total_set failed_of ms i m n out.seat in omega arith

    unsigned_now : total unsigned_of ns ≡ total unsigned_of ms + one_if t.unsigned
    unsigned_now = let r = total_set unsigned_of ms i m n out.seat in omega arith

    made_now : (added : ℕ) → length n.numbers ≡ length m.numbers + added → total made_of ns ≡ total made_of ms + added
    made_now added e = let r = total_set made_of ms i m n out.seat in omega arith

    account : (added : ℕ) → t.after ≡ t.before + added → length n.numbers ≡ length m.numbers + added
        → Accounted o (length (list y)) (loose y) (disk y) (ring y) ns
    account added e long = record {
      grown = let a = out.account.grown in let b = prefix_length m.front (list y) g.grows in omega arith;
      made =
          let r = loose_frames (length m.front) t.before t.after (total made_of ms) (total failed_of ms) o.frames added
          m.loose (loose y) t.failed
          g.before e g.loose_only out.account.made in
          let a = failed_now in let b = made_now added long in let c = g.after in omega arith;
      disks = subst (λ (k : ℕ). RoseBy o.disk k (disk y)) (sym failed_now)
          (risen_by o.disk (total failed_of ms) m.disk (disk y) t.failed out.account.disks g.disk_later g.failed);
      rings = subst (λ (k : ℕ). RoseBy o.ring k (ring y)) (sym unsigned_now)
          (risen_by o.ring (total unsigned_of ms) m.ring (ring y) t.unsigned out.account.rings g.ring_later g.unsigned);
    }

    -- nobody has the number of the turn's own frame
    before_front : length m.front ≤ t.before
    before_front = ⊎_elim (λ e. omega arith) (λ e. let e0 = e.0 in omega arith) g.before

    nobodys : total (λ (x : Mark F). times t.before x.numbers) ms ≡ 0
    nobodys = total_none (λ (x : Mark F). times t.before x.numbers) ms
        (λ j x at. none_in j x at (times t.before x.numbers) refl)
      where
        none_in : (j : ℕ) (x : Mark F) → get_elem? ms j ≡ some x → (k : ℕ) → times t.before x.numbers ≡ k → k ≡ 0
        none_in j x at zero e = refl
        none_in j x at (suc k) e =
            let w = (old.within j x at t.before (omega arith)).1 in
            let le = prefix_length x.front m.front (out.fronts j x at) in
            let le' = before_front in absurd (omega arith)

    joins : Each (λ j x. IsPrefix x.absorbed x.front) ns
    joins j x at = ⊎_elim
        (λ e. subst (λ (z : Mark F). IsPrefix z.absorbed z.front) e.1
        (prefix_trans m.absorbed m.front (list y) (old.joined i m out.seat) g.grows))
        (λ e. old.joined j x e.1) (at_set ms i j n x at)

    stays_within : (p : ℕ) → 0 < times p m.numbers → (o.frames ≤ p) × (p < length (list y))
    stays_within p h = let w = old.within i m out.seat p h in let w0 = w.0 in let w1 = w.1 in
        let le = prefix_length m.front (list y) g.grows in (w0, omega arith)

    within_by : ((p : ℕ) → 0 < times p n.numbers → (o.frames ≤ p) × (p < length (list y)))
        → Each (λ j x. (p : ℕ) → 0 < times p x.numbers → (o.frames ≤ p) × (p < length x.front)) ns
    within_by own j x at p = ⊎_elim
        (λ e. subst (λ (z : Mark F). 0 < times p z.numbers → (o.frames ≤ p) × (p < length z.front)) e.1 (own p))
        (λ e. old.within j x e.1 p) (at_set ms i j n x at)

    numbered_none : t.after ≡ t.before → Numbered o ns
    numbered_none e = let same = adds_none m (list y) t e in record {
      once = λ p.
          let r = total_set (λ (x : Mark F). times p x.numbers) ms i m n out.seat in
          let s : times p n.numbers ≡ times p m.numbers = ap (times p) same in let h = old.once p in omega arith;
      within = within_by (λ p h. stays_within p (subst (λ (l : List ℕ). 0 < times p l) same h));
      joined = joins;
    }

    numbered_one : t.after ≡ t.before + 1 → Numbered o ns
    numbered_one e = let same = adds m (list y) t e in record {
      once = λ p.
          let r = total_set (λ (x : Mark F). times p x.numbers) ms i m n out.seat in
          let s : times p n.numbers ≡ times p (t.before ∷ m.numbers) = ap (times p) same in let h = old.once p in
          dite (ℕ_discrete t.before p)
          (λ q. let k = times_here p t.before m.numbers q in
          let z : total (λ (x : Mark F). times p x.numbers) ms ≡ 0 =
          subst (λ (c : ℕ). total (λ (x : Mark F). times c x.numbers) ms ≡ 0) q nobodys in omega arith)
          (λ q. let k = times_else p t.before m.numbers q in omega arith);
      within = within_by
          (λ p h. let h' : 0 < times p (t.before ∷ m.numbers) = subst (λ (l : List ℕ). 0 < times p l) same h in
          dite (ℕ_discrete t.before p)
          (λ q. let a = out.account.grown in let b = before_front in let c = g.after in (omega arith, omega arith))
          (λ q. stays_within p (let k = times_else p t.before m.numbers q in omega arith)));
      joined = joins;
    }

    pub turn_ends_numbered : Numbered o ns
    turn_ends_numbered = ⊎_elim numbered_none numbered_one g.one

    account_now : Accounted o (length (list y)) (loose y) (disk y) (ring y) ns
    account_now = ⊎_elim
        (λ e. account 0 (omega arith) (let l = ap length (adds_none m (list y) t e) in omega arith))
        (λ e. account 1 e (let l = ap length (adds m (list y) t e) in omega arith))
        g.one

    pub turn_ends : (word' : ℕ) (place' : maybe.Option (maybe.Option (Option T))) → word' ≡ 2 * length (list y)
        → place' ≡ some (some (Some y)) → o.fixed ≡ Some (fixed y)
        → IsFree fixed list loose disk ring o word' place' ns y
    turn_ends word' place' w p same = record {
      same = same;
      word_is = w;
      home = p;
      nobody = λ j x at. ⊎_elim (λ e. ap (λ (z : Mark F). z.held) (sym e.1)) (λ e. out.only j x e.1 e.0)
          (at_set ms i j n x at);
      fronts = λ j x at. ⊎_elim
          (λ e. subst (λ (z : Mark F). IsPrefix z.front (list y)) e.1 (prefix_itself (list y)))
          (λ e. prefix_trans x.front m.front (list y) (out.fronts j x e.1) g.grows)
          (at_set ms i j n x at);
      account = account_now;
    }
