use Rattle.std.proofs.Common.{◌≡◌, ℕ, Bool, false, List, get_or, set, ap, sym, ◌∙◌, arith, get_or-set_same, get_or-set_other}
use Rattle.std.specs.Prelude.{Option, Some}
use Rattle.std.specs.Mem.Slots.{slots_items, slots_filled, slots_counts}
use mathlib.Core.Option.{some, some-injective}
use mathlib.Core.Logic.{dite}
use native.Mathlib.Decide.{ℕ_discrete}
use lib.ListN.{get_elem?}
use Rattle.atomic_table.proofs.Lists.{at_longer, at_last}
use Rattle.bill_locks.proofs.Totals.{at_within}
use Rattle.bill_locks.proofs.closing.take_from_slots.Goals as goal

pub unreachable-requires : goal.unreachable-requires
unreachable-requires g c =
    let end = c.slot_count-k-end.ensures in
    let test = c.loop-k-test.true in
    let h = c.requires.home c.loop-k.k (omega arith) in
    c.in_default.not-Some h.0 (some-injective c.take-slot.result (Some h.0)
    (sym c.take-slot.ensures.value
    ∙ (ap (λ (l : List (Option g.row.T.Denot)). get_elem? l c.loop-k.k) c.loop-k.invariant.items ∙ h.1)))

pub loop-k-preserved : goal.loop-k-preserved
loop-k-preserved g c =
    let old = c.loop-k.invariant in
    let o = c.take-slot.ensures.others in
    let end = c.slot_count-k-end.ensures in
    let test = c.loop-k-test.true in
    let places = old.places in
    let counts = (slots_counts c.loop-k.closed.slots).1 in
    let filled : List Bool = slots_filled c.loop-k.closed.slots in
    let pushed = c.in-Ok.ensures in
    let long = old.count in record {
      filled = λ j le lt. ap (λ (fs : List Bool). get_or fs j false) o.1
          ∙ (get_or-set_other filled c.loop-k.k j false false (λ e. omega arith)
          ∙ old.filled j (omega arith) (let p = o.2 in omega arith));
      taken = λ j lt. ap (λ (fs : List Bool). get_or fs j false) o.1 ∙ dite (ℕ_discrete j c.loop-k.k)
          (λ e. ap (λ (i : ℕ). get_or (set filled c.loop-k.k false) i false) e
          ∙ get_or-set_same filled c.loop-k.k false false (omega arith))
          (λ ne. get_or-set_other filled c.loop-k.k j false false ne ∙ old.taken j (omega arith));
      items = o.0 ∙ old.items;
      places = o.2 ∙ old.places;
      count = (let l = pushed.len in omega arith);
      room = (let p = o.2 in let r = old.room in let q = pushed.capacity in omega arith);
      values = λ j x lt at.
          let at' : get_elem? (slots_items c.loop-k.closed.slots) j ≡ some (Some x) =
          ap (λ (l : List (Option g.row.T.Denot)). get_elem? l j) (sym o.0) ∙ at in
          ap (λ (l : List g.row.T.Denot). get_elem? l j) pushed.items ∙ dite (ℕ_discrete j c.loop-k.k)
          (λ e.
          let same : c.take-slot.result ≡ Some x = some-injective c.take-slot.result (Some x)
          (sym c.take-slot.ensures.value
          ∙ (ap (λ (i : ℕ). get_elem? (slots_items c.loop-k.closed.slots) i) (sym e) ∙ at')) in
          let is = sym c.in-Some.is ∙ same in
          let value : c.in-Some.value ≡ x = cc in
          at_last c.loop-k.values.items c.in-Some.value j (omega arith) ∙ ap (λ (v : g.row.T.Denot). some v) value)
          (λ ne. at_longer c.loop-k.values.items _ j x (old.values j x (omega arith) at'));
    }

pub returns-clause-values : goal.returns-clause-values
returns-clause-values g c j x at =
    let old = c.loop-k.invariant in
    let at' : get_elem? (slots_items c.loop-k.closed.slots) j ≡ some (Some x) =
    ap (λ (l : List (Option g.row.T.Denot)). get_elem? l j) old.items ∙ at in
    let within = at_within (slots_items c.loop-k.closed.slots) j (Some x) at' in
    let counts = (slots_counts c.loop-k.closed.slots).0 in
    let end = c.slot_count-k-end.ensures in
    let test = c.loop-k-test.false in
    let places = old.places in
    old.values j x (omega arith) at'
