use Rattle.std.proofs.Common.{◌≡◌, ℕ, ◌<◌, ◌≤◌, false, get_or, vec_len, vec_capacity}
use Rattle.std.specs.Prelude.{Some}
use mathlib.Core.Option.{some}
use lib.ListN.{get_elem?}
use Rattle.std.specs.Mem.Slots.{slots_items, slots_filled, slots_len}
use Rattle.std.specs.Mem.Slots.Ownership.{Filled}
use Rattle.bill_locks.proofs.closing.take_from_slots.Given as goal

abbrev pub invariant-loop-k : goal.invariant-loop-k
invariant-loop-k g l = record {
  filled : Filled (slots_filled l.closed.slots) l.k (slots_len l.closed.slots);
  taken : (j : ℕ) → j < l.k → get_or (slots_filled l.closed.slots) j false ≡ false;
  items : slots_items l.closed.slots ≡ slots_items l.initial.closed.slots;
  places : slots_len l.closed.slots ≡ slots_len l.initial.closed.slots;
  count : vec_len l.values ≡ l.k;
  room : slots_len l.closed.slots ≤ vec_capacity l.values;
  values : (j : ℕ) (x : _) → j < l.k → get_elem? (slots_items l.closed.slots) j ≡ some (Some x)
      → get_elem? l.values.items j ≡ some x;
}
