-- A pass as its callers see it.
use Rattle.std.specs.Prelude.{◌≡◌, ℕ, ◌<◌, false, []}
use Rattle.atomic_table.specs.Table.{Me}
use Rattle.atomic_table.specs.Seated.{TableId}
use Rattle.bill_locks.specs.declared.view.View.{View}
use Rattle.bill_locks.specs.View.{mark_at}

-- of which table it is, and what it knows
pub record PassRecord (F X : Type 0) : Type 0 where
  pub table : TableId
  pub knows : View F X

-- it has no turn, and stands for passes that are out
pub record IsIdle {F X : Type 0} (v : View F X) : Type 0 where
  pub no_turn : (k : ℕ) → (mark_at k v).held ≡ false
  pub is_out : 0 < v.stands
  pub not_alone : v.alone ≡ false

-- a seat between two calls: it holds no slot, and its pass is idle
pub record Rests {S F X : Type 0} (me : Me S (View F X)) : Type 0 where
  pub hand : me.1 ≡ []
  pub idle : IsIdle me.0
