use Rattle.std.proofs.Common.{◌≡◌, false, is_some, All, vec_len}
use Rattle.turns_tests.proofs.tests.row.Row.many.Given as goal

abbrev pub invariant-loop-place : goal.invariant-loop-place
invariant-loop-place l = (vec_len l.rows ≡ l.place) × All (λ r. is_some r.loose ≡ false) l.rows.items
