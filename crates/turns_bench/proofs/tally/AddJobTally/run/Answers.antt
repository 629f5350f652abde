use Rattle.std.proofs.Common.{◌≡◌, ◌⊎◌, ℕ, ◌+◌, ◌-◌, ◌≤◌, replicate, ap, ◌∙◌, ⊎_elim, arith}
use Rattle.std.proofs.lemmas.List.{replicate-append-replicate}
use mathlib.Core.List.{IsPrefix}
use Rattle.turns_bench.proofs.tally.AddJobTally.run.Goals as goal

longer : (n m : ℕ) → n ≤ m → IsPrefix (replicate {A = Unit {0}} n tt) (replicate m tt)
longer n m le = (
  replicate (m - n) tt,
  replicate-append-replicate n (m - n) tt
      ∙ ap (λ k. replicate {A = Unit {0}} k tt) (omega arith),
)

pub returns-clause-grows : goal.returns-clause-grows
returns-clause-grows c =
    longer c.args.value.now.count c.add.new.self.count (⊎_elim (λ e. omega arith) (λ e. omega arith) c.add.ensures)
