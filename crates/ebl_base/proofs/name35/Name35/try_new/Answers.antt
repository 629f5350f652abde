use Rattle.std.proofs.Common.{ℕ, ◌≡◌, ◌+◌, ◌-◌, length, drop, sym, arith}
use Rattle.std.proofs.Math.ListN.{replicate}
use Rattle.std.proofs.lemmas.List.{drop-replicate}
use Rattle.std.proofs.lemmas.Grind.{common_steps}
use Rattle.ebl_base.proofs.FormLemmas.{name_of-form}
use Rattle.ebl_base.proofs.name35.Name35.try_new.Goals as goal

zeros_behind : (n : ℕ) → drop (0 + n) (replicate {A = ℕ} 35 0) ≡ replicate (35 - n) 0
zeros_behind n = let e : 0 + n ≡ n = omega arith in rw e (drop-replicate n 35 0)

pub returns-clause-value : goal.returns-clause-value
returns-clause-value c = grind (arith, common_steps, zeros_behind (length c.args.text.now))

pub returns-clause-form : goal.returns-clause-form
returns-clause-form c = name_of-form c.args.text.now (record { bytes = c.put_text.new.bytes }) (sym (returns-clause-value c))
