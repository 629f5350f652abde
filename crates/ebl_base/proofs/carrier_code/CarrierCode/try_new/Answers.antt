use Rattle.std.proofs.Common.{ℕ, ◌≡◌, ◌+◌, ◌-◌, length, drop, sym, arith}
use Rattle.std.proofs.Math.ListN.{replicate}
use Rattle.std.proofs.lemmas.List.{drop-replicate}
use Rattle.std.proofs.lemmas.Grind.{common_steps}
use Rattle.ebl_base.proofs.FormLemmas.{carrier_code_of-form}
use Rattle.ebl_base.proofs.carrier_code.CarrierCode.try_new.Goals as goal

zeros_behind : (n : ℕ) → drop (0 + n) (replicate {A = ℕ} 4 0) ≡ replicate (4 - n) 0
zeros_behind n = let e : 0 + n ≡ n = omega arith in rw e (drop-replicate n 4 0)

pub returns-clause-value : goal.returns-clause-value
returns-clause-value c = grind (arith, common_steps, zeros_behind (length c.args.text.now))

pub returns-clause-form : goal.returns-clause-form
returns-clause-form c = carrier_code_of-form c.args.text.now (record { bytes = c.put_text.new.bytes }) (sym (returns-clause-value c))
