use Rattle.std.proofs.Common.{ℕ, ◌≡◌, ◌+◌, ◌-◌, ◌<◌, Some, slice_index, length, drop, sym, arith}
use Rattle.std.proofs.Math.ListN.{replicate}
use Rattle.std.proofs.lemmas.List.{drop-replicate}
use Rattle.std.proofs.lemmas.Grind.{common_steps}
use Rattle.ebl_base.specs.Signature.{signature_bytes, signature_of}
use Rattle.ebl_base.specs.declared.signature.Signature.{Signature}
use Rattle.ebl_base.proofs.signature.Signature.try_new.Goals as goal

zeros_behind : (n : ℕ) → drop (0 + n) (replicate {A = ℕ} 64 0) ≡ replicate (64 - n) 0
zeros_behind n = let e : 0 + n ≡ n = omega arith in rw e (drop-replicate n 64 0)

pub returns-clause-value : goal.returns-clause-value
returns-clause-value c = grind (arith, common_steps, zeros_behind (length c.args.bytes.now))

pub returns-clause-form : goal.returns-clause-form
returns-clause-form c =
    let made : Signature = record { bytes = c.put_text.new.bytes; len = length c.args.bytes.now } in
    let value : Some made ≡ signature_of c.args.bytes.now = returns-clause-value c in
    let same : signature_bytes made ≡ c.args.bytes.now = grind (arith, common_steps) in
    let byte : (i : ℕ) → slice_index c.args.bytes.now i < 256 = λ i. let fits = c.type_inv.bytes i in omega (arith, fits) in
    record { made = rw same (sym value); bytes = λ i. rw same (byte i) }
