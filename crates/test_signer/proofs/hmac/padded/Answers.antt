use Rattle.std.proofs.Common.{ℕ, length, arith}
use Rattle.std.proofs.lemmas.List.{drop-replicate}
use Rattle.std.proofs.lemmas.Grind.{common_steps}
use Rattle.test_signer.proofs.hmac.padded.Goals as goal

pub returns : goal.returns
returns c = grind (arith, common_steps, drop-replicate {X = ℕ} (length c.args.key.now) 64 0)
