use Rattle.std.proofs.Common.{arith}
use Rattle.std.proofs.lemmas.Grind.{common_steps}
use Rattle.signed_envelope.proofs.Stops.{cut_at, no_stop}
use Rattle.signed_envelope.proofs.part.cut.Goals as goal

pub returns-in_err-at-clause-none : goal.returns-in_err-at-clause-none
returns-in_err-at-clause-none c = grind (arith, common_steps, no_stop c.args.text.now)

pub returns-clause-found : goal.returns-clause-found
returns-clause-found c = grind (arith, common_steps, cut_at c.args.text.now c.in_ok-at.at)
