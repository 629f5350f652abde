use Rattle.std.proofs.Common.{arith}
use Rattle.std.proofs.lemmas.Bool.Decides.{nat_tests}
use Rattle.bill_chain.proofs.FrontLemmas.{goes_beyond-common}
use Rattle.bill_chain.proofs.front.goes_beyond.Goals as goal

pub returns-then-common_front-before : goal.returns-then-common_front-before
returns-then-common_front-before c =
    grind (arith, nat_tests, goes_beyond-common c.args.before.now c.args.chain.now)

pub returns-else-common_front-before : goal.returns-else-common_front-before
returns-else-common_front-before c =
    grind (arith, nat_tests, goes_beyond-common c.args.before.now c.args.chain.now)
