use Rattle.transfer_judge.proofs.PartingLemmas.{beyond_needs_both, beyond_where_longer}
use Rattle.transfer_judge.proofs.dispute.goes_beyond_both.Goals as goal

pub returns-then-front-known : goal.returns-then-front-known
returns-then-front-known c =
    beyond_where_longer c.args.known.now c.args.shown.now c.args.entry.now c.front_with-front.result
    c.front_with-front.ensures c.if-front-known.true

pub returns-else-front-known : goal.returns-else-front-known
returns-else-front-known c =
    beyond_needs_both c.args.known.now c.args.shown.now c.args.entry.now c.front_with-front.result
    c.front_with-front.ensures c.if-front-known.false
