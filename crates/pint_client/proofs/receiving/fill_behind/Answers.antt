use Rattle.pint_client.proofs.FillLemmas.{body_filled_if}
use Rattle.pint_client.proofs.receiving.fill_behind.Goals as goal

pub returns-clause-ok : goal.returns-clause-ok
returns-clause-ok g c =
    let left = g.L.Link.left in
    body_filled_if c.fill.result (left c.args.link.now) (left c.fill.new.link) c.args.behind.now c.args.body.now c.put_front.new.body c.fill.new.buffer
    c.min-count.result c.min-count.ensures c.put_front.ensures c.fill.auto.buffer c.fill.ensures.ok
