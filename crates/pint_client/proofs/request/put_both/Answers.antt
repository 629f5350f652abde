use Rattle.pint_client.proofs.ExchangeLemmas.{both_wrote, head_part, body_part}
use Rattle.pint_client.proofs.request.put_both.Goals as goal

pub returns-in-Err-clause-err : goal.returns-in-Err-clause-err
returns-in-Err-clause-err g c =
    let written = g.L.Link.written in
    head_part (written c.args.link.now) (written c.put_piece.new.link) c.args.head.now c.args.body.now c.in-Err.ensures.err

pub returns-in-Ok-put-clause-ok : goal.returns-in-Ok-put-clause-ok
returns-in-Ok-put-clause-ok g c =
    let written = g.L.Link.written in
    both_wrote (written c.args.link.now) (written c.put_piece.new.link) (written c.put.new.self) c.args.head.now c.args.body.now
    c.in-Ok.ensures.ok c.in-Ok-put.ensures.ok

pub returns-in-Err-put-clause-err : goal.returns-in-Err-put-clause-err
returns-in-Err-put-clause-err g c =
    let written = g.L.Link.written in
    body_part (written c.args.link.now) (written c.put_piece.new.link) (written c.put.new.self) c.args.head.now c.args.body.now
    c.in-Ok.ensures.ok c.in-Err-put.ensures.failed
