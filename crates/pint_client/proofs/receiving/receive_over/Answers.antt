use Rattle.std.proofs.Common.{◌∙◌}
use Rattle.pint_client.proofs.ReceiveLemmas.{answered, lacks, not_stated}
use Rattle.pint_client.proofs.receiving.receive_over.Goals as goal

pub returns-in-None-clause-read : goal.returns-in-None-clause-read
returns-in-None-clause-read g c =
    let left = g.L.Link.left in
    not_stated (left c.args.link.now) (left c.await_head.new.link) c.await_head.new.buffer c.in-Ok.at.len c.in-Ok.at.count
    c.in-Ok.ensures.ok c.in-None.ensures.none

pub returns-in-Ok-read_body-clause-read : goal.returns-in-Ok-read_body-clause-read
returns-in-Ok-read_body-clause-read g c =
    let left = g.L.Link.left in
    answered (left c.args.link.now) (left c.await_head.new.link) (left c.read_body.new.link) c.await_head.new.buffer c.in-Ok-read_body.body
    c.in-Ok.at.len c.in-Ok.at.count c.in-Some.head.status c.in-Some.head.body
    c.in-Ok.ensures.ok (c.await_head.auto.buffer ∙ c.requires) c.in-Some.ensures.some c.in-Ok-read_body.ensures.ok

pub returns-in-Err-read_body-clause-read : goal.returns-in-Err-read_body-clause-read
returns-in-Err-read_body-clause-read g c =
    let left = g.L.Link.left in
    lacks c.in-Err-read_body.e (left c.args.link.now) (left c.await_head.new.link) (left c.read_body.new.link) c.await_head.new.buffer
    c.in-Ok.at.len c.in-Ok.at.count c.in-Some.head.status c.in-Some.head.body
    c.in-Ok.ensures.ok c.in-Some.ensures.some c.in-Err-read_body.ensures.err
