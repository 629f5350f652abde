use Rattle.std.proofs.Common.{Err}
use Rattle.pint_client.specs.Request.{request_text}
use Rattle.pint_client.proofs.ExchangeLemmas.{answers_all, nothing_read, read_behind, wrote_part, wrote_whole}
use Rattle.pint_client.proofs.sending.exchange.Goals as goal

pub returns-in-Ok-clause-request : goal.returns-in-Ok-clause-request
returns-in-Ok-clause-request g c =
    let written = g.L.Link.written in
    wrote_whole c.receive.result (written c.args.link.now) (written c.send.new.link) (written c.receive.new.link) (request_text c.args.out.now)
    c.in-Ok.ensures.ok c.receive.ensures.written

pub returns-in-Ok-clause-reply : goal.returns-in-Ok-clause-reply
returns-in-Ok-clause-reply g c =
    let left = g.L.Link.left in
    answers_all c.receive.result (left c.args.link.now) (left c.receive.new.link)
    (read_behind c.receive.result (left c.args.link.now) (left c.send.new.link) (left c.receive.new.link) c.in-Ok.ensures.left c.receive.ensures.read)

pub returns-in-Ok-clause-read : goal.returns-in-Ok-clause-read
returns-in-Ok-clause-read g c =
    let left = g.L.Link.left in
    read_behind c.receive.result (left c.args.link.now) (left c.send.new.link) (left c.receive.new.link) c.in-Ok.ensures.left c.receive.ensures.read

pub returns-in-Err-clause-request : goal.returns-in-Err-clause-request
returns-in-Err-clause-request g c =
    let written = g.L.Link.written in
    wrote_part c.in-Err.e (written c.args.link.now) (written c.send.new.link) (request_text c.args.out.now) c.in-Err.ensures.no_reply c.in-Err.ensures.err

pub returns-in-Err-clause-reply : goal.returns-in-Err-clause-reply
returns-in-Err-clause-reply g c =
    let left = g.L.Link.left in
    answers_all (Err c.in-Err.e) (left c.args.link.now) (left c.send.new.link)
    (nothing_read c.in-Err.e (left c.args.link.now) (left c.send.new.link) c.in-Err.ensures.no_reply c.in-Err.ensures.left)

pub returns-in-Err-clause-read : goal.returns-in-Err-clause-read
returns-in-Err-clause-read g c =
    let left = g.L.Link.left in
    nothing_read c.in-Err.e (left c.args.link.now) (left c.send.new.link) c.in-Err.ensures.no_reply c.in-Err.ensures.left
