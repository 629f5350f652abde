use Rattle.std.proofs.Common.{◌≡◌, ◌<◌, length, arith}
use Rattle.http_requests.proofs.ReadingLemmas.{lacks_at_fault}
use Rattle.http_requests.proofs.reading.await_bytes.Goals as goal

pub returns-in-Err-clause-stop : goal.returns-in-Err-clause-stop
returns-in-Err-clause-stop g c =
    let kept = c.in-Err.ensures.kept in
    let few : length c.read_more.new.buffer.items < c.args.count = rw kept (omega (arith, c.loop-link-test.true, c.len.ensures)) in
    lacks_at_fault c.in-Err.e c.args.count c.read_more.new.buffer.items (g.L.Link.left c.read_more.new.link) c.in-Err.ensures.err few
