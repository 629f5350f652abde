use Rattle.http_heads.specs.declared.plan.Plan.TheVariants.{Await}
use Rattle.http_requests.proofs.ReadingLemmas.{IsFound, Fills-trans, Read-after, stops_in_body, whole_in_buffer}
use Rattle.http_requests.proofs.reading.await_next.Goals as goal

pub returns-in-Err-await_bytes-clause-read : goal.returns-in-Err-await_bytes-clause-read
returns-in-Err-await_bytes-clause-read g c =
    let left = g.L.Link.left in
    Read-after c.in-Err-await_bytes.e (left c.args.link.now) (left c.await_head.new.link) (left c.await_bytes.new.link) c.args.buffer.now.items c.await_head.new.buffer.items c.await_bytes.new.buffer.items
    c.in-Ok-Some.ensures.filled c.in-Err-await_bytes.ensures.read

pub returns-in-Err-await_bytes-clause-stop : goal.returns-in-Err-await_bytes-clause-stop
returns-in-Err-await_bytes-clause-stop g c =
    let left = g.L.Link.left in
    let mid = c.await_head.new.buffer.items in
    let head = rw c.in-Ok-Some.field-0-is at c.in-Ok-Some.ensures.found in
    let found : IsFound mid c.in-Ok-Some.len (Await c.in-Await.route c.in-Await.length c.in-Await.keeps) = record { ends = head.0; fits = head.1; plan = rw c.deref.ensures.value at c.in-Await.ensures.plan } in
    stops_in_body c.in-Err-await_bytes.e (left c.await_head.new.link) (left c.await_bytes.new.link) mid c.await_bytes.new.buffer.items c.in-Ok-Some.len c.in-Await.length c.in-Await.route c.in-Await.keeps
    found c.in-Err-await_bytes.ensures.read c.in-Err-await_bytes.ensures.stop

pub returns-in-Ok-clause-filled : goal.returns-in-Ok-clause-filled
returns-in-Ok-clause-filled g c =
    let left = g.L.Link.left in
    Fills-trans (left c.args.link.now) (left c.await_head.new.link) (left c.await_bytes.new.link) c.args.buffer.now.items c.await_head.new.buffer.items c.await_bytes.new.buffer.items
    c.in-Ok-Some.ensures.filled c.in-Ok.ensures.filled

pub returns-in-Ok-clause-front : goal.returns-in-Ok-clause-front
returns-in-Ok-clause-front g c =
    let mid = c.await_head.new.buffer.items in
    let head = rw c.in-Ok-Some.field-0-is at c.in-Ok-Some.ensures.found in
    let found : IsFound mid c.in-Ok-Some.len (Await c.in-Await.route c.in-Await.length c.in-Await.keeps) = record { ends = head.0; fits = head.1; plan = rw c.deref.ensures.value at c.in-Await.ensures.plan } in
    let fill = c.in-Ok.ensures.filled in
    whole_in_buffer mid c.await_bytes.new.buffer.items fill.piece c.in-Ok-Some.len c.in-Await.length c.in-Await.route c.in-Await.keeps found fill.added c.in-Ok.ensures.enough
