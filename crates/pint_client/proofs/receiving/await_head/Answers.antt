use Rattle.std.proofs.Common.{◌+◌, ◌≤◌, ◌∙◌, sym, length, take, arith, length-take}
use Rattle.pint_client.proofs.FillLemmas.{Consumes-filled, length-put_mid, length-room, scan-filled}
use Rattle.pint_client.proofs.ReceiveLemmas.{ended, failed, overlong, head_in_front}
use Rattle.pint_client.proofs.receiving.await_head.Goals as goal

pub returns-in-Ok-eq0-clause-err : goal.returns-in-Ok-eq0-clause-err
returns-in-Ok-eq0-clause-err g c =
    let left = g.L.Link.left in
    let at = c.loop-count.invariant in
    let long = c.read.auto.into ∙ length-room c.loop-count.count c.loop-count.buffer at.within in
    ended (left c.args.link.now) (left c.loop-count.link) (left c.read.new.self) (take c.loop-count.count c.loop-count.buffer) c.read.new.into
    c.in-Ok-eq0.field-0 c.loop-count.scan at.consumed c.in-Ok-eq0.field-0-test (omega (arith, long, c.loop-count-test.true)) c.in-Ok-eq0.ensures.bytes at.scanned

pub returns-in-Err-clause-err : goal.returns-in-Err-clause-err
returns-in-Err-clause-err g c =
    let left = g.L.Link.left in
    let at = c.loop-count.invariant in
    failed (left c.args.link.now) (left c.loop-count.link) (left c.read.new.self) (take c.loop-count.count c.loop-count.buffer) c.loop-count.scan
    at.consumed c.in-Err.ensures.bytes at.scanned

pub returns-clause-err : goal.returns-clause-err
returns-clause-err g c =
    let left = g.L.Link.left in
    let at = c.loop-count.invariant in
    let room = at.room in
    overlong (left c.args.link.now) (left c.loop-count.link) (take c.loop-count.count c.loop-count.buffer) c.loop-count.scan
    at.consumed at.scanned (omega (arith, room, length-take c.loop-count.count c.loop-count.buffer))

pub returns-in-Ok-over-clause-ok : goal.returns-in-Ok-over-clause-ok
returns-in-Ok-over-clause-ok g c =
    let left = g.L.Link.left in
    let at = c.loop-count.invariant in
    let fits = c.in-Ok.ensures.within.0 in
    let long = c.read.auto.into ∙ length-room c.loop-count.count c.loop-count.buffer at.within in
    let same = length-put_mid c.loop-count.count c.loop-count.buffer c.read.new.into at.within long in
    let within : c.loop-count.count + c.in-Ok.more ≤ length c.loop-count.buffer = omega (arith, fits, long) in
    let ends = scan-filled c.loop-count.scan c.loop-count.count _ c.in-Ok.more c.loop-count.buffer c.read.new.into at.within fits at.scanned
    ∙ sym c.over.ensures ∙ c.in-Ok-over.is in
    record {
      within = omega (arith, same, within);
      head = head_in_front c.in-Ok-over.len (c.loop-count.count + c.in-Ok.more) _ (omega (arith, same, within)) ends;
      ends = ends;
      consumed = Consumes-filled (left c.args.link.now) (left c.loop-count.link) (left c.read.new.self) c.loop-count.count _ c.in-Ok.more
          c.loop-count.buffer c.read.new.into at.within fits at.consumed c.in-Ok.ensures.bytes.0;
    }

pub loop-count-preserved : goal.loop-count-preserved
loop-count-preserved g c =
    let left = g.L.Link.left in
    let at = c.loop-count.invariant in
    let fits = c.in-Ok.ensures.within.0 in
    let long = c.read.auto.into ∙ length-room c.loop-count.count c.loop-count.buffer at.within in
    let same = length-put_mid c.loop-count.count c.loop-count.buffer c.read.new.into at.within long in
    let later = c.in-Ok.ensures.cause.later in
    let before = at.later in
    let room = at.room in
    record {
      within = omega (arith, same, fits, long);
      room = same ∙ room;
      scanned = scan-filled c.loop-count.scan c.loop-count.count _ c.in-Ok.more c.loop-count.buffer c.read.new.into at.within fits at.scanned
          ∙ sym c.over.ensures ∙ c.in-Err-over.is;
      consumed = Consumes-filled (left c.args.link.now) (left c.loop-count.link) (left c.read.new.self) c.loop-count.count _ c.in-Ok.more
          c.loop-count.buffer c.read.new.into at.within fits at.consumed c.in-Ok.ensures.bytes.0;
      written = c.in-Ok.ensures.written ∙ at.written;
      later = omega (arith, later, before);
    }
