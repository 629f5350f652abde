use Rattle.std.proofs.Common.{◌∙◌, arith}
use Rattle.pint_client.proofs.FillLemmas.{Consumes-filled, length-put_mid, length-room}
use Rattle.pint_client.proofs.receiving.fill.Goals as goal

pub loop-count-preserved : goal.loop-count-preserved
loop-count-preserved g c =
    let left = g.L.Link.left in
    let at = c.loop-count.invariant in
    let fits = c.in-Ok.ensures.within.0 in
    let long = c.read.auto.into ∙ length-room c.loop-count.count c.loop-count.buffer at.within in
    let same = length-put_mid c.loop-count.count c.loop-count.buffer c.read.new.into at.within long in
    let later = c.in-Ok.ensures.cause.later in
    let before = at.later in
    record {
      within = omega (arith, same, fits, long);
      consumed = Consumes-filled (left c.args.link.now) (left c.loop-count.link) (left c.read.new.self) c.loop-count.count _ c.in-Ok.more
          c.loop-count.buffer c.read.new.into at.within fits at.consumed c.in-Ok.ensures.bytes.0;
      written = c.in-Ok.ensures.written ∙ at.written;
      later = omega (arith, later, before);
    }
