use Rattle.std.proofs.Common.{◌≡◌, ◌<◌, ◌≤◌, length, arith, sym, append-nil, ◌∙◌, ap}
use Rattle.std.specs.Prelude.{Ok, Err}
use Rattle.http_heads.specs.Scan.{head_end}
use Rattle.http_requests.proofs.CutLemmas.{head_end-within}
use Rattle.http_requests.proofs.ReadingLemmas.{Fills-trans, Read-after, Read-filled, scanned_more, grown, stops_in_head, faults_in_head}
use Rattle.http_requests.proofs.reading.await_head.Goals as goal

pub returns-in-Ok-clause-found : goal.returns-in-Ok-clause-found
returns-in-Ok-clause-found g c =
    let b = c.loop-len.buffer.items in
    let ends : head_end b ≡ Ok c.in-Ok.len = rw c.as_slice.ensures.value at (sym c.in-Ok.ensures) in
    (ends, head_end-within c.in-Ok.len b ends)

pub loop-len-preserved : goal.loop-len-preserved
loop-len-preserved g c =
    let left = g.L.Link.left in
    let b = c.loop-len.buffer.items in
    let now = c.read_more.new.buffer.items in
    let ends : head_end b ≡ Err c.in-Err.at = rw c.as_slice.ensures.value at (sym c.in-Err.ensures) in
    let few : length b < 16384 = omega (arith, c.if-len-ge-MAX_HEAD.false, c.len.ensures) in
    let all : c.len-seen.result ≡ length b = let long = rw c.as_slice.ensures.value at c.as_slice.ensures.len in omega (arith, c.len-seen.ensures, long) in
    let fill = c.in-Ok-true.ensures.filled in
    let later = c.in-Ok-true.ensures.later in
    let before = c.loop-len.invariant.later in
    record {
      filled = Fills-trans (left c.args.link.now) (left c.loop-len.link) (left c.read_more.new.link) c.args.buffer.now.items b now c.loop-len.invariant.filled fill;
      scanned = scanned_more b now fill.piece c.in-Err.at c.len-seen.result all ends few fill.added;
      seen = grown b now fill.piece c.len-seen.result all fill.added;
      short = omega (arith, all, few);
      most = let full = c.in-Ok-true.ensures.most in omega (arith, full);
      written = c.in-Ok-true.ensures.written ∙ c.loop-len.invariant.written;
      later = omega (arith, later, before);
    }

pub returns-in-Ok-false-clause-read : goal.returns-in-Ok-false-clause-read
returns-in-Ok-false-clause-read g c =
    let left = g.L.Link.left in
    let b = c.loop-len.buffer.items in
    Read-filled c.end_before.result (left c.args.link.now) (left c.read_more.new.link) c.args.buffer.now.items c.read_more.new.buffer.items
    (Fills-trans (left c.args.link.now) (left c.loop-len.link) (left c.read_more.new.link) c.args.buffer.now.items b c.read_more.new.buffer.items c.loop-len.invariant.filled c.in-Ok-false.ensures.filled)

pub returns-in-Ok-false-clause-stop : goal.returns-in-Ok-false-clause-stop
returns-in-Ok-false-clause-stop g c =
    let b = c.loop-len.buffer.items in
    let now = c.read_more.new.buffer.items in
    let end = c.in-Ok-false.ensures.end c.in-Ok-false.field-0-test in
    let same : now ≡ b = end.0 in
    let ends : head_end now ≡ Err c.in-Err.at = ap head_end same ∙ (rw c.as_slice.ensures.value at (sym c.in-Err.ensures)) in
    let few : length now < 16384 = rw same (omega (arith, c.if-len-ge-MAX_HEAD.false, c.len.ensures)) in
    stops_in_head c.end_before.result now c.in-Err.at (g.L.Link.left c.read_more.new.link) ends few (rw c.as_slice-in-Ok-false.ensures.value at c.end_before.ensures.closed) (rw c.as_slice-in-Ok-false.ensures.value at c.end_before.ensures.cut) c.end_before.ensures.ends end.1

pub returns-in-Err-read_more-clause-read : goal.returns-in-Err-read_more-clause-read
returns-in-Err-read_more-clause-read g c =
    let left = g.L.Link.left in
    Read-after c.in-Err-read_more.e (left c.args.link.now) (left c.loop-len.link) (left c.read_more.new.link) c.args.buffer.now.items c.loop-len.buffer.items c.read_more.new.buffer.items
    c.loop-len.invariant.filled c.in-Err-read_more.ensures.read

pub returns-in-Err-read_more-clause-stop : goal.returns-in-Err-read_more-clause-stop
returns-in-Err-read_more-clause-stop g c =
    let b = c.loop-len.buffer.items in
    let now = c.read_more.new.buffer.items in
    let same : now ≡ b = c.in-Err-read_more.ensures.kept in
    let ends : head_end now ≡ Err c.in-Err.at = ap head_end same ∙ (rw c.as_slice.ensures.value at (sym c.in-Err.ensures)) in
    let few : length now < 16384 = rw same (omega (arith, c.if-len-ge-MAX_HEAD.false, c.len.ensures)) in
    faults_in_head c.in-Err-read_more.e now c.in-Err.at (g.L.Link.left c.read_more.new.link) ends few c.in-Err-read_more.ensures.err
